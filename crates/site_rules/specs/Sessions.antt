-- Meaning: which of the sessions that are there a hall and a number mean, and which are a customer's, a part's or an address's.
use Rattle.std.specs.Prelude.{ℕ, suc, ◌==◌, ◌&&◌, Bool, false, List, [], ◌∷◌, Option, Some, None, if◌then◌else◌}
use Rattle.site_book.specs.declared.held.Group.{Group}
use Rattle.site_book.specs.declared.who.Who.{Who}
use Rattle.site_book.specs.declared.who.Who.TheVariants.{Named, V4 as WhoV4}
use Rattle.site_book.specs.Names.{same_who}
use Rattle.site_book.specs.Grants.{is_in}
use Rattle.site_file.specs.declared.address.Address.{Address}
use Rattle.site_file.specs.declared.address.Address.TheVariants.{V4, V6}
use Rattle.site_rules.specs.declared.sessions.LinkedSession.{LinkedSession}

-- a session is the one of this number in this hall
abbrev pub is_session : {T : Type 0} → ℕ → ℕ → LinkedSession T → Bool
is_session hall session own = (own.hall == hall) && (own.session == session)

-- the place of the session of this number in this hall, where the first of these is at `place`; None where it isn't there
abbrev pub session_place : {T : Type 0} → ℕ → ℕ → ℕ → List (LinkedSession T) → Option ℕ
session_place hall session place [] = None
session_place hall session place (own ∷ others) = if is_session hall session own then Some place else session_place hall session (suc place) others

-- the hall of a customer's first session; None where it has none
abbrev pub hall_with : {T : Type 0} → Who → List (LinkedSession T) → Option ℕ
hall_with who [] = None
hall_with who (own ∷ others) = if same_who own.who who then Some own.hall else hall_with who others

-- how many sessions belong to a part of all
abbrev pub many_of : {T : Type 0} → Group → List (LinkedSession T) → ℕ
many_of part [] = 0
many_of part (own ∷ others) = if is_in part own.who then suc (many_of part others) else many_of part others

-- whether two addresses are the same
abbrev pub is_same_address : Address → Address → Bool
is_same_address (V4 a) (V4 b) = a == b
is_same_address (V6 a low) (V6 b other) = (a == b) && (low == other)
is_same_address _ _ = false

-- the halls and numbers of the sessions whose connections come from an address
abbrev pub names_from : {T : Type 0} → Address → List (LinkedSession T) → List (ℕ × ℕ)
names_from address [] = []
names_from address (own ∷ others) = if is_same_address own.address address then (own.hall, own.session) ∷ names_from address others else names_from address others

-- three sessions for a worked example: two of the same number in two halls, and two from one address
abbrev pub three_sessions : List (LinkedSession (Unit {0}))
three_sessions =
    record { hall = 0; session = 7; who = Named 3; address = V4 9; link = tt }
    ∷ record { hall = 1; session = 7; who = WhoV4 9; address = V4 9; link = tt }
    ∷ record { hall = 1; session = 8; who = WhoV4 8; address = V4 8; link = tt } ∷ []
