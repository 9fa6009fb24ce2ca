-- Meaning: the grants that are out in the book of a site's customers (an entry for each session), and what some of
-- them have together.
use Rattle.std.specs.Prelude.{ℕ, suc, ◌==◌, Bool, true, ◌&&◌, ◌||◌, nat_lt, List, [], ◌∷◌, Option, Some, None, if◌then◌else◌}
use Rattle.tenant_quota.specs.Reserves.{ReserveOf}
use Rattle.site_book.specs.declared.amount.Amount.{Amount}
use Rattle.site_book.specs.declared.held.Grant.{Grant}
use Rattle.site_book.specs.declared.held.Group.{Group}
use Rattle.site_book.specs.declared.held.Group.TheVariants.{Own, Network, Guests, All}
use Rattle.site_book.specs.declared.who.Who.{Who}
use Rattle.site_book.specs.Names.{same_who, is_guest, network_of}
use Rattle.site_book.specs.Amounts.{nothing, of_one, plus}

-- whether the grants of this customer belong to this part of all grants
abbrev pub is_in : Group → Who → Bool
is_in (Own who) other = same_who who other
is_in (Network who) other = is_guest other && same_who who (network_of other)
is_in Guests other = is_guest other
is_in All other = true

-- what the grants of the customers that pass the test have together
abbrev pub used_by : (Who → Bool) → List Grant → Amount
used_by test [] = nothing
used_by test (held ∷ grants) = if test held.who then plus (of_one held.ask) (used_by test grants) else used_by test grants

-- what the grants of a part have together: sessions, segments and nodes
abbrev pub used : Group → List Grant → Amount
used part grants = used_by (is_in part) grants

-- whether a grant is of this session of this customer
abbrev pub is_held_as : Who → ℕ → Grant → Bool
is_held_as who session held = same_who who held.who && (session == held.session)

-- the place of the first grant of this session; the number of grants where there is none
abbrev pub grant_place : Who → ℕ → List Grant → ℕ
grant_place who session [] = 0
grant_place who session (held ∷ grants) = if is_held_as who session held then 0 else suc (grant_place who session grants)

-- the first grant of this session; None where there is none
abbrev pub grant_of : Who → ℕ → List Grant → Option Grant
grant_of who session [] = None
grant_of who session (held ∷ grants) = if is_held_as who session held then Some held else grant_of who session grants

-- the grants without the first of this session
abbrev pub grants_without : Who → ℕ → List Grant → List Grant
grants_without who session [] = []
grants_without who session (held ∷ grants) = if is_held_as who session held then grants else held ∷ grants_without who session grants

-- the grants, once the first of this session reserves this
abbrev pub grants_raised : Who → ℕ → ReserveOf → List Grant → List Grant
grants_raised who session ask [] = []
grants_raised who session ask (held ∷ grants) = if is_held_as who session held then record held { ask = ask } ∷ grants else held ∷ grants_raised who session ask grants

-- whether a second reservation is no raise of the first: less in segments or nodes, or the same in both
abbrev pub is_no_raise : ReserveOf → ReserveOf → Bool
is_no_raise now ask = nat_lt ask.segments now.segments || nat_lt ask.nodes now.nodes || ((ask.segments == now.segments) && (ask.nodes == now.nodes))
