-- Representation: guests and sessions of a site's small hall, on which the definitions are tried.
use Rattle.std.specs.Prelude.{ℕ, List, [], ◌∷◌}
use Rattle.site_book.specs.declared.held.Grant.{Grant}
use Rattle.site_book.specs.declared.who.Who.{Who}
use Rattle.site_book.specs.declared.who.Who.TheVariants.{V4}
use Rattle.site_book.specs.Rows.{ask, school, small}
use Rattle.site_book.specs.declared.coming.Coming.{Coming}
use Rattle.site_book.specs.declared.present.Present.{Present}
use Rattle.site_book.specs.Comings.{coming, comer_of}
use Rattle.site_book.specs.Rolls.{newcomer}

-- the grant of the guest of this number, of 4 segments and 50 nodes
abbrev pub guest_held : ℕ → Grant
guest_held number = record { who = V4 number; session = number; ask = ask 4 50 }

-- a grant of the school, with so many segments
abbrev pub named_held : ℕ → ℕ → Grant
named_held session segments = record { who = school; session = session; ask = ask segments 100 }

-- the entry of a guest that came at this time, and has said nothing since
abbrev pub guest : ℕ → ℕ → Present
guest number now = newcomer (V4 number) number now

-- the entry of the school's session of this number, which came at this time
abbrev pub named_present : ℕ → ℕ → Present
named_present session now = newcomer school session now

-- the grants of guests 1 and 2
abbrev pub two_guests : List Grant
two_guests = guest_held 1 ∷ guest_held 2 ∷ []

-- what comes of one who asks for a session of 1 segment and 1 node while guests 1 and 2 are there, where a guest may be
-- silent for 60 milliseconds
abbrev pub asks : List Present → Who → ℕ → Coming
asks roll who now = coming small two_guests roll (comer_of who (ask 1 1) now 60)
