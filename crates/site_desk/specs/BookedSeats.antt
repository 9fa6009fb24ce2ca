-- Meaning: who is at the hall of a site's desk, and what each reserves, by the book's grants and by the hall's
-- tenants.
use Rattle.std.specs.Prelude.{ℕ, List, map}
use Rattle.tenant_quota.specs.Reserves.{ReserveOf}
use Rattle.sched_rules.specs.Trees.{Tenant}
use Rattle.site_book.specs.declared.held.Grant.{Grant}

-- a session that is at the hall: its number, and what it reserves
abbrev pub BookedSeat : Type 0
BookedSeat = ℕ × ReserveOf

-- the sessions of a book's grants with what each reserves, in order
abbrev pub seats_in_book : List Grant → List BookedSeat
seats_in_book grants = map (λ held. (held.session, held.ask)) grants

-- a hall's tenants with what each reserves, in order
abbrev pub seats_in_hall : List (ℕ × Tenant) → List BookedSeat
seats_in_hall tenants = map (λ entry. (entry.0, entry.1.reserve)) tenants

-- the number of a seat at the hall, which is its session's and its tenant's
abbrev pub number_of : BookedSeat → ℕ
number_of seat = seat.0
