-- Meaning: amounts of a site's sessions, segments and nodes, compared and added one by one.
use Rattle.std.specs.Prelude.{◌+◌, ◌-◌, ◌≤◌, ◌==◌, ◌&&◌, Bool, nat_le, List, [], ◌∷◌}
use Rattle.tenant_quota.specs.Reserves.{ReserveOf}
use Rattle.site_book.specs.declared.amount.Amount.{Amount}

-- the amount of no session: no segments and no nodes
abbrev pub nothing : Amount
nothing = record { sessions = 0; segments = 0; nodes = 0 }

-- the amount of a single session with this reservation
abbrev pub of_one : ReserveOf → Amount
of_one ask = record { sessions = 1; segments = ask.segments; nodes = ask.nodes }

-- two amounts together
abbrev pub plus : Amount → Amount → Amount
plus a b = record { sessions = a.sessions + b.sessions; segments = a.segments + b.segments; nodes = a.nodes + b.nodes }

-- the first amount less the second
abbrev pub minus : Amount → Amount → Amount
minus a b = record { sessions = a.sessions - b.sessions; segments = a.segments - b.segments; nodes = a.nodes - b.nodes }

-- all of these amounts together
abbrev pub sum_of : List Amount → Amount
sum_of [] = nothing
sum_of (a ∷ amounts) = plus a (sum_of amounts)

-- no more than the other in sessions, segments and nodes
pub record IsAmountWithin (a b : Amount) : Type 0 where
  pub sessions : a.sessions ≤ b.sessions
  pub segments : a.segments ≤ b.segments
  pub nodes : a.nodes ≤ b.nodes

-- whether one amount is no more than the other
abbrev pub is_amount_within : Amount → Amount → Bool
is_amount_within a b = nat_le a.sessions b.sessions && nat_le a.segments b.segments && nat_le a.nodes b.nodes

-- whether two amounts are the same
abbrev pub is_same : Amount → Amount → Bool
is_same a b = (a.sessions == b.sessions) && (a.segments == b.segments) && (a.nodes == b.nodes)
