-- Finding the place of a customer's count.
use Rattle.std.proofs.Common.{◌≡◌, ◌+◌, drop}
use Rattle.site_rules.specs.Connections.{count_place}
use Rattle.site_rules.proofs.connections.place_of.Given as goal

-- none of those before is the customer's
abbrev pub invariant-loop-place : goal.invariant-loop-place
invariant-loop-place l = l.place + count_place l.who (drop l.place l.customers) ≡ count_place l.who l.customers
