-- Representation: the states of a worked example: a book of reservations of 8 segments and 32 nodes.
use Rattle.std.specs.Prelude.{ℕ}
use Rattle.tenant_quota.specs.Reserves.{ReserveOf}
use Rattle.tenant_quota.specs.declared.account.Left.{Left}
use Rattle.tenant_quota.specs.declared.book.Rest.{Rest}
use Rattle.tenant_quota.specs.Accounts.{raised_to, charged_by, credited_by, ticked}
use Rattle.tenant_quota.specs.Reservations.{Reservations, empty_of, admitted, changed, released}

-- a reservation of these amounts
abbrev pub quota : ℕ → ℕ → ReserveOf
quota segments nodes = record { segments = segments; nodes = nodes }

-- what a tenant has left, in these amounts: segments, nodes, steps
abbrev pub left : ℕ → ℕ → ℕ → Left
left segments nodes steps = record { segments = segments; nodes = nodes; steps = steps }

-- what isn't reserved of a book, in these amounts: places for tenants, segments, nodes
abbrev pub rest : ℕ → ℕ → ℕ → Rest
rest tenants segments nodes = record { tenants = tenants; segments = segments; nodes = nodes }

-- tenant 2 has reserved 3 segments and 8 nodes, then tenant 1 has reserved 5 and 8
abbrev pub two_tenants : Reservations
two_tenants = admitted (admitted (empty_of 8 32) 2 (quota 3 8)) 1 (quota 5 8)

-- tenant 1 is then charged 5 segments for one node
abbrev pub after_charge : Reservations
after_charge = changed two_tenants 1 (charged_by 5 1)

-- the example's book once tenant 1 has taken a step
abbrev pub after_tick : Reservations
after_tick = changed after_charge 1 ticked

-- the example's book once tenant 1 has given its 5 segments back
abbrev pub after_credit : Reservations
after_credit = changed after_tick 1 (credited_by 5)

-- the example's book once tenant 2 has left
abbrev pub after_release : Reservations
after_release = released after_credit 2

-- tenant 1 then raises what it has reserved to 8 segments, which is the total, and 24 nodes
abbrev pub after_raise : Reservations
after_raise = changed after_release 1 (raised_to (quota 8 24))
