-- A pool that nobody shares yet (`FairShare::new`): at each turn, the customers so far were served nothing, and there
-- is room for the rest.
use Rattle.fair_share.proofs.Common.{◌≡◌, ◌≤◌, replicate, vec_capacity}
use Rattle.fair_share.proofs.shares.FairShare.new.Given as goal

abbrev pub invariant-loop-customer : goal.invariant-loop-customer
invariant-loop-customer l = record { items : l.kept.items ≡ replicate l._customer 0; room : l.customers ≤ vec_capacity l.kept }
