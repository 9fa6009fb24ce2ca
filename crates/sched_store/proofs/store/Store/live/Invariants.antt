-- The core's store counts a tenant's words (`Store::live`): at each turn, the words counted so far and those of the
-- frames still to come are all.
use Rattle.sched_store.proofs.Lookups.{◌≡◌, ◌+◌, length, sum_by, words_under}
use Rattle.sched_store.proofs.store.Store.live.Given as goal

abbrev pub invariant-loop-name : goal.invariant-loop-name
invariant-loop-name g l = l.words + sum_by (λ name. length (words_under l.self name)) l.name-iterator ≡ sum_by (λ name. length (words_under l.self name)) l.initial.name-iterator
