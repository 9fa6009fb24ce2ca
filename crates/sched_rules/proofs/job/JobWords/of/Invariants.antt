-- The words that a done job keeps (`JobWords::of`): at each turn, those kept so far are the first of the root's.
use Rattle.std.proofs.Common.{◌≡◌, take}
use Rattle.sched_rules.proofs.job.JobWords.of.Given as goal

abbrev pub invariant-loop-at : goal.invariant-loop-at
invariant-loop-at l = l.words.items ≡ take l.at l.root
