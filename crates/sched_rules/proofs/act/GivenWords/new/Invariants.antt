-- The words of a new frame (`GivenWords::new`): at each turn, those taken so far are the first of those that are
-- given.
use Rattle.std.proofs.Common.{◌≡◌, take}
use Rattle.sched_rules.proofs.act.GivenWords.new.Given as goal

abbrev pub invariant-loop-word : goal.invariant-loop-word
invariant-loop-word l = l.held.items ≡ take l.word-index l.words
