-- A line of those who share (`line::next_in`): at each turn, no account passed comes before the best so far.
use Rattle.fair_share.proofs.Common.{IsBestBelow}
use Rattle.fair_share.proofs.line.next_in.Given as goal

abbrev pub invariant-loop-place : goal.invariant-loop-place
invariant-loop-place l = IsBestBelow l.group l.accounts l.place l.best
