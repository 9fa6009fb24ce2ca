-- A line of those who share (`line::longest_in`): at each turn, no account passed has waited longer than the best so
-- far.
use Rattle.fair_share.proofs.Common.{IsLongestBelow}
use Rattle.fair_share.proofs.line.longest_in.Given as goal

abbrev pub invariant-loop-place : goal.invariant-loop-place
invariant-loop-place l = IsLongestBelow l.place l.accounts l.best
