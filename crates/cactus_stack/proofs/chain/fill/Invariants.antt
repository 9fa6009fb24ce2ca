-- A segment of a stack is filled (`chain::fill`): at each turn, the words so far stand at its front, and behind them
-- what was there.
use Rattle.cactus_stack.proofs.Common.{◌≡◌, ◌++◌, take, drop}
use Rattle.cactus_stack.proofs.chain.fill.Given as goal

abbrev pub invariant-loop-i : goal.invariant-loop-i
invariant-loop-i l = l.block ≡ take l.i l.words ++ drop l.i l.initial.block
