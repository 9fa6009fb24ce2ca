-- What a node of a stack sees (`Sight::up`): at each turn, the node reached sees what is left of the levels.
use Rattle.cactus_stack.proofs.Common.{drop, Some, IsSight}
use Rattle.cactus_stack.proofs.sight.Sight.up.Given as goal

abbrev pub invariant-loop-above : goal.invariant-loop-above
invariant-loop-above l = IsSight l.self-inside.stack (Some l.node) (drop l._above l.self)
