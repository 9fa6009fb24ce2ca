-- A window for a child (`Window::of_child`): from -beta to the negated greater of alpha and best, which stays a
-- window.
use Rattle.leaf_search.proofs.Common.{arith, ints, clamps}
use Rattle.leaf_search.proofs.window.Window.of_child.Goals as goal

pub invariant_of-result : goal.invariant_of-result
invariant_of-result c = record {
  least = omega (arith, ints, clamps);
  «open» = omega (arith, ints, clamps, c.max.ensures.value);
  greatest = omega (arith, ints, clamps, c.max.ensures.value);
}

pub returns-clause-beta : goal.returns-clause-beta
returns-clause-beta c = omega (arith, ints, clamps, c.max.ensures.value)
