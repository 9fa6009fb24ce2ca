-- A test's count of leaves (`examples::leaves`): it ends, as each call has a ply less.
use Rattle.serial_tests.proofs.tests.search.examples.+leaves.Given as goal

abbrev pub decreases-leaves : goal.decreases-leaves
decreases-leaves l = l.depth
