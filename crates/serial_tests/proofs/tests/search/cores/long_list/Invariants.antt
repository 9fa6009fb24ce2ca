-- A test's list of 127 steps of searches (`cores::long_list`): at each turn, all steps so far ask for searches.
use Rattle.jamboree_core.specs.Replies.{AreSearches}
use Rattle.serial_tests.proofs.tests.search.cores.long_list.Given as goal

abbrev pub invariant-loop-at : goal.invariant-loop-at
invariant-loop-at l = AreSearches l.steps.items
