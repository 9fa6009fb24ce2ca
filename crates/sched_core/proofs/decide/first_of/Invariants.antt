-- The core decides a step by a list of tests (`decide::first_of`): at each turn, no test so far refuses the step.
use Rattle.sched_core.proofs.Common.{◌≡◌, drop, unless}
use Rattle.sched_core.proofs.decide.first_of.Given as goal

abbrev pub invariant-loop-test : goal.invariant-loop-test
invariant-loop-test l = unless l.tests (tt {0}) ≡ unless (drop l.test-index l.tests) (tt {0})
