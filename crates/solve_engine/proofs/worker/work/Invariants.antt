-- The one worker of `solve` (`worker::work`): at each turn, the core is still one of that tenant's job.
use Rattle.solve_engine.proofs.Common.{Keeps}
use Rattle.solve_engine.proofs.worker.work.Given as goal

abbrev pub invariant-loop-turn : goal.invariant-loop-turn
invariant-loop-turn g l = Keeps l.initial.searcher.core l.searcher.core
