-- The one worker of `solve` (`worker::work`): a turn leaves the core one of that tenant's job.
use Rattle.solve_engine.proofs.worker.work.Goals as goal

pub loop-turn-preserved : goal.loop-turn-preserved
loop-turn-preserved g c task works = c.turn.ensures task (c.loop-turn.invariant task works)
