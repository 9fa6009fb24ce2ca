-- The core judges an Advance (`Engine::may_advance`): its refusal, or none, is that of the step's definition.
use Rattle.sched_core.proofs.Common.{refl, arith}
use Rattle.sched_core.proofs.Deciding.{advance-told}
use Rattle.sched_core.proofs.engine.Engine.may_advance.Goals as goal

pub returns : goal.returns
returns g c = let s = c.in_ok-found.ensures.frame in
    let told = c.may_do.ensures s.0 s.1 _ s.2.seen_so refl c.in_ok-found.ensures.words in grind (arith, advance-told)
