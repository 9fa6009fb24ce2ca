-- The core judges an Inlet (`Engine::may_inlet`): its refusal, or none, is that of the step's definition.
use Rattle.sched_core.proofs.Common.{arith}
use Rattle.sched_core.proofs.Parents.{parent-there, inlet-told}
use Rattle.sched_core.proofs.engine.Engine.may_inlet.Goals as goal

pub known-above-requires : goal.known-above-requires
known-above-requires g c =
    let s = c.in_ok-own.ensures.frame in
    parent-there s.3.seen_so s.3.above

pub returns : goal.returns
returns g c = grind (arith, inlet-told)
