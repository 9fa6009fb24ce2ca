-- A core does a list of steps (`Core::run`): each answer is that of the definitions, one after the other, so the
-- headline holds of the list.
use Rattle.sched_core.proofs.Common.{append-nil}
use Rattle.sched_core.proofs.Common.{arith, take_more}
use Rattle.sched_core.proofs.Stepping.{runs-on, runs-out, fits-on}
use Rattle.sched_core.proofs.scheduler.Core.run.Goals as goal
use Rattle.std.proofs.lemmas.List.{take_all}

pub loop-step-init : goal.loop-step-init
loop-step-init g c = grind (arith, append-nil)

pub push_reserved-requires : goal.push_reserved-requires
push_reserved-requires g c = grind arith

pub loop-step-preserved : goal.loop-step-preserved
loop-step-preserved g c =
    let i = c.loop-step.invariant in
    let one = c.step-answer.ensures.one in
    let more = take_more c.args.steps.now c.loop-step.step-index c.step-item.result c.loop-step-test.true in
    let p = c.push_reserved.ensures in
    record {
      procedure = grind arith;
      room = omega (arith, p.len, p.capacity, i.room);
      runs = grind (arith, runs-on);
    }

pub returns-clause-headline : goal.returns-clause-headline
returns-clause-headline g c =
    let runs = rw (take_all c.loop-step.step-index c.args.steps.now c.loop-step-test.false, c.in_ok-reserve.ensures.items) at c.loop-step.invariant.runs in
    runs-out (rw (← c.self.view_is) c.self.invariant.kept.known) runs

pub returns-clause-fitting : goal.returns-clause-fitting
returns-clause-fitting g c =
    let runs = rw (take_all c.loop-step.step-index c.args.steps.now c.loop-step-test.false, c.in_ok-reserve.ensures.items) at c.loop-step.invariant.runs in
    let procedure = c.args.self.now.procedure in
    let own = g.met.P.Procedure in
    fits-on {functions = g.P.Procedure.functions procedure} {fits = g.P.Procedure.fits procedure} {rooted = g.P.Procedure.rooted procedure}
    (record { next = own.next_keeps procedure; inlet = own.inlet_keeps procedure; accept = own.accept_keeps procedure })
    (rw (← c.self.view_is) c.self.invariant.kept) runs
