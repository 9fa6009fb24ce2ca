-- A core does one step (`Core::step`): what a core keeps true, also that its frames fit, holds before and after it.
use Rattle.sched_core.proofs.Stepping.{kept-still, fits-still, stays-on-err}
use Rattle.sched_core.proofs.Fitting.{kept-fitting}
use Rattle.sched_core.proofs.scheduler.Core.step.Goals as goal

pub invariant_of-self : goal.invariant_of-self
invariant_of-self g c =
    let procedure = c.self.inside.engine.procedure in
    let own = g.met.P.Procedure in
    rw c.step.ensures.procedure (kept-fitting (g.P.Procedure.functions procedure) (g.P.Procedure.fits procedure) (g.P.Procedure.rooted procedure) _ _ _ _ _ _
    (record { next = own.next_keeps procedure; inlet = own.inlet_keeps procedure; accept = own.accept_keeps procedure })
    c.self.invariant c.step.ensures.one c.stays_fitting-self-inside.ensures.before (λ so ok. c.stays_fitting-self-inside.ensures.root so))

pub returns-clause-known : goal.returns-clause-known
returns-clause-known g c = (kept-still _ c.self.invariant.kept c.step.ensures.one).known

pub returns-clause-known_before : goal.returns-clause-known_before
returns-clause-known_before g c = rw (← c.self.view_is) c.self.invariant.kept.known

pub returns-clause-fitting : goal.returns-clause-fitting
returns-clause-fitting g c =
    let procedure = c.self.inside.engine.procedure in
    let own = g.met.P.Procedure in
    rw (← c.self.view_is)
    (fits-still {functions = g.P.Procedure.functions procedure} {fits = g.P.Procedure.fits procedure} {rooted = g.P.Procedure.rooted procedure}
    (record { next = own.next_keeps procedure; inlet = own.inlet_keeps procedure; accept = own.accept_keeps procedure }) c.self.invariant.kept c.step.ensures.one)

pub returns-clause-kept : goal.returns-clause-kept
returns-clause-kept g c = kept-still _ c.self.invariant.kept c.step.ensures.one

pub returns-clause-kept_before : goal.returns-clause-kept_before
returns-clause-kept_before g c = rw (← c.self.view_is) c.self.invariant.kept

pub step-requires : goal.step-requires
step-requires g c = c.self.invariant

pub returns-clause-one : goal.returns-clause-one
returns-clause-one g c = rw (← c.self.view_is) c.step.ensures.one

pub returns-clause-refused : goal.returns-clause-refused
returns-clause-refused g c = rw (← c.self.view_is) (stays-on-err _ c.step.ensures.one)

pub returns-clause-procedure : goal.returns-clause-procedure
returns-clause-procedure g c = rw (← c.self.view_is) c.step.ensures.procedure
