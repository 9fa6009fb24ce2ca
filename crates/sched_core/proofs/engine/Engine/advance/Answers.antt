-- The core does an Advance (`Engine::advance`): the running frame's next act is done as the procedure says, a step is
-- counted, and the outcome is the definition's.
use Rattle.sched_core.proofs.Common.{refl, err_from_is_err_and}
use Rattle.sched_core.proofs.Deciding.{root-is, advance-told}
use Rattle.sched_core.proofs.TakenStep.{step_result-refused}
use Rattle.sched_core.proofs.Acting.{IsSetOut, sets-out}
use Rattle.sched_core.proofs.Advancing.{has-step-left, counted-there, counted-inside, goes-on, step_result-advance}
use Rattle.sched_core.proofs.Fitting.{seen-fits}
use Rattle.sched_core.proofs.engine.Engine.advance.Given.{Over}
use Rattle.sched_core.proofs.engine.Engine.advance.Goals.{In_ok-may_do}
use Rattle.sched_core.proofs.engine.Engine.advance.Goals as goal

pub next_of-act-requires : goal.next_of-act-requires
next_of-act-requires g c so =
    let s = c.in_ok-seen.ensures.frame in
    let procedure = c.args.self.now.procedure in
    rw c.in_ok-seen.ensures.sight (seen-fits (g.P.Procedure.fits procedure) (g.P.Procedure.rooted procedure) (c.requires.fit so) s.2.seen_so)

-- the act may be done
set : (g : Over) (c : In_ok-may_do g) →
    IsSetOut (g.P.Procedure.functions c.args.self.now.procedure) c.args.self.now.store c.args.worker c.args.name c.in_ok-seen.ensures.frame.0
    c.in_ok-seen.ensures.frame.1 c.next_of-act.result
set g c =
    let s = c.in_ok-seen.ensures.frame in
    sets-out s.2 (rw c.in_ok-seen.ensures.sight at c.next_of-act.ensures)
    (c.in_ok-may_do.ensures s.0 s.1 _ s.2.seen_so refl c.in_ok-seen.ensures.words)

pub returns-in_err-may_do-clause-step_result : goal.returns-in_err-may_do-clause-step_result
returns-in_err-may_do-clause-step_result g c =
    let s = c.in_ok-seen.ensures.frame in
    let p = err_from_is_err_and c.from_residual-in_err-may_do.result c.from_residual-in_err-may_do.ensures.1 in
    step_result-refused p.1 p.2
    (advance-told (g.P.Procedure.functions c.args.self.now.procedure) _ (rw c.in_ok-seen.ensures.sight at c.next_of-act.ensures)
    (c.in_err-may_do.ensures s.0 s.1 _ s.2.seen_so refl c.in_ok-seen.ensures.words) s.2) refl

pub count_step-requires : goal.count_step-requires
count_step-requires g c = has-step-left (set g (goal.at.count_step-requires g c).In_ok-may_do)

pub store_all-requires-clause-there : goal.store_all-requires-clause-there
store_all-requires-clause-there g c = counted-there (set g (goal.at.store_all-requires-clause-there g c).In_ok-may_do) c.count_step.ensures

pub store_all-requires-clause-inside : goal.store_all-requires-clause-inside
store_all-requires-clause-inside g c =
    rw c.as_slice.ensures (counted-inside (set g (goal.at.store_all-requires-clause-inside g c).In_ok-may_do) c.count_step.ensures)

pub go_on-requires : goal.go_on-requires
go_on-requires g c =
    (_, _, goes-on (set g (goal.at.go_on-requires g c).In_ok-may_do) c.count_step.ensures (rw c.as_slice.ensures at c.store_all.ensures) c.requires.kept.shaped)

pub returns-clause-step_result : goal.returns-clause-step_result
returns-clause-step_result g c =
    let s = c.in_ok-seen.ensures.frame in
    step_result-advance (set g (goal.at.returns-clause-step_result g c).In_ok-may_do) c.count_step.ensures (rw c.as_slice.ensures at c.store_all.ensures)
    c.requires.kept.shaped
    (root-is c.is_none-is_root.result c.in_ok-seen.field-0.seen s.1.path c.is_none-is_root.ensures s.2.seen_so.root) c.go_on.ensures.came
