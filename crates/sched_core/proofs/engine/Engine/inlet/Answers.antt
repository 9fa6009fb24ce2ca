-- The core does an Inlet (`Engine::inlet`): the returned child is taken out, its parent's words are stored, and the
-- outcome is the definition's.
use Rattle.sched_core.proofs.Common.{◌≡◌, true, false, refl, sym, ◌∙◌, err_from_is_err_and, words_under}
use Rattle.sched_core.proofs.TakenStep.{step_result-refused}
use Rattle.sched_core.proofs.Parents.{parent-there, inlet-told}
use Rattle.sched_core.proofs.Inlets.{IsTakenOut, takes-in, may-be-taken-in, takes-out, still-there, still-inside, stored-left, counted-there, step_result-inlet}
use Rattle.sched_core.proofs.Fitting.{parent-fits}
use Rattle.sched_core.proofs.engine.Engine.inlet.Given.{Over}
use Rattle.sched_core.proofs.engine.Engine.inlet.Goals.{After-may_take_in, After-as_slice}
use Rattle.sched_core.proofs.engine.Engine.inlet.Goals as goal

pub inlet_of-act-requires : goal.inlet_of-act-requires
inlet_of-act-requires g c so =
    let s = c.in_ok-own.ensures.frame in
    let procedure = c.args.self.now.procedure in
    rw (c.in_ok-own.ensures.words, c.known-state.ensures.words)
    (parent-fits (g.P.Procedure.fits procedure) (g.P.Procedure.rooted procedure) (c.requires.fit so) s.3)

pub known-state-requires : goal.known-state-requires
known-state-requires g c =
    let s = c.in_ok-own.ensures.frame in
    parent-there s.3.seen_so s.3.above

-- the act is the procedure's inlet of the words of both
acts : (g : Over) (c : After-may_take_in g) →
    c.inlet_of-act.result ≡ (g.P.Procedure.functions c.args.self.now.procedure).inlet (words_under c.args.self.now.store c.in_ok-own.parent)
    (words_under c.args.self.now.store c.args.name)
acts g c = rw (c.in_ok-own.ensures.words, c.known-state.ensures.words) at c.inlet_of-act.ensures

-- the child is taken out
out : (g : Over) (c : After-as_slice g) →
    IsTakenOut (g.P.Procedure.functions c.args.self.now.procedure) c.args.self.now.store c.args.worker c.args.name c.in_ok-own.parent
    c.in_ok-own.ensures.frame.0 c.in_ok-own.ensures.frame.1 c.inlet_of-act.result c.take_out-aborted.new.store
out g c =
    let s = c.in_ok-own.ensures.frame in
    let does = acts g (goal.at.store_all-requires-clause-there g c).After-may_take_in in
    takes-out c.requires.kept.shaped s.3 c.known-state.ensures.rising does
    (rw c.known-state.ensures.words at c.in_ok-may_take_in.ensures) c.take_out-aborted.ensures.left

pub returns-in_err-may_take_in-clause-step_result : goal.returns-in_err-may_take_in-clause-step_result
returns-in_err-may_take_in-clause-step_result g c =
    let s = c.in_ok-own.ensures.frame in
    let p = err_from_is_err_and c.from_residual-in_err-may_take_in.result c.from_residual-in_err-may_take_in.ensures.1 in
    let does = acts g (goal.at.returns-in_err-may_take_in-clause-step_result g c).After-may_take_in in
    step_result-refused p.1 p.2 (inlet-told (g.P.Procedure.functions c.args.self.now.procedure) _
    c.known-state.ensures.rising s.3 does (rw c.known-state.ensures.words at c.in_err-may_take_in.ensures)) refl

pub take_out-aborted-requires : goal.take_out-aborted-requires
take_out-aborted-requires g c =
    let told = rw c.known-state.ensures.words at c.in_ok-may_take_in.ensures in
    let s = c.in_ok-own.ensures.frame in
    let does = acts g (goal.at.take_out-aborted-requires g c).After-may_take_in in
    let takes = takes-in (g.P.Procedure.functions c.args.self.now.procedure) does s.3 c.known-state.ensures.rising told in
    (_, _, may-be-taken-in takes c.requires.kept.shaped)

pub store_all-requires-clause-there : goal.store_all-requires-clause-there
store_all-requires-clause-there g c = still-there (out g (goal.at.store_all-requires-clause-there g c).After-as_slice)

pub store_all-requires-clause-inside : goal.store_all-requires-clause-inside
store_all-requires-clause-inside g c = rw c.as_slice.ensures (still-inside (out g (goal.at.store_all-requires-clause-inside g c).After-as_slice))

pub count_step-requires : goal.count_step-requires
count_step-requires g c = stored-left (out g (goal.at.count_step-requires g c).After-as_slice) (rw c.as_slice.ensures at c.store_all.ensures)

pub returns-then-not-is_woken-clause-step_result : goal.returns-then-not-is_woken-clause-step_result
returns-then-not-is_woken-clause-step_result g c =
    step_result-inlet (out g (goal.at.returns-then-not-is_woken-clause-step_result g c).After-as_slice) (rw c.as_slice.ensures at c.store_all.ensures)
    c.count_step.ensures false c.known-state.ensures.state c.is_waiting-was_waiting.ensures c.take_out-aborted.ensures.count
    (sym c.is_to_wake-is_woken.ensures ∙ c.if-not-is_woken.true) refl

pub set_state-requires-clause-there : goal.set_state-requires-clause-there
set_state-requires-clause-there g c =
    counted-there (out g (goal.at.set_state-requires-clause-there g c).After-as_slice) (rw c.as_slice.ensures at c.store_all.ensures) c.count_step.ensures

pub returns-clause-step_result : goal.returns-clause-step_result
returns-clause-step_result g c =
    step_result-inlet (out g (goal.at.returns-clause-step_result g c).After-as_slice) (rw c.as_slice.ensures at c.store_all.ensures) c.count_step.ensures true
    c.known-state.ensures.state c.is_waiting-was_waiting.ensures c.take_out-aborted.ensures.count
    (sym c.is_to_wake-is_woken.ensures ∙ c.if-not-is_woken.false) (rw c.number.ensures.value at c.set_state.ensures)
