-- The core judges an Answer (`Engine::accepted`): it is refused exactly where the definition of the step refuses it,
-- by the same number.
use Rattle.frame_table.proofs.TreeLaws.{missing}
use Rattle.sched_core.proofs.Common.{not, ◌≡◌, arith, err_from_is_err_and, words_under}
use Rattle.sched_core.proofs.Deciding.{answer-told}
use Rattle.sched_core.proofs.Fitting.{own-fits}
use Rattle.sched_core.proofs.engine.Engine.accepted.Goals as goal

pub accept_of-stores-requires : goal.accept_of-stores-requires
accept_of-stores-requires g c so =
    let procedure = c.args.self.now.procedure in
    rw c.in_ok-seen.ensures.words (own-fits (g.P.Procedure.fits procedure) (g.P.Procedure.rooted procedure) (c.requires so) c.in_ok-seen.ensures.frame.2)

pub returns-in_err-seen-clause-refusal : goal.returns-in_err-seen-clause-refusal
returns-in_err-seen-clause-refusal g c = grind (arith, missing)

pub returns-in_err-first_of_four-clause-refusal : goal.returns-in_err-first_of_four-clause-refusal
returns-in_err-first_of_four-clause-refusal g c =
    let s = c.in_ok-seen.ensures.frame in
    let words = c.in_ok-seen.ensures.words in
    let functions = g.P.Procedure.functions c.args.self.now.procedure in
    let other : c.ne.result ≡ not (functions.same (functions.asked c.args.answer.now) (functions.input (words_under c.args.self.now.store c.args.name))) = cc (g.met.P.Procedure.compares c.args.self.now.procedure, words) in
    let p = err_from_is_err_and c.from_residual-in_err-first_of_four.result c.from_residual-in_err-first_of_four.ensures.1 in rw (p.1, p.2) (answer-told functions c.args.worker c.args.answer.now s.2 (rw (← c.number.ensures.value) c.is_computed_by.ensures) (grind arith) (cc words) c.in_err-first_of_four.ensures)

pub returns-clause-refusal : goal.returns-clause-refusal
returns-clause-refusal g c = grind arith
