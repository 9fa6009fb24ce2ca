-- The core tests whether a frame's job may be given up (`Engine::is_spendable`): the answer is that of the definition
-- for a frame that runs.
use Rattle.sched_core.proofs.Common.{sym, ◌∙◌}
use Rattle.sched_core.proofs.Deciding.{spend-running, seen-words, seen-child}
use Rattle.sched_core.proofs.engine.Engine.is_spendable.Goals as goal

pub returns-in-Running : goal.returns-in-Running
returns-in-Running g c tenant frame is =
    c.is_err.ensures.value ∙ spend-running (g.P.Procedure.functions c.args.self.now.procedure) c.next-act.result is c.in-Running.is c.if-seen-eq0.false
    (rw (← c.sight.ensures) c.next-act.ensures)
    (c.may_act.ensures tenant frame (seen-words is ∙ sym c.own-words.ensures) (rw (seen-child is) (c.has_child_for-has_child.ensures _)) (sym is.left))
