-- The names that the proofs of a worker's rules use, imported in one place.
pub use Rattle.std.proofs.Common.{Bool, Err, IfOk, List, None, Option, Result, Some, [], arith, eqb, false, if◌then◌else◌, inl, inr, not, refl, replicate}
pub use Rattle.std.proofs.Common.{subst, sym, true, ℕ, ◌&&◌, ◌++◌, ◌+◌, ◌==◌, ◌∷◌, ◌≡◌, ◌⊎◌}
pub use Rattle.std.proofs.lemmas.Bool.{cases_Bool, eq-eqb, eqb-true}
pub use Rattle.frame_table.proofs.TreeChanges.{frame_at-aborted, frame_at-without, frame_at-other-without}
pub use Rattle.frame_table.proofs.TreeLaws.{frame_at-left, frame_at-push, frame_at-right}
pub use Rattle.frame_table.specs.Frames.{AllBelow, Frame, IsReadyAt, IsTree, aborted, frame_at, frames_without, is_ready, new_frame, root_of, with_state}
pub use Rattle.frame_table.specs.TreeLaws.{if_kept}
pub use Rattle.frame_table.specs.declared.names.FrameId.{FrameId}
pub use Rattle.frame_table.specs.declared.names.State.{State}
pub use Rattle.frame_table.specs.declared.names.State.TheVariants.{Ready, Returned, Running, Waiting}
pub use Rattle.jamboree_rules.specs.declared.leaf.Leaf.{Leaf}
pub use Rattle.jamboree_rules.specs.declared.leaf.LeafAnswer.{LeafAnswer}
pub use Rattle.sched_rules.specs.Functions.{Functions}
pub use Rattle.sched_rules.specs.Lone.{Outcome, act_by_sight, advance_tests, advanced, answer_tests, answered, at_frame, counted, does_wait, finish_tests}
pub use Rattle.sched_rules.specs.Lone.{finished, holding, in_state, inlet_tests, inlet_under, is_spendable, lone_step, spent, staying, steal_tests, take_tests}
pub use Rattle.sched_rules.specs.Lone.{taken_by, taken_in, then_done, unless}
pub use Rattle.sched_rules.specs.Runs.{tenant_of}
pub use Rattle.sched_rules.specs.Trees.{Tenant, Tree, has_child, is_root, stored, with_frame_words, without_job, words_in}
pub use Rattle.sched_rules.specs.declared.act.Act.{Act}
pub use Rattle.sched_rules.specs.declared.act.Continuation.{Continuation}
pub use Rattle.sched_rules.specs.declared.act.Continuation.TheVariants.{Compute, Go, Grow, Return, Spawn, Wait}
pub use Rattle.sched_rules.specs.declared.act.InletAct.{InletAct}
pub use Rattle.sched_rules.specs.declared.refusal.Refusal.{Refusal}
pub use Rattle.sched_rules.specs.declared.refusal.Refusal.TheVariants.{NotSpent}
pub use Rattle.sched_rules.specs.declared.step.DidOf.TheVariants.{TakenIn, Waited, Went}
pub use Rattle.sched_rules.specs.declared.step.StepOf.{StepOf}
pub use Rattle.sched_rules.specs.declared.step.StepOf.TheVariants.{Spend, Steal, Take}
pub use Rattle.jamboree_rules.specs.pool_rules.Readied.{IsNoneForgotten, IsOfAReadyFrame, PushesWhatIsReady, PushesWhatItReadied, frames_of_tenant}
pub use Rattle.jamboree_rules.specs.pool_rules.Turns.{frame_of_action, offered, readied, step_of, task_at}
pub use Rattle.jamboree_rules.specs.declared.pool_rules.turn.Action.{Action}
pub use Rattle.jamboree_rules.specs.declared.pool_rules.turn.Action.TheVariants.{Bring, Finish, Get, Run, TakeIn}
pub use Rattle.jamboree_rules.specs.declared.pool_rules.turn.Holding.{Holding}
pub use Rattle.jamboree_rules.specs.declared.pool_rules.turn.Holding.TheVariants.{Computing, GivingUp, Next, Nothing}
