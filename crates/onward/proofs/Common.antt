-- The names that the proofs of this crate use, imported in one place.
pub use Rattle.std.proofs.Common.{Bool, IfSome, List, None, Ok, Option, Result, Some, [], ap, arith, cond, false, inl, inr, length, refl, subst, suc, sym, true, zero, ℕ, ◌&&◌, ◌++◌, ◌+◌, ◌<◌, ◌∙◌, ◌∷◌, ◌≡◌, ◌≢◌, ◌≤◌, ◌⊎◌}
pub use Rattle.std.proofs.lemmas.Bool.{cases_Bool, cases_eq, eq-eqb, eqb-true, eqb-false, false≢true, ne_eqb}
pub use Rattle.std.proofs.lemmas.Int.{ints}
pub use Rattle.std.specs.List.{Contains, find}
pub use Rattle.std.specs.Prelude.{ℤ, ◌≤ℤ◌, negsuc, pos, option_and_then, slice_index_or}
pub use Rattle.std.specs.Ordering.{int_eq}
pub use Rattle.frame_table.specs.Frames.{Frame, children_of, frame_at, values_of}
pub use Rattle.frame_table.specs.declared.names.FrameId.{FrameId}
pub use Rattle.frame_table.specs.declared.names.State.{State}
pub use Rattle.frame_table.specs.declared.names.State.TheVariants.{Computing, Ready, Returned, Running, Waiting}
pub use Rattle.sched_rules.specs.Cores.{CoreState, tenant_in}
pub use Rattle.sched_rules.specs.Laws.{Computes, EveryFrameFits, mark_of_state}
pub use Rattle.sched_rules.specs.Lone.{Outcome, lone}
pub use Rattle.sched_rules.specs.Trees.{Tenant, Tree, is_outside, is_root}
pub use Rattle.sched_rules.specs.Views.{named}
pub use Rattle.sched_rules.specs.declared.step.StepOf.{StepOf}
pub use Rattle.sched_rules.specs.declared.step.StepOf.TheVariants.{Admit}
pub use Rattle.sched_laws.specs.Fitted.{CoreFits, TenantFits, origins_of, submits}
pub use Rattle.sched_laws.specs.Onward.{EachHasAnswer, EachWaitsForChildren, HasAnswer}
pub use Rattle.sched_laws.specs.Shapes.{AreShaped, IsShaped}
pub use Rattle.jamboree_rules.specs.Fits.{AreFitting, IsRoot}
pub use Rattle.jamboree_rules.specs.Leaves.{accepts, leaf_in, leaf_of_answer, same_leaf}
pub use Rattle.jamboree_rules.specs.Procedure.{jamboree}
pub use Rattle.jamboree_rules.specs.declared.leaf.Leaf.{Leaf}
pub use Rattle.jamboree_rules.specs.declared.leaf.LeafAnswer.{LeafAnswer}
