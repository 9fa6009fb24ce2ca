-- Meaning: what a list of searches comes to from a new core: the headline (no tenant disturbs another), every reply,
-- and that every frame is sound.
use Rattle.std.specs.Prelude.{◌≡◌, ℕ, List, Some, Result}
use Rattle.tenant_quota.specs.Reserves.{ReserveOf}
use Rattle.sched_rules.specs.declared.refusal.Refusal.{Refusal}
use Rattle.sched_rules.specs.declared.step.StepOf.{StepOf}
use Rattle.sched_rules.specs.declared.step.DidOf.{DidOf}
use Rattle.sched_rules.specs.Trees.{Tenant}
use Rattle.sched_rules.specs.Runs.{only}
use Rattle.sched_rules.specs.Cores.{CoreState, shared_by_nobody, tenant_in}
use Rattle.sched_rules.specs.Headline.{IsHeadline, taken_steps}
use Rattle.sched_laws.specs.Fitted.{origins_of}
use Rattle.jamboree_rules.specs.declared.leaf.Leaf.{Leaf}
use Rattle.jamboree_rules.specs.declared.leaf.LeafAnswer.{LeafAnswer}
use Rattle.jamboree_rules.specs.Procedure.{jamboree}
use Rattle.jamboree_core.specs.Replies.{AreReplies, AreAllSound}

-- the words that the taken Submits of a list carried, by the number of their tenant, in order
abbrev pub submitted_by : {I A : Type 0} → List (StepOf A) → List (Result (DidOf I) Refusal) → ℕ → List (List ℕ)
submitted_by steps answers number = origins_of (only number (taken_steps steps answers))

-- what holds after a list of steps on a new core with this grain and these totals. No tenant is disturbed, and a
-- step is refused only for its own tenant's state or a busy worker. Each job of a tenant that is done holds the
-- minimax value, the best choice and a table of the board to the depth that its Submit carried; the k-th job is
-- that of the tenant's k-th taken Submit. And every frame is sound
pub record IsHeadlineFromNew (grain : ℕ) (totals : ReserveOf) (steps : List (StepOf LeafAnswer)) (answers : List (Result (DidOf Leaf) Refusal)) (after : CoreState) : Type 0 where
  pub tenants : IsHeadline (jamboree grain) (shared_by_nobody totals) steps answers after
  pub replies : (number : ℕ) (tenant : Tenant) → tenant_in after.tenants number ≡ Some tenant → AreReplies (submitted_by steps answers number) tenant.jobs
  pub sound : (number : ℕ) (tenant : Tenant) → tenant_in after.tenants number ≡ Some tenant → AreAllSound tenant.frames tenant.frames
