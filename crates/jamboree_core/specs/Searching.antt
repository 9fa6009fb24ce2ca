-- Meaning: cores whose jobs are searches, and what they have come to: the headline (no tenant disturbs another) in
-- full.
use Rattle.std.specs.Prelude.{◌≡◌, ℕ, ◌-◌, ◌==◌, List, [], ◌∷◌, ◌++◌, Option, Some, None, Result, if◌then◌else◌}
use Rattle.sched_rules.specs.declared.refusal.Refusal.{Refusal}
use Rattle.sched_rules.specs.declared.step.StepOf.{StepOf}
use Rattle.sched_rules.specs.declared.step.DidOf.{DidOf}
use Rattle.sched_rules.specs.Trees.{Tenant}
use Rattle.sched_rules.specs.Runs.{only}
use Rattle.sched_rules.specs.Cores.{CoreState, tenant_in}
use Rattle.sched_rules.specs.Headline.{IsHeadline, taken_steps}
use Rattle.sched_laws.specs.Fitted.{TenantFits, CoreFits, origins_of}
use Rattle.jamboree_rules.specs.declared.leaf.Leaf.{Leaf}
use Rattle.jamboree_rules.specs.declared.leaf.LeafAnswer.{LeafAnswer}
use Rattle.jamboree_rules.specs.Fits.{AreFitting, IsRoot}
use Rattle.jamboree_rules.specs.Procedure.{jamboree}
use Rattle.jamboree_core.specs.Replies.{AreRootWords, AreSearches, AreReplies, AreAllSound}

-- each of these is the words of a search's root
abbrev pub AreAllRootWords : List (List ℕ) → Type 0
AreAllRootWords [] = Unit {0}
AreAllRootWords (origin ∷ origins) = AreRootWords origin × AreAllRootWords origins

-- a tenant's jobs are searches, submitted with these words (origins), in order: every frame fits (`AreFitting`),
-- and each job stands for what it was submitted with
pub record TenantSearches (origins : List (List ℕ)) (tenant : Tenant) : Type 0 where
  pub fits : TenantFits AreFitting IsRoot origins tenant
  pub asked : AreAllRootWords origins

-- a tenant, if it is there, has searches for jobs, whatever words they were submitted with
abbrev pub ServesSearches : Option Tenant → Type 0
ServesSearches None = Unit {0}
ServesSearches (Some tenant) = (origins : List (List ℕ)) × TenantSearches origins tenant

-- the jobs of a core's tenants are searches, submitted with the words under each tenant's number; under a number
-- that no tenant has had there are none
pub record CoreSearches (origins : ℕ → List (List ℕ)) (shared : CoreState) : Type 0 where
  pub fits : CoreFits AreFitting IsRoot origins shared
  pub asked : (number : ℕ) → AreAllRootWords (origins number)

-- the words under each number, once those of the Submits in a list of taken steps are added
abbrev pub submitted_to : {A : Type 0} → (ℕ → List (List ℕ)) → List (StepOf A) → ℕ → List (List ℕ)
submitted_to origins steps number = origins number ++ origins_of (only number steps)

-- what a core holds whose jobs are searches: each job that is done has the minimax value, the best choice and a
-- table of what it was submitted with, in order, and every frame is sound
pub record HoldsReplies (origins : ℕ → List (List ℕ)) (shared : CoreState) : Type 0 where
  pub replies : (number : ℕ) (tenant : Tenant) → tenant_in shared.tenants number ≡ Some tenant → AreReplies (origins number) tenant.jobs
  pub sound : (number : ℕ) (tenant : Tenant) → tenant_in shared.tenants number ≡ Some tenant → AreAllSound tenant.frames tenant.frames

-- what holds after a list of steps on a core that runs Jamboree with this grain. No tenant is disturbed, and a
-- step is refused only for its own tenant's state or a busy worker. Where the core's jobs are searches, and so
-- are those that the list's taken steps submit, they still are, and each completed reply is the minimax value
pub record IsHeadlineInFull (grain : ℕ) (before : CoreState) (steps : List (StepOf LeafAnswer)) (answers : List (Result (DidOf Leaf) Refusal)) (after : CoreState) : Type 0 where
  pub tenants : IsHeadline (jamboree grain) before steps answers after
  pub searches : (origins : ℕ → List (List ℕ)) → CoreSearches origins before → AreSearches (taken_steps steps answers) → CoreSearches (submitted_to origins (taken_steps steps answers)) after
  pub replies : (origins : ℕ → List (List ℕ)) → CoreSearches origins before → AreSearches (taken_steps steps answers) → HoldsReplies (submitted_to origins (taken_steps steps answers)) after

-- the words that the job with this number, from 1 on, was submitted with; None where there is no such job
abbrev pub origin_at : List (List ℕ) → ℕ → Option (List ℕ)
origin_at [] number = None
origin_at (origin ∷ origins) number = if number == 1 then Some origin else origin_at origins (number - 1)
