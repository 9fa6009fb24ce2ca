-- Meaning: what the core of one line of `solve`, with its one tenant, keeps while its job is worked on.
use Rattle.std.specs.Prelude.{◌≡◌, ℕ, List, [], Some, Result}
use Rattle.tenant_quota.specs.Reserves.{ReserveOf}
use Rattle.sched_rules.specs.declared.refusal.Refusal.{Refusal}
use Rattle.sched_rules.specs.declared.step.StepOf.{StepOf}
use Rattle.sched_rules.specs.declared.step.StepOf.TheVariants.{Take, Steal, Advance, Answer, Inlet, Finish, Spend}
use Rattle.sched_rules.specs.declared.step.DidOf.{DidOf}
use Rattle.sched_rules.specs.Trees.{Tenant, admitted_with}
use Rattle.sched_rules.specs.Cores.{CoreState, CoreOf, shared_by_nobody, tenant_in}
use Rattle.sched_rules.specs.Headline.{AreAnswersTo, after_answers}
use Rattle.jamboree_core.specs.jamboree_rules.declared.leaf.Leaf.{Leaf}
use Rattle.jamboree_core.specs.jamboree_rules.declared.leaf.LeafAnswer.{LeafAnswer}
use Rattle.jamboree_core.specs.jamboree_rules.Procedure.{jamboree}
use Rattle.jamboree_core.specs.jamboree.declared.procedure.Jamboree.{Jamboree}
use Rattle.jamboree_core.specs.Searching.{CoreSearches}

-- the core's jobs are searches, and those of tenant 1 were submitted with these words, in order
pub record HasAsked (asked : List (List ℕ)) (shared : CoreState) : Type 0 where
  pub origins : ℕ → List (List ℕ)
  pub are : origins 1 ≡ asked
  pub searches : CoreSearches origins shared

-- a new core of these totals, with this grain, came to this by a list of steps that were each answered as the
-- definitions say
pub record HasRun (grain : ℕ) (totals : ReserveOf) (shared : CoreState) : Type 0 where
  pub steps : List (StepOf LeafAnswer)
  pub answers : List (Result (DidOf Leaf) Refusal)
  pub right : AreAnswersTo (jamboree grain) (shared_by_nobody totals) steps answers
  pub comes : shared ≡ after_answers (jamboree grain) (shared_by_nobody totals) steps answers

-- tenant 1 of the core is there, and its reservation is this
pub record HasReserved (quota : ReserveOf) (shared : CoreState) : Type 0 where
  pub tenant : Tenant
  pub there : tenant_in shared.tenants 1 ≡ Some tenant
  pub reserve : tenant.reserve ≡ quota

-- what a core works on: its grain, its segments and nodes, all of which its tenant reserves, and the words that
-- its jobs were submitted with
pub record Task : Type 0 where
  pub grain : ℕ
  pub quota : ReserveOf
  pub asked : List (List ℕ)

-- a core has this grain, and came to where it is from these totals; tenant 1 reserves them all, and its jobs are
-- searches submitted with these words
pub record WorksOn (task : Task) (core : CoreOf Jamboree) : Type 0 where
  pub grain : core.procedure.grain ≡ task.grain
  pub run : HasRun task.grain task.quota core.shared
  pub reserved : HasReserved task.quota core.shared
  pub asked : HasAsked task.asked core.shared

-- the core of a line of `solve` works on the same search after as before
abbrev pub Keeps : CoreOf Jamboree → CoreOf Jamboree → Type 0
Keeps before after = (task : Task) → WorksOn task before → WorksOn task after

-- the step is one that works on a job: a worker's, or a Spend
abbrev pub IsWork : {A : Type 0} → StepOf A → Type 0
IsWork (Take worker name) = Unit {0}
IsWork (Steal worker from name) = Unit {0}
IsWork (Advance worker name) = Unit {0}
IsWork (Answer worker name answer) = Unit {0}
IsWork (Inlet worker name) = Unit {0}
IsWork (Finish worker name) = Unit {0}
IsWork (Spend name) = Unit {0}
IsWork _ = ⊥

-- a core all of which tenant 1 reserves, who was just admitted and has no job
pub record IsNewCore (grain : ℕ) (quota : ReserveOf) (core : CoreOf Jamboree) : Type 0 where
  pub works : WorksOn (record { grain = grain; quota = quota; asked = [] }) core
  pub fresh : tenant_in core.shared.tenants 1 ≡ Some (admitted_with quota)
