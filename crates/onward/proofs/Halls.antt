-- Of a hall: each frame that waits has a child, and each that is computed an answer, by the tenants' journals.
use Rattle.onward.proofs.Common.{List, None, Ok, Option, Some, [], ap, arith, refl, ℕ, ◌++◌, ◌∷◌, ◌≡◌, FrameId, Frame, Computing, CoreState, tenant_in, Outcome, lone, Tenant, StepOf, Admit, submits, origins_of, EachHasAnswer, EachWaitsForChildren, AreShaped, IsShaped, jamboree, Leaf, LeafAnswer, named}
use Rattle.jamboree_core.specs.Journals.{IsJournalOf}
use Rattle.jamboree_core.specs.Replies.{AreSearches, IsSearch}
use Rattle.jamboree_core.proofs.JournalLemmas.{journal-lasts, journal-searches}
use Rattle.hall.specs.Halls.{Explains, HallOf, IsExplained}
use Rattle.hall.specs.Journals.{journal_in}
use Rattle.sched_laws.proofs.Consequences.{lone-shaped, shaped-in}
use Rattle.sched_laws.proofs.NotStuck.{named-in}
use Rattle.sched_laws.proofs.Shaped.{LeftShaped, came}
use Rattle.std.proofs.Common.{Err, Result}
use Rattle.sched_rules.specs.Trees.{admitted_with}
use Rattle.sched_rules.specs.declared.refusal.Refusal.{Refusal}
use Rattle.sched_rules.specs.declared.refusal.Refusal.TheVariants.{NoTenant}
use Rattle.sched_rules.specs.declared.step.DidOf.TheVariants.{Admitted}
use Rattle.sched_laws.proofs.WaitSteps.{LeftWaiting, WaitsAll, step-waits}
use Rattle.onward.proofs.Answers.{has-answer, computed-fits}

-- a tenant's shape, and that its frames wait only for children
abbrev On : List (List ℕ) → Option Tenant → Type 0
On origins tenant = LeftShaped tenant × LeftWaiting tenant

module _ (grain : ℕ) where
  waits-on : (before : Option Tenant) (step : StepOf LeafAnswer) (outcome : Outcome Leaf) → lone (jamboree grain) before step ≡ Ok outcome → LeftShaped before → LeftWaiting before →
      LeftWaiting outcome.0
  waits-on (Some tenant) step outcome is shape waits = step-waits (jamboree grain) tenant shape waits step outcome is
  waits-on None (Admit number quota) outcome is shape waits =
      let same : ◌≡◌ {A = Outcome Leaf} (Some (admitted_with quota), Admitted) outcome = cc in came LeftWaiting (Some (admitted_with quota), Admitted) outcome same (λ s f at is. absurd cc)
  waits-on None _ outcome is shape waits = (let never : ◌≡◌ {A = Result (Outcome Leaf) Refusal} (Err NoTenant) (Ok outcome) = is in absurd cc)

  on : (origins : List (List ℕ)) (before : Option Tenant) (step : StepOf LeafAnswer) (outcome : Outcome Leaf) → IsSearch step → lone (jamboree grain) before step ≡ Ok outcome →
      (before ≡ None → origins ≡ []) → On origins before → On (origins ++ submits step) outcome.0
  on origins before step outcome search is none has = (lone-shaped (jamboree grain) before step outcome is has.0, waits-on before step outcome is has.0 has.1)

  journal-waits : (journal : List (StepOf LeafAnswer)) (tenant : Tenant) → IsJournalOf (jamboree grain) journal tenant → AreSearches journal → WaitsAll tenant.frames
  journal-waits journal tenant is searches = (journal-lasts grain On on (tt, tt) journal tenant is searches).1

-- by what explains a hall
module _ (hall : HallOf) (explained : IsExplained hall) where
  journal-of : (number : ℕ) (tenant : Tenant) → tenant_in hall.shared.tenants number ≡ Some tenant → IsJournalOf (jamboree hall.grain) (journal_in hall.journals number) tenant
  journal-of number tenant at = by (tenant_in hall.shared.tenants number) at (explained.tenants number)
    where
      by : (own : Option Tenant) → own ≡ Some tenant → Explains (jamboree hall.grain) own (journal_in hall.journals number) → IsJournalOf (jamboree hall.grain) (journal_in hall.journals number) tenant
      by None at is = absurd cc
      by (Some t) at is = (let same : t ≡ tenant = cc in rw (← same) is)

  pub hall-waits : EachWaitsForChildren hall.shared
  hall-waits number tenant at = journal-waits hall.grain (journal_in hall.journals number) tenant (journal-of number tenant at) (explained.searches number)

  pub hall-answers : AreShaped hall.shared.tenants → EachHasAnswer (jamboree hall.grain) hall.shared
  hall-answers shaped name frame worker at is =
      let t = named-in hall.shared name frame at in
      let searches = journal-searches hall.grain (journal_in hall.journals name.tenant) t.0 (journal-of name.tenant t.0 t.1) (explained.searches name.tenant) in
      has-answer hall.grain frame.value
      (computed-fits t.0 name.serial worker frame (shaped-in name.tenant hall.shared.tenants t.0 shaped t.1) searches.fits.frames t.2 is)
