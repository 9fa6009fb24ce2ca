-- A tenant's journal stays within its places for long entries: each frame is given at most one Answer, and a job at
-- most one Submit and one Cancel.
use Rattle.hall.proofs.Common.{◌≡◌, ℕ, ◌+◌, ◌≤◌, List, [], ◌∷◌, length, Option, Some, None, Ok, arith, if◌then◌else◌, StepOf, Admit, AdmitMore, Submit, Answer, Cancel, Functions, Tenant, admitted_with, Outcome, lone_step, alone_from, LeafAnswer, jamboree, IsShaped, AreSearches, AreTakenFrom, IsJournalOf, unless-passed, came, by-kinds, admitted-shaped, length-with_ended, live-root, root-above, one_if_answer, answer_count, journal-answers, is_long_step, long_steps, raise_in, one_for, raise_count, ended_count}
use Rattle.hall.proofs.Using.{followed, job-ended, submit-used, ended-more, ended-few, told-by}

-- how often a tenant has asked: one Submit a job, and at most one Cancel for each that has ended
abbrev pub asked : Tenant → ℕ
asked tenant = length tenant.jobs + ended_count tenant.jobs

-- so much more was asked, if the tenant stays
abbrev HasAsked : ℕ → Tenant → Option Tenant → Type 0
HasAsked more tenant None = Unit {0}
HasAsked more tenant (Some after) = asked tenant + more ≤ asked after

module _ {I A : Type 0} (functions : Functions I A) (tenant : Tenant) where
  -- a Submit and a Cancel
  submit-asked : (number : ℕ) (words : List ℕ) (size : ℕ) (outcome : Outcome I) → lone_step functions tenant (Submit number words size) ≡ Ok outcome → HasAsked 1 tenant outcome.0
  submit-asked number words size outcome is = grind (arith, unless-passed, came, submit-used)

  cancel-asked : (number job : ℕ) (outcome : Outcome I) → lone_step functions tenant (Cancel number job) ≡ Ok outcome → IsShaped tenant → HasAsked 1 tenant outcome.0
  cancel-asked number job outcome is shape = grind (arith, came, job-ended, live-root)

-- each long step is a raise, an Answer, or asks
abbrev one_if_long : {A : Type 0} → StepOf A → ℕ
one_if_long step = if is_long_step step then 1 else 0

abbrev Accounted : {A : Type 0} → StepOf A → Tenant → Option Tenant → Type 0
Accounted step tenant None = Unit {0}
Accounted step tenant (Some after) = asked tenant + one_if_long step ≤ asked after + one_for (raise_in step) + one_if_answer step

account : {A : Type 0} (step : StepOf A) (tenant : Tenant) (after : Option Tenant) (more : ℕ) → one_if_long step ≤ more + one_for (raise_in step) + one_if_answer step →
    HasAsked more tenant after → Accounted step tenant after
account step tenant after more long has = grind arith

module _ {I A : Type 0} (functions : Functions I A) (tenant : Tenant) where
  -- what was asked of a step that asks nothing, where it isn't long but for a raise and an Answer
  asks-none : (step : StepOf A) (outcome : Outcome I) → one_if_long step ≤ one_for (raise_in step) + one_if_answer step → lone_step functions tenant step ≡ Ok outcome → IsShaped tenant →
      Accounted step tenant outcome.0
  asks-none step outcome long is shape = grind (arith, account, by-kinds, submit-used, job-ended, root-above, live-root, ended-more, length-with_ended)

  step-accounted : (step : StepOf A) (outcome : Outcome I) → lone_step functions tenant step ≡ Ok outcome → IsShaped tenant → Accounted step tenant outcome.0
  step-accounted (Admit number quota) outcome is shape = grind arith
  step-accounted (Submit number words size) outcome is shape = account {A = A} (Submit number words size) tenant outcome.0 1 (omega arith) (submit-asked functions tenant number words size outcome is)
  step-accounted (Cancel number job) outcome is shape = account {A = A} (Cancel number job) tenant outcome.0 1 (omega arith) (cancel-asked functions tenant number job outcome is shape)
  step-accounted (AdmitMore number quota) outcome is shape = grind (arith, asks-none)
  step-accounted (Answer worker name answer) outcome is shape = grind (arith, asks-none)
  step-accounted step outcome is shape = asks-none step outcome (omega arith) is shape

-- over the steps of a journal
longs-from : {I A : Type 0} (functions : Functions I A) (before tenant : Tenant) (steps : List (StepOf A)) → AreTakenFrom functions (Some before) steps →
    alone_from functions (Some before) steps ≡ Some tenant → IsShaped before → asked before + long_steps steps ≤ asked tenant + raise_count steps + answer_count steps
longs-from functions before tenant [] taken comes shape = grind arith
longs-from functions before tenant (step ∷ steps) taken comes shape =
    let f = followed functions before tenant step steps taken comes shape in
    let next = f.next in
    let one : asked before + one_if_long step ≤ asked next + one_for (raise_in step) + one_if_answer step = grind (arith, step-accounted) in
    omega (arith, one, longs-from functions next tenant steps f.on f.to f.shape)

from-admission : {I A : Type 0} {functions : Functions I A} (journal : List (StepOf A)) (tenant : Tenant) → IsJournalOf functions journal tenant →
    long_steps journal ≤ asked tenant + raise_count journal + answer_count journal + 1
from-admission [] tenant is = grind arith
from-admission {functions} (Admit number quota ∷ later) tenant is =
    let all = longs-from functions (admitted_with quota) tenant later is.taken.1 is.comes (admitted-shaped quota) in omega (arith, all)
from-admission (_ ∷ later) tenant is = absurd is.taken.0

-- how many steps of a journal of searches are kept in long entries at most
pub journal-longs : (grain : ℕ) {journal : List (StepOf LeafAnswer)} {tenant : Tenant} → IsJournalOf (jamboree grain) journal tenant → AreSearches journal →
    long_steps journal ≤ tenant.reserve.nodes + 513 + raise_count journal
journal-longs grain {journal} {tenant} is searches =
    let all = from-admission journal tenant is in
    let shape = (told-by journal tenant is).shape in
    omega (arith, all, journal-answers grain journal tenant is searches, shape.opened, shape.few_jobs, ended-few tenant.jobs)
