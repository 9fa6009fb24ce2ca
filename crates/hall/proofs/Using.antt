-- Each taken step of a tenant uses up one of what the tenant may do, so its journal in the hall stays within its
-- places.
use Rattle.hall.proofs.Common.{◌≡◌, ℕ, ◌+◌, ◌*◌, ◌≤◌, Bool, false, true, List, [], ◌∷◌, ◌++◌, length, Option, Some, None, Result, Ok, Err, refl, ap, arith, length-append, eqb-true, ReserveOf, path_in, Job, Live, Refusal, StepOf, Admit, AdmitMore, Functions, DidOf, Tree, Tenant, admitted_with, with_ended, Outcome, lone_step, ended, state_after, alone_from, HasEnded, IsShaped, AreRootsLive, live_count, unless-passed, frame-found, by-kinds, step-shaped, admitted-shaped, length-with_ended, live-root, root-above, StaysTaken, AreTakenFrom, IsJournalOf, serial_in, is_appended, raise_in, newer, reserved_after, reserved_in, raise_count, ended_count, uses}
use Rattle.frame_table.proofs.TreeLaws.{below-found, found-there}

-- one more is used by each step but a raise
abbrev UsedBy : Option ReserveOf → ℕ → ℕ → Type 0
UsedBy None before after = before + 1 ≤ after
UsedBy (Some quota) before after = before ≤ after

-- a tenant, if it stays, has used one more, and reserves what it did; a raise uses nothing, and reserves what it says. And it does
-- stay where the step goes on
abbrev pub HasUsed : Bool → Option ReserveOf → Tenant → Option Tenant → Type 0
HasUsed goes raise tenant None = goes ≡ false
HasUsed goes raise tenant (Some after) = UsedBy raise (uses tenant) (uses after) × (after.reserve ≡ newer tenant.reserve raise)

-- one more job, which lives
ended-append : (root : ℕ) (jobs : List Job) → ended_count (jobs ++ Live root ∷ []) ≡ ended_count jobs
ended-append root [] = refl
ended-append root (job ∷ jobs) = grind (arith, ended-append root jobs)

-- the jobs under a root have ended
module _ (root : ℕ) (end : Job) where
  pub ended-more : (jobs : List Job) → HasEnded end → ended_count (with_ended root end jobs) ≡ ended_count jobs + live_count root jobs
  ended-more [] has = omega arith
  ended-more (job ∷ jobs) has = grind (arith, ended-more jobs has)

-- one job lives under the root of a frame
one-lives : (jobs : List Job) (xs : Tree) (root : ℕ) → AreRootsLive jobs xs → path_in xs root ≡ root ∷ [] → live_count root jobs ≡ 1
one-lives jobs [] root roots at = absurd cc
one-lives jobs (x ∷ xs) root roots at = grind (arith, eqb-true, one-lives jobs xs root roots.1)

-- a tenant whose job under a root ended
pub job-ended : (root : ℕ) (end : Job) (tenant : Tenant) → HasEnded end → IsShaped tenant → path_in tenant.frames root ≡ root ∷ [] → HasUsed true None tenant (Some (ended root end tenant))
job-ended root end tenant has shape at = grind (arith, one-lives, ended-more, length-with_ended)

pub submit-used : (tenant : Tenant) (root : ℕ) → length tenant.jobs + 1 + ended_count tenant.jobs ≤ length (tenant.jobs ++ Live root ∷ []) + ended_count (tenant.jobs ++ Live root ∷ [])
submit-used tenant root = grind (arith, length-append, ended-append)

module _ {I A : Type 0} (functions : Functions I A) (tenant : Tenant) where
  -- each taken step but a raise
  others-used : (step : StepOf A) (outcome : Outcome I) → raise_in step ≡ None → lone_step functions tenant step ≡ Ok outcome → IsShaped tenant → HasUsed (is_appended step) None tenant outcome.0
  others-used step outcome none is shape = by-kinds functions tenant step outcome (HasUsed (is_appended step) None tenant) is (record {
    at_raise = grind arith;
    at_submit = grind (arith, submit-used);
    at_work = λ serials frames. (omega arith, refl);
    at_finish = grind (arith, ended-more, length-with_ended);
    at_spend = grind (arith, job-ended, root-above);
    at_cancel = grind (arith, job-ended, live-root);
    at_leave = λ number leaves. ap is_appended leaves;
  })

  -- each taken step
  pub step-used : (step : StepOf A) (outcome : Outcome I) → lone_step functions tenant step ≡ Ok outcome → IsShaped tenant → HasUsed (is_appended step) (raise_in step) tenant outcome.0
  step-used (AdmitMore number quota) outcome is shape = grind (arith, unless-passed)
  step-used step outcome is shape = others-used step outcome refl is shape

  -- it names no serial that wasn't given
  pub serial-given : (step : StepOf A) (outcome : Outcome I) → lone_step functions tenant step ≡ Ok outcome → IsShaped tenant → serial_in step ≤ tenant.serials
  serial-given step outcome is shape = grind (arith, frame-found, below-found, found-there)

-- no more jobs have ended than there are
pub ended-few : (jobs : List Job) → ended_count jobs ≤ length jobs
ended-few [] = omega arith
ended-few (job ∷ jobs) = grind (arith, ended-few jobs)

-- a step that was taken leaves a tenant, from which the others go on
pub record IsFollowed {I A : Type 0} (functions : Functions I A) (before tenant : Tenant) (step : StepOf A) (steps : List (StepOf A)) : Type 0 where
  pub next : Tenant
  pub did : DidOf I
  pub is : lone_step functions before step ≡ Ok (Some next, did)
  pub shape : IsShaped next
  pub on : AreTakenFrom functions (Some next) steps
  pub to : alone_from functions (Some next) steps ≡ Some tenant

module _ {I A : Type 0} (functions : Functions I A) (before tenant : Tenant) (step : StepOf A) (steps : List (StepOf A)) where
  followed-by : (result : Result (Outcome I) Refusal) → lone_step functions before step ≡ result → StaysTaken result → AreTakenFrom functions (state_after (Some before) result) steps →
      alone_from functions (state_after (Some before) result) steps ≡ Some tenant → IsShaped before → IsFollowed functions before tenant step steps
  followed-by (Ok (None, did)) is stays on to shape = absurd stays
  followed-by (Err refusal) is stays on to shape = absurd stays
  followed-by (Ok (Some next, did)) is stays on to shape = record { next = next; did = did; is = is; shape = step-shaped functions before step (Some next, did) is shape; on = on; to = to }

  pub followed : AreTakenFrom functions (Some before) (step ∷ steps) → alone_from functions (Some before) (step ∷ steps) ≡ Some tenant → IsShaped before → IsFollowed functions before tenant step steps
  followed taken comes shape = grind (arith, followed-by)

-- a tenant after so many steps, of which so many are raises
record HasGone (before : Tenant) (steps raises : ℕ) (reserve : ReserveOf) (after : Tenant) : Type 0 where
  used : uses before + steps ≤ uses after + raises
  same : after.reserve ≡ reserve
  shape : IsShaped after

used-from : {I A : Type 0} (functions : Functions I A) (before tenant : Tenant) (steps : List (StepOf A)) → AreTakenFrom functions (Some before) steps →
    alone_from functions (Some before) steps ≡ Some tenant → IsShaped before → HasGone before (length steps) (raise_count steps) (reserved_after before.reserve steps) tenant
used-from functions before tenant [] taken comes shape = grind arith
used-from functions before tenant (step ∷ steps) taken comes shape =
    let f = followed functions before tenant step steps taken comes shape in
    let used = step-used functions before step (Some f.next, f.did) f.is shape in
    let rest = used-from functions f.next tenant steps f.on f.to f.shape in grind arith

-- what a tenant's journal tells of the tenant: what it reserves, and how long the journal is at most
pub record IsToldBy {A : Type 0} (journal : List (StepOf A)) (tenant : Tenant) : Type 0 where
  pub shape : IsShaped tenant
  pub reserve : tenant.reserve ≡ reserved_in journal
  pub short : length journal ≤ 16 * tenant.reserve.nodes + 513 + raise_count journal

pub told-by : {I A : Type 0} {functions : Functions I A} (journal : List (StepOf A)) (tenant : Tenant) → IsJournalOf functions journal tenant → IsToldBy journal tenant
told-by [] tenant is = grind arith
told-by {functions} (Admit number quota ∷ later) tenant is =
    let gone = used-from functions (admitted_with quota) tenant later is.taken.1 is.comes (admitted-shaped quota) in grind (arith, ended-few)
told-by (_ ∷ later) tenant is = absurd is.taken.0
