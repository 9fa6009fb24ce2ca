-- What all tenants of a core have reserved and are charged, under each answer.
use Rattle.sched_laws.proofs.Common.{◌≡◌, ◌↔◌, ℕ, Bool, true, ◌+◌, ◌*◌, ◌≤◌, false, List, [], ◌∷◌, Some, Result, Ok, Err, refl, arith, sum_by-cons, ltb-false, le-ltb, or_parts, ReserveOf, Account, Refusal, StepOf, DidOf, Functions, Tenant, admitted_with, account_in, charged_for, left, Outcome, tenant_of, free_in, CoreState, tenant_in, with_tenant, without_tenant, with_outcome, accounts_in, reservations_in, is_full, is_beyond, step_result, shared_after, shared_with, charged_in, after_answer, after_answers, IsShaped, AreShaped, IsReservedWithin, IsCovered}
use Rattle.sched_laws.proofs.Shaped.{by-kinds}
use Rattle.sched_laws.proofs.Consequences.{by-taken}
use Rattle.std.specs.Prelude.{sum_by}

abbrev Entries : Type 0
Entries = List (ℕ × Tenant)

-- a number of each tenant, summed up
abbrev total : (Tenant → ℕ) → Entries → ℕ
total m [] = 0
total m (e ∷ es) = m e.1 + total m es

-- segments and nodes, each as a number of a reservation
abbrev part : Bool → ReserveOf → ℕ
part true quota = quota.segments
part false quota = quota.nodes

-- what all reserve of it
abbrev reserved : Bool → Entries → ℕ
reserved b es = total (λ t. part b t.reserve) es

-- what all reserve is within the totals
abbrev Within : ReserveOf → Entries → Type 0
Within totals es = (b : Bool) → reserved b es ≤ part b totals

reserved-total : (b : Bool) (es : Entries) → sum_by (λ (a : ℕ × Account). part b a.1.reserve) (accounts_in es) ≡ reserved b es
reserved-total b [] = refl
reserved-total b (e ∷ es) = rw (← reserved-total b es) (sum_by-cons (λ (a : ℕ × Account). part b a.1.reserve) (e.0, account_in e.1) (accounts_in es))

-- the same of the book
module _ (shared : CoreState) where
  within-both : IsReservedWithin shared → Within shared.totals shared.tenants
  within-both within true = let c = reserved-total true shared.tenants in omega arith
  within-both within false = let c = reserved-total false shared.tenants in omega arith

  both-within : Within shared.totals shared.tenants → IsReservedWithin shared
  both-within both =
      let a = both true in let b = both false in
      let c = reserved-total true shared.tenants in let d = reserved-total false shared.tenants in record { segments = omega arith; nodes = omega arith }

-- a sum over all tenants, after tenant n has changed, come or gone
module _ (m : Tenant → ℕ) (n : ℕ) where
  total-changed : (old t : Tenant) (es : Entries) → tenant_in es n ≡ Some old → total m (with_tenant n t es) + m old ≡ total m es + m t
  total-changed old t [] at = absurd cc
  total-changed old t (e ∷ es) at = grind (arith, total-changed old t es)

  total-more : (t : Tenant) (es : Entries) → total m (with_tenant n t es) ≤ total m es + m t
  total-more t [] = omega arith
  total-more t (e ∷ es) = grind (arith, total-more t es)

  total-less : (es : Entries) → total m (without_tenant n es) ≤ total m es
  total-less [] = omega arith
  total-less (e ∷ es) = grind (arith, total-less es)

-- what the tests of the totals mean
module _ (before : CoreState) (quota : ReserveOf) where
  has-room : is_full (reservations_in before) quota ≡ false → (b : Bool) → reserved b before.tenants + part b quota ≤ part b before.totals
  has-room none b = let c = reserved-total true before.tenants in let d = reserved-total false before.tenants in grind (arith, or_parts, ltb-false)

  no-beyond : (own : ReserveOf) → is_beyond (reservations_in before) own quota ≡ false →
      (b : Bool) → reserved b before.tenants + part b quota ≤ part b before.totals + part b own
  no-beyond own enough b = let c = reserved-total true before.tenants in let d = reserved-total false before.tenants in grind (arith, or_parts, ltb-false)

  within-beyond : (own : ReserveOf) → ((b : Bool) → reserved b before.tenants + part b quota ≤ part b before.totals + part b own) →
      is_beyond (reservations_in before) own quota ≡ false
  within-beyond own both =
      let c = reserved-total true before.tenants in let d = reserved-total false before.tenants in
      let p = both true in let q = both false in grind (arith, le-ltb)

-- a raised reservation that isn't beyond the totals stays within them
module _ (before : CoreState) (number : ℕ) (old : Tenant) (quota : ReserveOf) (at : tenant_in before.tenants number ≡ Some old) where
  -- with a further reservation in the place of the tenant's own
  abbrev further : CoreState
  further = record before { tenants = with_tenant number (record old { reserve = quota }) before.tenants }

  reserved-further : (b : Bool) → reserved b further.tenants + part b old.reserve ≡ reserved b before.tenants + part b quota
  reserved-further b = total-changed (λ t. part b t.reserve) number old (record old { reserve = quota }) before.tenants at

  further-within : is_beyond (reservations_in before) old.reserve quota ≡ false → Within before.totals further.tenants
  further-within enough b = grind (arith, no-beyond, reserved-further)

  -- a raised reservation is beyond exactly where a total is passed
  pub beyond-exactly : (is_beyond (reservations_in before) old.reserve quota ≡ false) ↔ IsReservedWithin further
  beyond-exactly = (
    (λ enough. both-within further (further-within enough)),
    (λ within. within-beyond before quota old.reserve (λ b. let a = reserved-further b in let w = within-both further within b in omega arith)),
  )

-- a taken step keeps the reservations within the totals
module _ {I A : Type 0} (functions : Functions I A) (before : CoreState) (within : IsReservedWithin before) where
  -- so does a tenant that reserves what it did
  kept-within : (number : ℕ) (old : Tenant) → tenant_in before.tenants number ≡ Some old → (new : Tenant) → new.reserve ≡ old.reserve →
      Within before.totals (with_tenant number new before.tenants)
  kept-within number old at new same b = grind (arith, total-changed, within-both)

  taken-within : (step : StepOf A) (outcome : Outcome I) → step_result functions before step ≡ Ok outcome →
      Within before.totals (with_outcome (tenant_of step) outcome.0 before.tenants)
  taken-within step outcome is =
      by-taken functions before step outcome (λ o. Within before.totals (with_outcome (tenant_of step) o before.tenants)) is (record {
        at_admit = λ number quota admits passed b.
            let more = total-more (λ t. part b t.reserve) (tenant_of step) (admitted_with quota) before.tenants in
            let free = has-room before quota passed.1.0 b in omega arith;
        at_step = λ tenant o at taken allowed.
            let kept = kept-within (tenant_of step) tenant at in
            by-kinds functions tenant step o (λ left. Within before.totals (with_outcome (tenant_of step) left before.tenants)) taken (record {
              at_raise = λ number quota raises. further-within before (tenant_of step) tenant quota at (allowed number quota raises);
              at_submit = λ serials root frames. kept _ refl;
              at_work = λ serials frames. kept _ refl;
              at_finish = λ root words. kept _ refl;
              at_spend = λ s f found. kept _ refl;
              at_cancel = λ number root found. kept _ refl;
              at_leave = λ number leaves b.
                  let less = total-less (λ t. part b t.reserve) (tenant_of step) before.tenants in let w = within-both before within b in omega arith;
            });
      })

  after-within : (step : StepOf A) (came_to : Result (Outcome I) Refusal) → step_result functions before step ≡ came_to →
      IsReservedWithin (shared_after before step came_to)
  after-within step (Err refusal) is = within
  after-within step (Ok outcome) is = both-within (shared_with before step outcome.0) (taken-within step outcome is)

-- whatever a step is answered, the reservations stay within the totals
module _ {I A : Type 0} (functions : Functions I A) (before : CoreState) where
  pub reserved-answer : (step : StepOf A) (answer : Result (DidOf I) Refusal) → IsReservedWithin before →
      IsReservedWithin (after_answer functions before step answer)
  reserved-answer step (Err refusal) within = within
  reserved-answer step (Ok did) within = after-within functions before within step (step_result functions before step) refl

pub reserved-answers : {I A : Type 0} (functions : Functions I A) (before : CoreState) (steps : List (StepOf A)) (answers : List (Result (DidOf I) Refusal)) →
    IsReservedWithin before → IsReservedWithin (after_answers functions before steps answers)
reserved-answers functions before (step ∷ steps) (answer ∷ answers) within =
    reserved-answers functions (after_answer functions before step answer) steps answers (reserved-answer functions before step answer within)
reserved-answers functions before steps answers within = grind arith

-- the charges are within what is reserved, and so within the total
charged-reserved : (es : Entries) → AreShaped es → charged_in es ≤ total (λ t. t.reserve.segments) es
charged-reserved [] all = omega arith
charged-reserved (e ∷ es) all = grind (arith, charged-reserved es all.1)

-- all that is charged is within the totals, and what is free is the rest of them
module _ (shared : CoreState) (all : AreShaped shared.tenants) (within : IsReservedWithin shared) where
  pub covered : IsCovered shared
  covered = let a = charged-reserved shared.tenants all in omega (arith, within-both shared within true)

  pub free-whole : free_in shared + charged_in shared.tenants ≡ shared.totals.segments
  free-whole = let c : charged_in shared.tenants ≤ shared.totals.segments = covered in omega arith

-- what a tenant has left and what it has used are together what it reserved
module _ (tenant : Tenant) (shape : IsShaped tenant) where
  pub left-segments : (left tenant).segments + charged_for tenant.frames ≡ tenant.reserve.segments
  left-segments = omega arith

  pub left-nodes : (left tenant).nodes + tenant.serials ≡ tenant.reserve.nodes
  left-nodes = omega arith

  pub left-steps : (left tenant).steps + tenant.steps ≡ 16 * tenant.reserve.nodes
  left-steps = omega arith

-- nothing is cut off
pub ruleset none_cut_off = (left-segments, left-nodes, left-steps, covered, free-whole)
