-- By which refusals a seat's ask, cancel and raise of its reservation can be refused at a desk.
use Rattle.desk.proofs.Common.{◌≡◌, ℕ, Bool, true, false, Option, Some, None, refl, lit<, inl, inr, Result, Ok, Err, Refusal, OutOfMemory, Lower, AdmitMore, Cancel, Submit, DidOf, ReserveOf, tenant_in, step_result, is_beyond, unless_beyond, reserved_by, reservations_in, Functions, Outcome, is_lower, cancelled, lone, raised, refusal_in, answer_of, Tenant, Leaf, LeafAnswer, root_words, frame_size, jamboree, HallOf, IsDecided, reserve_refusals, ask_refusals, cancel_refusals, ask-refused as offered_refused}
use Rattle.sched_rules.specs.declared.job.Job.{Job}
use Rattle.sched_rules.specs.declared.job.Job.TheVariants.{Live, Done, Spent, Cancelled}
use Rattle.sched_rules.specs.Trees.{job_at}
use Rattle.std.specs.Prelude.{Contains, IfErr, if◌then◌else◌, ◌⊎◌}

pub ask-refused : (before after : HallOf) (number own opp depth : ℕ) (answer : Result (DidOf Leaf) Refusal) → IsDecided before (Submit number (root_words own opp depth) frame_size) answer after →
    IfErr answer (Contains ask_refusals)
ask-refused before after number own opp depth answer h = offered_refused before after number own opp depth answer h.one

-- where it is refused it is as a raise can be
abbrev Within : {X : Type 0} → Result X Refusal → Type 0
Within result = IfErr result (Contains reserve_refusals)

-- an admission is refused for what is reserved, or for want of memory
within-memory : (own : Result (Outcome Leaf) Refusal) (answer : Result (DidOf Leaf) Refusal) → ((refusal : Refusal) → refusal_in own ≡ Some refusal → answer ≡ Err refusal) →
    (refusal_in own ≡ None → (answer ≡ answer_of own) ⊎ (answer ≡ Err OutOfMemory)) → Within own → Within answer
within-memory (Ok outcome) answer refused taken h = elim (taken refl) [ inl is ↦ rw is tt | inr is ↦ rw is (3, lit< tt, refl) ]
within-memory (Err refusal) answer refused taken h = rw (refused refusal refl) h

raise-tested : {X : Type 0} (effect : X) (lower : Bool) → Within (if lower then Err Lower else Ok effect)
raise-tested effect true = (1, lit< tt, refl)
raise-tested effect false = tt

raise-within : (rules : Functions Leaf LeafAnswer) (tenant : Option Tenant) (number : ℕ) (quota : ReserveOf) → Within (lone rules tenant (AdmitMore number quota))
raise-within rules None number quota = (0, lit< tt, refl)
raise-within rules (Some tenant) number quota = raise-tested {X = Outcome Leaf} (raised tenant quota) (is_lower tenant.reserve quota)

beyond-within : (beyond : Bool) (alone : Result (Outcome Leaf) Refusal) → Within alone → Within (unless_beyond beyond alone)
beyond-within true (Ok outcome) h = (2, lit< tt, refl)
beyond-within false (Ok outcome) h = tt
beyond-within beyond (Err refusal) h = h

pub reserve-refused : (before after : HallOf) (number : ℕ) (quota : ReserveOf) (answer : Result (DidOf Leaf) Refusal) → IsDecided before (AdmitMore number quota) answer after → Within answer
reserve-refused before after number quota answer h =
    let right = h.one.answered.0 refl in
    let rules = jamboree before.grain in
    let tenant = tenant_in before.shared.tenants number in
    let beyond = is_beyond (reservations_in before.shared) (reserved_by tenant) quota in
    let own = beyond-within beyond (lone rules tenant (AdmitMore number quota)) (raise-within rules tenant number quota) in
    within-memory (step_result rules before.shared (AdmitMore number quota)) answer right.refused right.else_taken own

-- where a cancel is refused it is as these say
abbrev Cancels : {X : Type 0} → Result X Refusal → Type 0
Cancels result = IfErr result (Contains cancel_refusals)

as-alone : (own : Result (Outcome Leaf) Refusal) (answer : Result (DidOf Leaf) Refusal) → ((refusal : Refusal) → refusal_in own ≡ Some refusal → answer ≡ Err refusal) → (refusal_in own ≡ None → answer ≡ answer_of own) → Cancels own → Cancels answer
as-alone (Ok outcome) answer refused taken h = rw (taken refl) tt
as-alone (Err refusal) answer refused taken h = rw (refused refusal refl) h

cancel-tested : (tenant : Tenant) (job : Option Job) → Cancels {X = Outcome Leaf} (cancelled tenant job)
cancel-tested tenant None = (1, lit< tt, refl)
cancel-tested tenant (Some (Live root)) = tt
cancel-tested tenant (Some (Done words)) = (1, lit< tt, refl)
cancel-tested tenant (Some Spent) = (1, lit< tt, refl)
cancel-tested tenant (Some Cancelled) = (1, lit< tt, refl)

cancel-within : (rules : Functions Leaf LeafAnswer) (tenant : Option Tenant) (number job : ℕ) → Cancels (lone rules tenant (Cancel number job))
cancel-within rules None number job = (0, lit< tt, refl)
cancel-within rules (Some tenant) number job = cancel-tested tenant (job_at tenant.jobs job)

pub cancel-refused : (before after : HallOf) (number job : ℕ) (answer : Result (DidOf Leaf) Refusal) → IsDecided before (Cancel number job) answer after → Cancels answer
cancel-refused before after number job answer h =
    let right = h.one.answered.1 refl in
    let rules = jamboree before.grain in
    let tenant = tenant_in before.shared.tenants number in
    as-alone (lone rules tenant (Cancel number job)) answer right.own_state (λ none. right.else_taken none refl) (cancel-within rules tenant number job)
