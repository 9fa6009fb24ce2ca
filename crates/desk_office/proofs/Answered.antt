-- A session's calls at a desk: each is answered by what the session's tenant has come to.
use Rattle.desk_office.proofs.Common.{◌≡◌, ℕ, ◌+◌, ◌-◌, ◌==◌, List, [], ◌∷◌, length, map, Bool, true, false, refl, sym, ap, ◌∙◌, subst, if◌then◌else◌, Option, Some, None, Result, Ok, Err, inl, inr, arith, ◌⊎◌, option_map, option_and_then, slice_index, ReserveOf, Cell, Side, Refusal, Full, NoJobsLeft, OutOfMemory, refusal_number, AdmitMore, Submit, DidOf, Functions, Tenant, left, job_at, cancelled, lone, lone_refusal, refusal_in, unless, submit_tests, submitted, tenant_of, answer_of, CoreState, tenant_in, is_beyond, reservations_in, reserved_by, step_result, shared_refusal, unless_beyond, IsAnswerTo, IsAnswerToAdmit, AreReplies, HoldsReply, bounds_of, own_word, opp_word, frame_of, root_words, frame_size, jamboree, Leaf, LeafAnswer, HallOf, Reply, Outcome as OutcomeOf, Done, IsOutcomeIn, IsOutcomeOf, IsReplyOf, SeatAsked, found_or_no_tenant, seat_asked_at, IsShown, IsShownOf, IsToldBy, Shows, core_at, is_admit, lone_tenant, Reserve, Ask, Cancel, OfficeReply, Reserved, Job, Told, Ended, Rest, Alive, Refused, reply_of, analysis_of, standing_of, told_answer, History, analysis_by, if_there, job_reply, live_in, reply_to, standing_in, unless_refused, IsReplyAt, IsJobTold, IsRefusedAtOnce}
use Rattle.sched_rules.specs.declared.job.Job.{Job as JobOf}
use Rattle.sched_rules.specs.declared.job.Job.TheVariants.{Done as DoneJob}
use Rattle.sched_rules.specs.declared.step.StepOf.TheVariants.{Cancel as CancelStep}
use Rattle.sched_rules.specs.Lone.{Outcome}
use Rattle.desk_office.proofs.Histories.{own-result, Step, IsAtMoment}

abbrev Came : Type 0
Came = Result (Outcome Leaf) Refusal

abbrev Rules : Type 0
Rules = Functions Leaf LeafAnswer

-- ---- a job, and what was asked under its number

abbrev pub root_of : SeatAsked → List ℕ
root_of a = root_words a.board.own a.board.opp a.depth

abbrev Matches : Option JobOf → Option SeatAsked → Type 0
Matches None None = Unit {0}
Matches None (Some a) = ⊥
Matches (Some job) None = ⊥
Matches (Some job) (Some a) = HoldsReply (root_of a) job

matches : (asked : List SeatAsked) (jobs : List JobOf) (number : ℕ) → AreReplies (map root_of asked) jobs → Matches (job_at jobs number) (seat_asked_at asked number)
matches (a ∷ asked) (job ∷ jobs) number are =
    elim (number == 1) as (λ b. Matches (if b then Some job else job_at jobs (number - 1)) (if b then Some a else seat_asked_at asked (number - 1))) [ true ↦ are.0 | false ↦ matches asked jobs (number - 1) are.1 ]
matches asked jobs number are = grind arith

as-many : (asked : List SeatAsked) (jobs : List JobOf) → AreReplies (map root_of asked) jobs → length jobs ≡ length asked
as-many (a ∷ asked) (job ∷ jobs) are = let rest = as-many asked jobs are.1 in omega (arith, rest)
as-many asked jobs are = grind arith

-- ---- how a job is told

-- a job that is done may be shown, and as its words say
done-shows : (a : SeatAsked) (words : List ℕ) (reply : Reply) → HoldsReply (root_of a) (DoneJob words) → IsReplyOf words reply → Shows a (Done reply)
done-shows a words reply holds is = (is.on.own ∙ holds.own, is.on.opp ∙ holds.opp, is.on.depth ∙ holds.depth)

done-told : (words : List ℕ) (reply : Reply) → IsReplyOf words reply → analysis_of reply ≡ analysis_by (slice_index words 0) (slice_index words 1) (slice_index words 2) (bounds_of (frame_of words))
done-told words reply is = λ i. analysis_by (is.on.own i) (is.on.opp i) (is.on.depth i) (is.table i)

outcome-told : (a : SeatAsked) (number : ℕ) (job : JobOf) (told shown : OutcomeOf) → HoldsReply (root_of a) job → IsOutcomeOf job told → IsShownOf a (Some told) shown → Told number (standing_of shown) ≡ Told number (standing_in job)
outcome-told a number job told shown holds is by = grind (arith, done-shows, done-told)

job-told : (number : ℕ) (job : Option JobOf) (a : Option SeatAsked) (told : Option OutcomeOf) (answer : Result OutcomeOf Refusal) → Matches job a → IsShown a answer → IsOutcomeIn job told → IsToldBy a told answer →
    reply_of (Told number) (told_answer answer) ≡ job_reply number job
job-told number job a told answer same shown is by = grind (arith, outcome-told)

-- what is told of a job at a moment
pub told-at : (begun : HallOf) (number : ℕ) (history : History) (asked : List SeatAsked) (job : ℕ) (reply : OfficeReply) → IsAtMoment begun number history (map root_of asked) → IsJobTold asked (lone_tenant begun history number) job reply →
    reply ≡ job_reply job (option_and_then (λ its. job_at its.jobs job) (lone_tenant begun history number))
told-at begun number history asked job reply m t =
    let P : Option Tenant → Type 0 = λ o. IsJobTold asked o job reply → reply ≡ job_reply job (option_and_then (λ its. job_at its.jobs job) o) in
    let of : P (Some m.tenant) = λ t. t.2 ∙ job-told job (job_at m.tenant.jobs job) (seat_asked_at asked job) t.1 t.0 (matches asked m.tenant.jobs job m.jobs) t.3 t.4 t.5 in
    subst P (sym m.alone) of t

-- ---- what is left, and what is there

pub rest-at : (tenant : Option Tenant) → reply_of Rest (found_or_no_tenant (option_map left tenant)) ≡ if_there tenant (λ its. Rest (left its))
rest-at tenant = grind arith

pub live-at : (tenant : Option Tenant) → reply_of Alive (found_or_no_tenant (option_map live_in tenant)) ≡ if_there tenant (λ its. Alive (live_in its))
live-at tenant = grind arith

-- ---- a step of the tenant

-- one that was taken isn't refused
granted : (rules : Rules) (core : CoreState) (step : Step) → is_admit step ≡ false → shared_refusal rules core step ≡ None → lone_refusal rules (tenant_in core.tenants (tenant_of step)) step ≡ None
granted rules core step other none = ap (λ (c : Came). refusal_in c) (sym (own-result rules core step other none)) ∙ none

-- of a Submit only the length of its words matters
same-tests : {X : Type 0} (tests : List (Bool × Refusal)) (one other : X) → refusal_in (unless tests one) ≡ refusal_in (unless tests other)
same-tests [] one other = refl
same-tests {X = X} (test ∷ tests) one other = grind (arith, same-tests tests one other)

same-search : (rules : Rules) (its : Tenant) (number a b c d depth : ℕ) → lone_refusal rules (Some its) (Submit number (root_words a b depth) frame_size) ≡ lone_refusal rules (Some its) (Submit number (root_words c d depth) frame_size)
same-search rules its number a b c d depth =
    same-tests {X = Outcome Leaf} (submit_tests its (root_words a b depth) frame_size) (submitted its number (root_words a b depth) frame_size) (submitted its number (root_words c d depth) frame_size)

pub reserve-taken : (begun : HallOf) (number : ℕ) (history : History) (origins : List (List ℕ)) (quota : ReserveOf) → IsAtMoment begun number history origins → shared_refusal (jamboree begun.grain) (core_at begun history) (AdmitMore number quota) ≡ None →
    reply_to begun.grain number (lone_tenant begun history number) (Reserve quota) ≡ Reserved quota
reserve-taken begun number history origins quota m none = grind (arith, granted)

pub cancel-taken : (begun : HallOf) (number : ℕ) (history : History) (origins : List (List ℕ)) (job : ℕ) → IsAtMoment begun number history origins → shared_refusal (jamboree begun.grain) (core_at begun history) (CancelStep number job) ≡ None →
    reply_to begun.grain number (lone_tenant begun history number) (Cancel job) ≡ Ended job
cancel-taken begun number history origins job m none = grind (arith, granted)

-- what an Ask is answered by a tenant that is there
asked-by : (begun : HallOf) (number : ℕ) (history : History) (origins : List (List ℕ)) (depth own opp : ℕ) (board : List Cell) (side : Side) (r : Option Refusal) (m : IsAtMoment begun number history origins) →
    lone_refusal (jamboree begun.grain) (Some m.tenant) (Submit number (root_words own opp depth) frame_size) ≡ r →
    reply_to begun.grain number (lone_tenant begun history number) (Ask depth board side) ≡ unless_refused r (Job (length m.tenant.jobs + 1))
asked-by begun number history origins depth own opp board side r m is =
    let rules = jamboree begun.grain in
    ap (λ (o : Option Tenant). reply_to begun.grain number o (Ask depth board side)) m.alone
    ∙ ap (λ (x : Option Refusal). unless_refused x (Job (length m.tenant.jobs + 1))) (same-search rules m.tenant number (own_word board) (opp_word board) own opp depth ∙ is)

pub ask-taken : (begun : HallOf) (number : ℕ) (history : History) (asked : List SeatAsked) (depth own opp : ℕ) (board : List Cell) (side : Side) → IsAtMoment begun number history (map root_of asked) →
    shared_refusal (jamboree begun.grain) (core_at begun history) (Submit number (root_words own opp depth) frame_size) ≡ None →
    reply_to begun.grain number (lone_tenant begun history number) (Ask depth board side) ≡ Job (length asked + 1)
ask-taken begun number history asked depth own opp board side m none = grind (arith, granted, asked-by, as-many)

-- one that was refused, and is no raise, is refused as the tenant alone would be
own-refusal : (came : Came) (refusal : Refusal) → ((r : Refusal) → refusal_in came ≡ Some r → ◌≡◌ {A = Result (DidOf Leaf) Refusal} (Err refusal) (Err r)) → (refusal_in came ≡ None → Err refusal ≡ answer_of came) → refusal_in came ≡ Some refusal
own-refusal came refusal own taken = grind arith

cancel-own : (rules : Rules) (core : CoreState) (number job : ℕ) (refusal : Refusal) → IsAnswerTo {A = LeafAnswer} rules core (CancelStep number job) (Err refusal) →
    lone_refusal {A = LeafAnswer} rules (tenant_in core.tenants number) (CancelStep number job) ≡ Some refusal
cancel-own rules core number job refusal right = let a = right.1 refl in own-refusal (lone {A = LeafAnswer} rules (tenant_in core.tenants number) (CancelStep number job)) refusal (λ r is. a.own_state r is) (λ none. a.else_taken none refl)

submit-own : (rules : Rules) (core : CoreState) (number : ℕ) (words : List ℕ) (refusal : Refusal) → IsAnswerTo {A = LeafAnswer} rules core (Submit number words frame_size) (Err refusal) →
    lone_refusal {A = LeafAnswer} rules (tenant_in core.tenants number) (Submit number words frame_size) ≡ Some refusal
submit-own rules core number words refusal right = let a = right.1 refl in own-refusal (lone {A = LeafAnswer} rules (tenant_in core.tenants number) (Submit number words frame_size)) refusal (λ r is. a.own_state r is) (λ none. a.else_taken none refl)

pub cancel-refused : (begun : HallOf) (number : ℕ) (history : History) (origins : List (List ℕ)) (job : ℕ) (refusal : Refusal) → IsAtMoment begun number history origins →
    IsAnswerTo {A = LeafAnswer} (jamboree begun.grain) (core_at begun history) (CancelStep number job) (Err refusal) → IsReplyAt begun number history (Cancel job) (Refused (refusal_number refusal))
cancel-refused begun number history origins job refusal m right =
    let rules = jamboree begun.grain in
    let own = cancel-own rules (core_at begun history) number job refusal right in
    inl (sym (ap (λ (o : Option Tenant). unless_refused (lone_refusal {A = LeafAnswer} rules o (CancelStep number job)) (Ended job)) (m.alone ∙ sym m.core) ∙ ap (λ (r : Option Refusal). unless_refused r (Ended job)) own))

pub ask-refused : (begun : HallOf) (number : ℕ) (history : History) (origins : List (List ℕ)) (depth own opp : ℕ) (board : List Cell) (side : Side) (refusal : Refusal) → IsAtMoment begun number history origins →
    IsAnswerTo {A = LeafAnswer} (jamboree begun.grain) (core_at begun history) (Submit number (root_words own opp depth) frame_size) (Err refusal) → IsReplyAt begun number history (Ask depth board side) (Refused (refusal_number refusal))
ask-refused begun number history origins depth own opp board side refusal m right =
    let rules = jamboree begun.grain in
    let step : Step = Submit number (root_words own opp depth) frame_size in
    let alone = ap (λ (o : Option Tenant). lone_refusal rules o step) (sym m.core) ∙ submit-own rules (core_at begun history) number (root_words own opp depth) refusal right in
    inl (sym (asked-by begun number history origins depth own opp board side (Some refusal) m alone))

-- a raise that was refused: for the tenant's own state, or for room
raise-refused : (rules : Rules) (core : CoreState) (number : ℕ) (quota : ReserveOf) (refusal : Refusal) (beyond : Bool) (came : Came) → lone {A = LeafAnswer} rules (tenant_in core.tenants number) (AdmitMore number quota) ≡ came →
    step_result {A = LeafAnswer} rules core (AdmitMore number quota) ≡ unless_beyond beyond came → IsAnswerToAdmit {A = LeafAnswer} rules core (AdmitMore number quota) (Err refusal) →
    (lone_refusal {A = LeafAnswer} rules (tenant_in core.tenants number) (AdmitMore number quota) ≡ Some refusal)
    ⊎ ((lone_refusal {A = LeafAnswer} rules (tenant_in core.tenants number) (AdmitMore number quota) ≡ None)
    × (((shared_refusal {A = LeafAnswer} rules core (AdmitMore number quota) ≡ Some Full) × (refusal ≡ Full)) ⊎ ((shared_refusal {A = LeafAnswer} rules core (AdmitMore number quota) ≡ None) × (refusal ≡ OutOfMemory))))
raise-refused rules core number quota refusal beyond (Err other) own is right = grind arith
raise-refused rules core number quota refusal true (Ok outcome) own is right = grind arith
raise-refused rules core number quota refusal false (Ok outcome) own is right = grind arith

pub reserve-refused : (begun : HallOf) (number : ℕ) (history : History) (origins : List (List ℕ)) (quota : ReserveOf) (refusal : Refusal) → IsAtMoment begun number history origins →
    IsAnswerTo {A = LeafAnswer} (jamboree begun.grain) (core_at begun history) (AdmitMore number quota) (Err refusal) → IsReplyAt begun number history (Reserve quota) (Refused (refusal_number refusal))
reserve-refused begun number history origins quota refusal m right =
    by (raise-refused rules core number quota refusal (is_beyond (reservations_in core) (reserved_by (tenant_in core.tenants number)) quota) (lone {A = LeafAnswer} rules (tenant_in core.tenants number) (AdmitMore number quota)) refl refl (right.0 refl))
  where
    rules : Rules
    rules = jamboree begun.grain

    core : CoreState
    core = core_at begun history

    by : (lone_refusal {A = LeafAnswer} rules (tenant_in core.tenants number) (AdmitMore number quota) ≡ Some refusal)
        ⊎ ((lone_refusal {A = LeafAnswer} rules (tenant_in core.tenants number) (AdmitMore number quota) ≡ None)
        × (((shared_refusal {A = LeafAnswer} rules core (AdmitMore number quota) ≡ Some Full) × (refusal ≡ Full)) ⊎ ((shared_refusal {A = LeafAnswer} rules core (AdmitMore number quota) ≡ None) × (refusal ≡ OutOfMemory))))
        → IsReplyAt begun number history (Reserve quota) (Refused (refusal_number refusal))
    by (inl own) = inl (sym (ap (λ (o : Option Tenant). unless_refused (lone_refusal {A = LeafAnswer} rules o (AdmitMore number quota)) (Reserved quota)) (m.alone ∙ sym m.core) ∙ ap (λ (r : Option Refusal). unless_refused r (Reserved quota)) own))
    by (inr (alone, inl full)) = inr (alone, inl (full.0, ap (λ (r : Refusal). Refused (refusal_number r)) full.1))
    by (inr (alone, inr wanting)) = inr (alone, inr (wanting.0, ap (λ (r : Refusal). Refused (refusal_number r)) wanting.1))

-- ---- the refusals without a step

full-refused : {X : Type 0} (b : Bool) (rest : Result X Refusal) → b ≡ true → refusal_in (if b then Err NoJobsLeft else rest) ≡ Some NoJobsLeft
full-refused b rest is = grind arith

pub ask-at-once : (begun : HallOf) (number : ℕ) (history : History) (asked : List SeatAsked) (depth : ℕ) (board : List Cell) (side : Side) (reply : OfficeReply) → IsAtMoment begun number history (map root_of asked) →
    IsRefusedAtOnce asked (Ask depth board side) reply → IsReplyAt begun number history (Ask depth board side) reply
ask-at-once begun number history asked depth board side reply m at_once = grind (arith, as-many, full-refused, asked-by)

no-job : (job : Option JobOf) → Matches job None → job ≡ None
no-job job same = grind arith

pub cancel-at-once : (begun : HallOf) (number : ℕ) (history : History) (asked : List SeatAsked) (job : ℕ) (reply : OfficeReply) → IsAtMoment begun number history (map root_of asked) →
    IsRefusedAtOnce asked (Cancel job) reply → IsReplyAt begun number history (Cancel job) reply
cancel-at-once begun number history asked job reply m at_once =
    let none : job_at m.tenant.jobs job ≡ None = no-job (job_at m.tenant.jobs job) (subst (λ (o : Option SeatAsked). Matches (job_at m.tenant.jobs job) o) at_once.0 (matches asked m.tenant.jobs job m.jobs)) in
    inl (at_once.1 ∙ sym (ap (λ (o : Option Tenant). reply_to begun.grain number o (Cancel job)) m.alone ∙ ap (λ (o : Option JobOf). unless_refused (refusal_in (cancelled {I = Leaf} m.tenant o)) (Ended job)) none))
