-- What a call of a session's office is, by what the desk's call has done.
use Rattle.desk_office.proofs.Common.{◌≡◌, ◌≢◌, ℕ, ◌+◌, ◌≤◌, [], ◌∷◌, map, length, Bool, true, false, Option, Some, None, Result, Ok, Err, refl, sym, ap, subst, ◌∙◌, inl, inr, arith, Contains, IfErr, MatchResult, nat_tests, length-append, length-map, map-append, Board, cells, Side, ReserveOf, Refusal, NoJob, NoJobsLeft, refusal_number, AdmitMore, Submit, root_words, frame_size, HallOf, Outcome, SeatAsked, ask_refusals, cancel_refusals, seat_asked_at, IsShown, SeatOf, reserve_refusals, seeing, stepped, IsAsked, lone_tenant, IsLook, IsShownAt, IsToldOf, Standing, KeepsAsks, Call, Reserve, Ask, Get, Wait, Cancel, OfficeReply, Reserved, Job, Told, Ended, Refused, reply_of, ask_of, told_answer, OfficeOf, with_seat, IsJobTold, IsStepBy, IsTurnAt, IsTurnOf, greatest_depth}
use Rattle.std.specs.Prelude.{◌==◌}
use Rattle.sched_rules.specs.declared.step.StepOf.TheVariants.{Cancel as CancelStep}
use Rattle.desk_office.proofs.SeatLemmas.{cancels, job-kept, refused-by, reserves}

-- a call of an office whose seat is this one, and then that one
turn : (begun : HallOf) (from : OfficeOf) (call : Call) (reply : OfficeReply) (before after : SeatOf) → from.seat ≡ Some before → IsTurnOf begun (Some before) call reply from (with_seat after from) →
    KeepsAsks (map ask_of before.asked) call reply (map ask_of after.asked) → IsTurnAt begun from call reply (with_seat after from)
turn begun from call reply before after is one keeps = grind arith

-- the board of a call that names none
no_words : Board
no_words = record { own = 0; opp = 0; disjoint = refl }

-- The step by which a call comes (IsStepBy), from what the desk's contract says of the call.

-- the seat reserves more
reserve-step : (begun : HallOf) (before after : SeatOf) (quota : ReserveOf) (answer : Result (Unit {0}) Refusal) → MatchResult answer (λ _. after ≡ stepped after.known before) (λ _. after ≡ seeing after.known before) →
    IsToldOf begun before.known (AdmitMore before.tenant quota) answer after.known → IsStepBy begun before (Reserve quota) (reply_of (λ _. Reserved quota) answer) after
reserve-step begun before after quota (Ok done) share told =
    record { words = no_words; board = tt; step = AdmitMore before.tenant quota; asks = refl; came = inl (record { took = told; seat = share; said = refl }) }
reserve-step begun before after quota (Err refusal) share told =
    record { words = no_words; board = tt; step = AdmitMore before.tenant quota; asks = refl; came = inr (inl (record { refusal = refusal; saw = told.0; right = told.1; seat = share; said = refl })) }

-- the seat asks
ask-step : (begun : HallOf) (before after : SeatOf) (words : Board) (depth : ℕ) (side : Side) (answer : Result ℕ Refusal) → depth ≤ greatest_depth → IsAsked (record { board = words; depth = depth }) before answer after →
    (length before.asked ≡ 256 → after ≡ before) →
    (length before.asked ≢ 256 → IsToldOf begun before.known (Submit before.tenant (root_words words.own words.opp depth) frame_size) answer after.known) →
    IsStepBy begun before (Ask depth (cells words) side) (reply_of Job answer) after
ask-step begun before after words depth side (Ok job) shallow asked full told =
    let asking : SeatAsked = record { board = words; depth = depth } in
    let counted : job ≡ length before.asked + 1 = asked.1 ∙ ap (λ (s : SeatOf). length s.asked) asked.0 ∙ length-append before.asked (asking ∷ []) in
    record { words = words; board = (refl, shallow); step = Submit before.tenant (root_words words.own words.opp depth) frame_size; asks = refl; came = inl (record { took = told asked.2; seat = asked.0; said = ap Job counted }) }
ask-step begun before after words depth side (Err refusal) shallow asked full told = by-test (length before.asked == 256) refl
  where
    by-test : (b : Bool) → (length before.asked == 256) ≡ b → IsStepBy begun before (Ask depth (cells words) side) (Refused (refusal_number refusal)) after
    by-test true e =
        let is : length before.asked ≡ 256 = grind (arith, nat_tests, e) in
        let why : refusal ≡ NoJobsLeft = asked.1 is in
        record { words = words; board = (refl, shallow); step = Submit before.tenant (root_words words.own words.opp depth) frame_size; asks = refl; came = inr (inr (full is, (is, ap (λ r. Refused (refusal_number r)) why))) }
    by-test false e =
        let other : length before.asked ≢ 256 = λ is. absurd (grind (arith, nat_tests, e, is)) in
        let kept = told other in
        record { words = words; board = (refl, shallow); step = Submit before.tenant (root_words words.own words.opp depth) frame_size; asks = refl; came = inr (inl (record { refusal = refusal; saw = kept.0; right = kept.1; seat = asked.0; said = refl })) }

-- the seat cancels
cancel-step : (begun : HallOf) (before after : SeatOf) (job : ℕ) (answer : Result (Unit {0}) Refusal) → MatchResult answer (λ _. after ≡ stepped after.known before) (λ _. after ≡ seeing after.known before) →
    (seat_asked_at before.asked job ≡ None → (answer ≡ Err NoJob) × (after ≡ before)) → (seat_asked_at before.asked job ≢ None → IsToldOf begun before.known (CancelStep before.tenant job) answer after.known) →
    IsStepBy begun before (Cancel job) (reply_of (λ _. Ended job) answer) after
cancel-step begun before after job answer share none told = by-found (seat_asked_at before.asked job) refl
  where
    by-answer : (a : Result (Unit {0}) Refusal) → MatchResult a (λ _. after ≡ stepped after.known before) (λ _. after ≡ seeing after.known before) → IsToldOf begun before.known (CancelStep before.tenant job) a after.known →
        IsStepBy begun before (Cancel job) (reply_of (λ _. Ended job) a) after
    by-answer (Ok done) share came = record { words = no_words; board = tt; step = CancelStep before.tenant job; asks = refl; came = inl (record { took = came; seat = share; said = refl }) }
    by-answer (Err refusal) share came =
        record { words = no_words; board = tt; step = CancelStep before.tenant job; asks = refl; came = inr (inl (record { refusal = refusal; saw = came.0; right = came.1; seat = share; said = refl })) }

    by-found : (o : Option SeatAsked) → seat_asked_at before.asked job ≡ o → IsStepBy begun before (Cancel job) (reply_of (λ _. Ended job) answer) after
    by-found None is =
        let nothing = none is in
        record { words = no_words; board = tt; step = CancelStep before.tenant job; asks = refl; came = inr (inr (nothing.1, (is, ap (reply_of (λ _. Ended job)) nothing.0))) }
    by-found (Some asked) is = by-answer answer share (told (λ nothing. absurd (cc (sym is ∙ nothing))))

-- how a job is told
job-look : (begun : HallOf) (before now : SeatOf) (job : ℕ) (answer : Result Outcome Refusal) → IsLook begun before now → IsShown (seat_asked_at now.asked job) answer → IsShownAt begun now job answer →
    IsJobTold now.asked (lone_tenant begun now.known.seen now.tenant) job (reply_of (Told job) (told_answer answer))
job-look begun before now job answer look shown at = grind arith

-- the refusals of an ask, and what it does to what was asked
asks-kept : (before after : SeatOf) (words : Board) (depth : ℕ) (side : Side) (answer : Result ℕ Refusal) → IsAsked (record { board = words; depth = depth }) before answer after → IfErr answer (Contains ask_refusals) →
    KeepsAsks (map ask_of before.asked) (Ask depth (cells words) side) (reply_of Job answer) (map ask_of after.asked)
asks-kept before after words depth side (Ok job) asked refused = grind (arith, length-map, length-append, map-append)
asks-kept before after words depth side (Err refusal) asked refused = grind (arith, length-map, refused-by)

-- the calls of an office whose seat is there
pub reserve-turn : (begun : HallOf) (from : OfficeOf) (before after : SeatOf) (quota : ReserveOf) (answer : Result (Unit {0}) Refusal) → from.seat ≡ Some before →
    MatchResult answer (λ _. after ≡ stepped after.known before) (λ _. after ≡ seeing after.known before) → IsToldOf begun before.known (AdmitMore before.tenant quota) answer after.known → IfErr answer (Contains reserve_refusals) →
    IsTurnAt begun from (Reserve quota) (reply_of (λ _. Reserved quota) answer) (with_seat after from)
reserve-turn begun from before after quota answer is share told refused =
    turn begun from (Reserve quota) (reply_of (λ _. Reserved quota) answer) before after is (after, refl, reserve-step begun before after quota answer share told) (reserves before after quota answer share refused)

pub ask-turn : (begun : HallOf) (from : OfficeOf) (before after : SeatOf) (words : Board) (depth : ℕ) (side : Side) (answer : Result ℕ Refusal) → from.seat ≡ Some before → depth ≤ greatest_depth → IsAsked (record { board = words; depth = depth }) before answer after →
    (length before.asked ≡ 256 → after ≡ before) →
    (length before.asked ≢ 256 → IsToldOf begun before.known (Submit before.tenant (root_words words.own words.opp depth) frame_size) answer after.known) → IfErr answer (Contains ask_refusals) →
    IsTurnAt begun from (Ask depth (cells words) side) (reply_of Job answer) (with_seat after from)
ask-turn begun from before after words depth side answer is shallow asked full told refused =
    turn begun from (Ask depth (cells words) side) (reply_of Job answer) before after is (after, refl, ask-step begun before after words depth side answer shallow asked full told) (asks-kept before after words depth side answer asked refused)

pub cancel-turn : (begun : HallOf) (from : OfficeOf) (before after : SeatOf) (job : ℕ) (answer : Result (Unit {0}) Refusal) → from.seat ≡ Some before →
    MatchResult answer (λ _. after ≡ stepped after.known before) (λ _. after ≡ seeing after.known before) → (seat_asked_at before.asked job ≡ None → (answer ≡ Err NoJob) × (after ≡ before)) →
    (seat_asked_at before.asked job ≢ None → IsToldOf begun before.known (CancelStep before.tenant job) answer after.known) → IfErr answer (Contains cancel_refusals) →
    IsTurnAt begun from (Cancel job) (reply_of (λ _. Ended job) answer) (with_seat after from)
cancel-turn begun from before after job answer is share none told refused =
    turn begun from (Cancel job) (reply_of (λ _. Ended job) answer) before after is (after, refl, cancel-step begun before after job answer share none told) (cancels before after job answer share none refused)

pub get-turn : (begun : HallOf) (from : OfficeOf) (before after : SeatOf) (job : ℕ) (answer : Result Outcome Refusal) (said : Result Standing Refusal) → from.seat ≡ Some before → IsLook begun before after →
    IsShown (seat_asked_at after.asked job) answer → IsShownAt begun after job answer → said ≡ told_answer answer → IsTurnAt begun from (Get job) (reply_of (Told job) said) (with_seat after from)
get-turn begun from before after job answer said is look shown at says =
    let kept = job-kept (Get job) before after job answer look.kept shown (inl refl) in
    subst (λ (r : Result Standing Refusal). IsTurnAt begun from (Get job) (reply_of (Told job) r) (with_seat after from)) (sym says)
    (turn begun from (Get job) (reply_of (Told job) (told_answer answer)) before after is (after, refl, record { look = look; said = job-look begun before after job answer look shown at }) (kept.0, kept.1, kept.2, kept.3))

pub wait-turn : (begun : HallOf) (from : OfficeOf) (before after : SeatOf) (job : ℕ) (answer : Result Outcome Refusal) (said : Result Standing Refusal) → from.seat ≡ Some before → IsLook begun before after →
    IsShown (seat_asked_at after.asked job) answer → IsShownAt begun after job answer → said ≡ told_answer answer → IsTurnAt begun from (Wait job) (reply_of (Told job) said) (with_seat after from)
wait-turn begun from before after job answer said is look shown at says =
    let kept = job-kept (Wait job) before after job answer look.kept shown (inr refl) in
    subst (λ (r : Result Standing Refusal). IsTurnAt begun from (Wait job) (reply_of (Told job) r) (with_seat after from)) (sym says)
    (turn begun from (Wait job) (reply_of (Told job) (told_answer answer)) before after is (after, refl, record { look = look; said = job-look begun before after job answer look shown at }) (kept.0, kept.1, kept.2, kept.3))
