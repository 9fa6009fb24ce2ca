-- A session's tenant at a moment of a desk's history: what its own steps have made of it, and that its jobs are what
-- its seat asked for.
use Rattle.desk_office.proofs.Common.{◌≡◌, ◌≢◌, ℕ, ◌≤◌, ◌==◌, ◌&&◌, List, [], ◌∷◌, ◌++◌, length, Bool, true, false, refl, sym, ap, ◌∙◌, subst, arith, if◌then◌else◌, Option, Some, None, Result, Ok, Err, nat_tests, ReserveOf, Refusal, StepOf, Admit, AdmitMore, Admitted, Functions, Tenant, admitted_with, first_step, lone, refusal_in, unless, tenant_of, only, state_after, alone_from, CoreState, tenant_in, with_outcome, meets_busy, is_beyond, reservations_in, reserved_by, unless_busy, unless_beyond, admit_tests, step_result, shared_refusal, shared_after, shared_with, shared_run, tenant_in-with_outcome, tenant_in-other-with_outcome, submits, origins_of, AreTakenFrom, IsJournalOf, StaysTaken, AreReplies, AreSearches, IsSearch, journal-searches, tenant-replies, Leaf, LeafAnswer, jamboree, HallOf, own, core_at, is_admit, is_leave, is_seat_step, seat_steps, steps_of, lone_tenant, AllOwn, AreTaken, IsThere, lone-keeps, History}
use Rattle.sched_rules.specs.Lone.{Outcome}

abbrev pub Step : Type 0
Step = StepOf LeafAnswer

abbrev Came : Type 0
Came = Result (Outcome Leaf) Refusal

abbrev Rules : Type 0
Rules = Functions Leaf LeafAnswer

-- ---- parts of a history

pub own-more : (m : ℕ) (xs ys : History) → own m (xs ++ ys) ≡ own m xs ++ own m ys
own-more m [] ys = refl
own-more m (e ∷ xs) ys = grind (arith, own-more m xs ys)

pub steps-more : (xs ys : History) → steps_of (xs ++ ys) ≡ steps_of xs ++ steps_of ys
steps-more [] ys = refl
steps-more (e ∷ xs) ys = ap (λ (l : List Step). e.1 ∷ l) (steps-more xs ys)

pub seat-more : (n : ℕ) (xs ys : List Step) → seat_steps n (xs ++ ys) ≡ seat_steps n xs ++ seat_steps n ys
seat-more n [] ys = refl
seat-more n (x ∷ xs) ys = grind (arith, seat-more n xs ys)

-- what is added to a list without changing it is nothing
pub adds-none : {X : Type 0} (xs ys : List X) → xs ++ ys ≡ xs → ys ≡ []
adds-none [] ys is = is
adds-none (x ∷ xs) ys is = let rest : xs ++ ys ≡ xs = cc is in adds-none xs ys rest

-- the seat steps of a tenant are its own
pub all-own : (n : ℕ) (steps : List Step) → AllOwn n (seat_steps n steps)
all-own n [] = tt
all-own n (x ∷ xs) = grind (arith, all-own n xs, nat_tests)

is-seat : (x : Step) (n : ℕ) → is_seat_step x ≡ true → tenant_of x ≡ n → (is_seat_step x && (tenant_of x == n)) ≡ true
is-seat x n p same = let here : (tenant_of x == n) ≡ true = grind (arith, nat_tests, same) in ap (λ b. b && (tenant_of x == n)) p ∙ here

-- a maker whose steps are all a tenant's seat steps has made no more of them than there are
few : (m n : ℕ) (xs : History) → AllOwn n (own m xs) → length (own m xs) ≤ length (seat_steps n (steps_of xs))
few m n [] all = omega arith
few m n (e ∷ xs) all = grind (arith, few m n xs, is-seat)

-- where it has made all of them in a history, it has in each beginning of it
pub all-mine : (m n : ℕ) (xs ys : History) → AllOwn n (own m (xs ++ ys)) → seat_steps n (steps_of (xs ++ ys)) ≡ own m (xs ++ ys) → seat_steps n (steps_of xs) ≡ own m xs
all-mine m n [] ys all is = refl
all-mine m n (e ∷ xs) ys all is = by (e.0 == m) (is_seat_step e.1 && (tenant_of e.1 == n)) refl all is (all-mine m n xs ys)
  where
    seats : List Step
    seats = seat_steps n (steps_of (xs ++ ys))

    by : (b c : Bool) → (is_seat_step e.1 && (tenant_of e.1 == n)) ≡ c → AllOwn n (if b then e.1 ∷ own m (xs ++ ys) else own m (xs ++ ys)) → (if c then e.1 ∷ seats else seats) ≡ (if b then e.1 ∷ own m (xs ++ ys) else own m (xs ++ ys))
        → (AllOwn n (own m (xs ++ ys)) → seats ≡ own m (xs ++ ys) → seat_steps n (steps_of xs) ≡ own m xs)
        → (if c then e.1 ∷ seat_steps n (steps_of xs) else seat_steps n (steps_of xs)) ≡ (if b then e.1 ∷ own m xs else own m xs)
    by true true q a h rest = let tails : seats ≡ own m (xs ++ ys) = cc h in ap (λ (l : List Step). e.1 ∷ l) (rest a.2 tails)
    by true false q a h rest = absurd (let e : true ≡ false = sym (is-seat e.1 n a.0 a.1) ∙ q in cc e)
    by false true q a h rest = absurd (let less = few m n (xs ++ ys) a in let more = ap length h in omega (arith, less, more))
    by false false q a h rest = rest a h

-- ---- a tenant follows its own steps

-- a step by which a tenant that is there stays
abbrev pub Goes : Step → Type 0
Goes step = (is_admit step ≡ false) × (is_leave step ≡ false)

abbrev pub AllGo : List Step → Type 0
AllGo [] = Unit {0}
AllGo (step ∷ steps) = Goes step × AllGo steps

worker-goes : (step : Step) → is_seat_step step ≡ false → Goes step
worker-goes step worker = grind arith

-- a step that is taken and no Admit comes to what its tenant alone would
beyond-own : (beyond : Bool) (came : Came) → refusal_in (unless_beyond beyond came) ≡ None → unless_beyond beyond came ≡ came
beyond-own beyond came none = grind arith

busy-own : (busy : Bool) (came : Came) → refusal_in (unless_busy busy came) ≡ None → unless_busy busy came ≡ came
busy-own busy came none = grind arith

pub own-result : (rules : Rules) (shared : CoreState) (step : Step) → is_admit step ≡ false → shared_refusal rules shared step ≡ None → step_result rules shared step ≡ lone rules (tenant_in shared.tenants (tenant_of step)) step
own-result rules shared (Admit number quota) other none = absurd (cc other)
own-result rules shared (AdmitMore number quota) other none =
    beyond-own (is_beyond (reservations_in shared) (reserved_by (tenant_in shared.tenants number)) quota) (lone rules (tenant_in shared.tenants number) (AdmitMore number quota)) none
own-result rules shared step other none = busy-own (meets_busy step shared.tenants) (lone rules (tenant_in shared.tenants (tenant_of step)) step) none

-- what comes of a tenant by its own steps, which are these, among all steps of a core
pub record Follows (rules : Rules) (t : ℕ) (shared : CoreState) (own : Option Tenant) (steps mine : List Step) : Type 0 where
  pub taken : AreTakenFrom rules own mine
  pub comes : tenant_in (shared_run rules shared steps).tenants t ≡ alone_from rules own mine
  pub there : IsThere (alone_from rules own mine)

-- a step of another tenant
by-other : (t : ℕ) (shared : CoreState) (step : Step) (came : Came) → tenant_of step ≢ t → tenant_in (shared_after shared step came).tenants t ≡ tenant_in shared.tenants t
by-other t shared step came other = grind (arith, tenant_in-other-with_outcome)

later-go : (b c : Bool) (step : Step) (steps : List Step) → AllGo (if b && c then step ∷ steps else steps) → AllGo steps
later-go b c step steps go = grind arith

first-goes : (b c : Bool) (step : Step) (steps : List Step) → is_seat_step step ≡ b → c ≡ true → AllGo (if b && c then step ∷ steps else steps) → Goes step
first-goes b c step steps is here go = grind (arith, worker-goes)

abbrev GoesOn : Rules → ℕ → List Step → Type 0
GoesOn rules t steps =
    (shared : CoreState) (own : Tenant) → tenant_in shared.tenants t ≡ Some own → AreTaken rules shared steps → AllGo (seat_steps t steps) → Follows rules t shared (Some own) steps (only t steps)

-- one more step of a tenant that is there
by-own : (rules : Rules) (t : ℕ) (shared : CoreState) (own : Tenant) (step : Step) (steps : List Step) → tenant_of step ≡ t → tenant_in shared.tenants t ≡ Some own → Goes step →
    shared_refusal rules shared step ≡ None → AreTaken rules (shared_after shared step (step_result rules shared step)) steps → AllGo (seat_steps t steps) → GoesOn rules t steps →
    Follows rules t shared (Some own) (step ∷ steps) (step ∷ only t steps)
by-own rules t shared own step steps same at goes none legal go again =
    let found : tenant_in shared.tenants (tenant_of step) ≡ Some own = ap (λ n. tenant_in shared.tenants n) same ∙ at in
    let result : step_result rules shared step ≡ lone rules (Some own) step = own-result rules shared step goes.0 none ∙ ap (λ (o : Option Tenant). lone rules o step) found in
    let r = by (lone rules (Some own) step) refl (ap (λ (c : Came). refusal_in c) (sym result) ∙ none) (subst (λ (c : Came). AreTaken rules (shared_after shared step c) steps) result legal) in
    record { taken = (r.0, r.1); comes = ap (λ (c : Came). tenant_in (shared_run rules (shared_after shared step c) steps).tenants t) result ∙ r.2; there = r.3 }
  where
    by : (came : Came) → lone rules (Some own) step ≡ came → refusal_in came ≡ None → AreTaken rules (shared_after shared step came) steps →
        StaysTaken came × AreTakenFrom rules (state_after (Some own) came) (only t steps) × (tenant_in (shared_run rules (shared_after shared step came) steps).tenants t ≡ alone_from rules (state_after (Some own) came) (only t steps))
        × IsThere (alone_from rules (state_after (Some own) came) (only t steps))
    by (Err refusal) is none legal = absurd (cc none)
    by (Ok (None, did)) is none legal = absurd (lone-keeps rules (Some own) step (None, did) goes.1 is)
    by (Ok (Some next, did)) is none legal =
        let here : tenant_in (with_outcome (tenant_of step) (Some next) shared.tenants) t ≡ Some next =
        subst (λ n. tenant_in (with_outcome (tenant_of step) (Some next) shared.tenants) n ≡ Some next) same (tenant_in-with_outcome (tenant_of step) (Some next) shared.tenants) in
        let f = again (shared_with shared step (Some next)) next here legal go in
        (tt, f.taken, f.comes, f.there)

goes-one : (rules : Rules) (t : ℕ) (step : Step) (steps : List Step) → GoesOn rules t steps → GoesOn rules t (step ∷ steps)
goes-one rules t step steps again shared own at legal go = by (tenant_of step == t) refl (later-go (is_seat_step step) (tenant_of step == t) step (seat_steps t steps) go)
  where
    by : (b : Bool) → (tenant_of step == t) ≡ b → AllGo (seat_steps t steps) → Follows rules t shared (Some own) (step ∷ steps) (if b then step ∷ only t steps else only t steps)
    by true is later =
        let same : tenant_of step ≡ t = grind (arith, nat_tests, is) in
        by-own rules t shared own step steps same at (first-goes (is_seat_step step) (tenant_of step == t) step (seat_steps t steps) refl is go) legal.0 legal.1 later again
    by false is later =
        let other : tenant_of step ≢ t = λ e. absurd (grind (arith, nat_tests, is, e)) in
        let f = again (shared_after shared step (step_result rules shared step)) own (by-other t shared step (step_result rules shared step) other ∙ at) legal.1 later in
        record { taken = f.taken; comes = f.comes; there = f.there }

goes-on : (rules : Rules) (t : ℕ) (steps : List Step) → GoesOn rules t steps
goes-on rules t [] = λ shared own at legal go. record { taken = tt; comes = at; there = tt }
goes-on rules t (step ∷ steps) = goes-one rules t step steps (goes-on rules t steps)

-- the first step of a tenant that isn't there
none-first : (step : Step) → is_admit step ≡ false → refusal_in (first_step {I = Leaf} step) ≡ None → ⊥
none-first step other none = grind arith

unless-taken : {X : Type 0} (tests : List (Bool × Refusal)) (effect : X) → refusal_in (unless tests effect) ≡ None → unless tests effect ≡ Ok effect
unless-taken [] effect none = refl
unless-taken {X = X} (test ∷ tests) effect none = grind (arith, unless-taken tests effect)

-- a tenant that wasn't there, from its Admit on
pub begins : (rules : Rules) (t : ℕ) (quota : ReserveOf) (later : List Step) (shared : CoreState) (steps : List Step) → tenant_in shared.tenants t ≡ None → AreTaken rules shared steps → seat_steps t steps ≡ Admit t quota ∷ later → AllGo later →
    Follows rules t shared None steps (only t steps)
begins rules t quota later shared [] at legal is go = absurd (cc is)
begins rules t quota later shared (step ∷ steps) at legal is go = by (is_seat_step step) (tenant_of step == t) refl refl is (λ next. begins rules t quota later next steps)
  where
    after : CoreState
    after = shared_after shared step (step_result rules shared step)

    admits : step ≡ Admit t quota → seat_steps t steps ≡ later → Follows rules t shared None (step ∷ steps) (step ∷ only t steps)
    admits first rest =
        let admit : Step = Admit t quota in
        let P : Step → Type 0 = λ s. (shared_refusal rules shared s ≡ None) × AreTaken rules (shared_after shared s (step_result rules shared s)) steps in
        let legal' = subst P first (legal.0, legal.1) in
        let result : step_result rules shared admit ≡ Ok (Some (admitted_with quota), Admitted) = unless-taken (admit_tests shared t quota) (Some (admitted_with quota), Admitted) legal'.0 in
        let on = goes-on rules t steps (shared_with shared admit (Some (admitted_with quota))) (admitted_with quota) (tenant_in-with_outcome t (Some (admitted_with quota)) shared.tenants)
        (subst (λ (c : Came). AreTaken rules (shared_after shared admit c) steps) result legal'.1) (subst AllGo (sym rest) go) in
        subst (λ s. Follows rules t shared None (s ∷ steps) (s ∷ only t steps)) (sym first)
        (record { taken = (tt, on.taken); comes = ap (λ (c : Came). tenant_in (shared_run rules (shared_after shared admit c) steps).tenants t) result ∙ on.comes; there = on.there })

    by : (b c : Bool) → is_seat_step step ≡ b → (tenant_of step == t) ≡ c → (if b && c then step ∷ seat_steps t steps else seat_steps t steps) ≡ Admit t quota ∷ later
        → ((next : CoreState) → tenant_in next.tenants t ≡ None → AreTaken rules next steps → seat_steps t steps ≡ Admit t quota ∷ later → AllGo later → Follows rules t next None steps (only t steps))
        → Follows rules t shared None (step ∷ steps) (if c then step ∷ only t steps else only t steps)
    by true true p q is again =
        let first : step ≡ Admit t quota = cc is in
        let rest : seat_steps t steps ≡ later = cc is in
        admits first rest
    by false true p q is again =
        let same : tenant_of step ≡ t = grind (arith, nat_tests, q) in
        let other = (worker-goes step p).0 in
        let found : tenant_in shared.tenants (tenant_of step) ≡ None = ap (λ n. tenant_in shared.tenants n) same ∙ at in
        let result : step_result rules shared step ≡ first_step step = own-result rules shared step other legal.0 ∙ ap (λ (o : Option Tenant). lone rules o step) found in
        absurd (none-first step other (ap (λ (c : Came). refusal_in c) (sym result) ∙ legal.0))
    by true false p q is again =
        let other : tenant_of step ≢ t = λ e. absurd (grind (arith, nat_tests, q, e)) in
        let f = again after (by-other t shared step (step_result rules shared step) other ∙ at) legal.1 is go in
        record { taken = f.taken; comes = f.comes; there = f.there }
    by false false p q is again =
        let other : tenant_of step ≢ t = λ e. absurd (grind (arith, nat_tests, q, e)) in
        let f = again after (by-other t shared step (step_result rules shared step) other ∙ at) legal.1 is go in
        record { taken = f.taken; comes = f.comes; there = f.there }

-- ---- what the seat asked for

worker-asks-none : (step : Step) → is_seat_step step ≡ false → IsSearch step × (submits step ≡ [])
worker-asks-none step worker = grind arith

own-searches : (t : ℕ) (steps : List Step) → AreSearches (seat_steps t steps) → AreSearches (only t steps) × (origins_of (only t steps) ≡ origins_of (seat_steps t steps))
own-searches t [] h = (tt, refl)
own-searches t (step ∷ steps) h = grind (arith, own-searches t steps, worker-asks-none)

-- ---- a moment of a history

who-is : (found : Option Tenant) → IsThere found → (tenant : Tenant) × (found ≡ Some tenant)
who-is found h = grind arith

-- a tenant is there at a moment, in the core as if it were alone, and its jobs are what these words asked for
pub record IsAtMoment (begun : HallOf) (number : ℕ) (history : History) (origins : List (List ℕ)) : Type 0 where
  pub tenant : Tenant
  pub alone : lone_tenant begun history number ≡ Some tenant
  pub core : tenant_in (core_at begun history).tenants number ≡ Some tenant
  pub jobs : AreReplies origins tenant.jobs

pub moment : (begun : HallOf) (number : ℕ) (quota : ReserveOf) (later : List Step) (history : History) → tenant_in begun.shared.tenants number ≡ None → AreTaken (jamboree begun.grain) begun.shared (steps_of history) →
    seat_steps number (steps_of history) ≡ Admit number quota ∷ later → AllGo later → AreSearches (Admit number quota ∷ later) → IsAtMoment begun number history (origins_of (Admit number quota ∷ later))
moment begun number quota later history new legal mine go searches =
    let rules = jamboree begun.grain in
    let steps = steps_of history in
    let f = begins rules number quota later begun.shared steps new legal mine go in
    let here = who-is (alone_from rules None (only number steps)) f.there in
    let own = own-searches number steps (subst AreSearches (sym mine) searches) in
    let journal : IsJournalOf rules (only number steps) here.0 = record { taken = f.taken; comes = here.1 } in
    let replies = tenant-replies (origins_of (only number steps)) here.0 (journal-searches begun.grain (only number steps) here.0 journal own.0) in
    record {
      tenant = here.0;
      alone = here.1;
      core = f.comes ∙ here.1;
      jobs = subst (λ (os : List (List ℕ)). AreReplies os here.0.jobs) (own.1 ∙ ap origins_of mine) replies;
    }
