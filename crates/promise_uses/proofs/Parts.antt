-- For the uses of the promises: what the definitions of `promises` come to, part by part, and what holds of a value
-- that there is.
use Rattle.promise_uses.proofs.Common.{◌≡◌, ◌≢◌, ◌⊎◌, ℕ, ℤ, ◌≤ℤ◌, List, true, Option, Some, None, Result, Ok, Err, inl, inr, ap, sym, subst, ◌∙◌, BoundKind, Low, High, Exact, Says, IfErr, OnOk, IfSome, MatchResult, ◌+◌, IsAnswerTo, own, Known, HallOf, SeatAsked, SeatOf, stepped, seeing, IsAsked, core_at, IsToldOf, Saw, Refusal, Busy, NoJobsLeft, DidOf, Steal, Spend, Tenant, is_busy_in, lone_refusal, alone, Leaf, jamboree, SearchStep, IsForBusyWorker, IsForOwnState, own_steps}
use Rattle.std.specs.Prelude.{◌++◌, ◌∷◌, [], length}

pub if-some : {T : Type 0} {P Q : T → Type 0} (o : Option T) → ((value : T) → P value → Q value) → IfSome o P → IfSome o Q
if-some (Some value) make p = make value p
if-some None make p = tt

pub if-err : {T E : Type 0} {P Q : E → Type 0} (r : Result T E) → ((error : E) → P error → Q error) → IfErr r P → IfErr r Q
if-err (Ok value) make p = tt
if-err (Err error) make p = make error p

abbrev pub SearchAnswer : Type 0
SearchAnswer = Result (DidOf Leaf) Refusal

-- what an entry says, by its kind
pub low-says : (kind : BoundKind) (score value : ℤ) → Says kind score value → kind ≡ Low → value ≤ℤ score
low-says kind score value says is = rw is at says

pub high-says : (kind : BoundKind) (score value : ℤ) → Says kind score value → kind ≡ High → score ≤ℤ value
high-says kind score value says is = rw is at says

pub exact-says : (kind : BoundKind) (score value : ℤ) → Says kind score value → kind ≡ Exact → value ≡ score
exact-says kind score value says is = rw is at says

-- the steps that are tried
abbrev pub stealing : ℕ → ℕ → SearchStep
stealing home serial = Steal 5 home (record { tenant = 7; serial = serial })

abbrev pub spending : ℕ → SearchStep
spending serial = Spend (record { tenant = 9; serial = serial })

module _ (grain : ℕ) (before : List SearchStep) (said : List SearchAnswer) where
  -- worker 5 was busy with another tenant
  abbrev pub IsBusyFive : Refusal → Type 0
  IsBusyFive refusal =
      (refusal ≡ Busy) × (another : ℕ) × (another ≢ 7) × (tenant : Tenant) × (alone (jamboree grain) (own_steps another before said) ≡ Some tenant)
      × (is_busy_in 5 tenant.frames ≡ true)

  busy-five : (home serial : ℕ) (refusal : Refusal) → IsForBusyWorker (jamboree grain) before said (stealing home serial) refusal → IsBusyFive refusal
  busy-five home serial refusal b =
      let free : Some 5 ≡ Some b.worker = b.free in
      let five : 5 ≡ b.worker = cc in
      let there = b.elsewhere in
      (b.is, there.another, there.other, there.tenant, there.there, ap (λ (w : ℕ). is_busy_in w there.tenant.frames) five ∙ there.busy)

  pub of-seven : (home serial : ℕ) (refusal : Refusal) →
      IsForOwnState (jamboree grain) before said (stealing home serial) refusal ⊎ IsForBusyWorker (jamboree grain) before said (stealing home serial) refusal →
      (lone_refusal (jamboree grain) (alone (jamboree grain) (own_steps 7 before said)) (stealing home serial) ≡ Some refusal) ⊎ IsBusyFive refusal
  of-seven home serial refusal (inl own) = inl own
  of-seven home serial refusal (inr busy) = inr (busy-five home serial refusal busy)

  pub of-nine : (serial : ℕ) (refusal : Refusal) →
      IsForOwnState (jamboree grain) before said (spending serial) refusal ⊎ IsForBusyWorker (jamboree grain) before said (spending serial) refusal →
      lone_refusal (jamboree grain) (alone (jamboree grain) (own_steps 9 before said)) (spending serial) ≡ Some refusal
  of-nine serial refusal (inl own) = own
  of-nine serial refusal (inr busy) = absurd (let free : None ≡ Some busy.worker = busy.free in cc)

-- how a step of tenant 9's seat was answered, by whether it was taken or refused
module _ {X : Type 0} (begun : HallOf) (before now : Known SearchStep) (step : ℕ → SearchStep) (number : ℕ) where
  pub taken-nine : (r : Result X Refusal) → number ≡ 9 → IsToldOf begun before (step number) r now →
      OnOk r ((between : List (ℕ × SearchStep)) × (now.seen ≡ (before.seen ++ between) ++ (before.maker, step 9) ∷ []) × (own before.maker (before.seen ++ between) ≡ before.mine)
      × (now.mine ≡ before.mine ++ step 9 ∷ []) × (now.maker ≡ before.maker))
  taken-nine (Ok value) nine told = subst (λ n. IsToldOf {X = X} begun before (step n) (Ok value) now) nine told
  taken-nine (Err refusal) nine told = tt

  pub refused-nine : (r : Result X Refusal) → number ≡ 9 → IsToldOf begun before (step number) r now →
      IfErr r (λ refusal. IsAnswerTo (jamboree begun.grain) (core_at begun now.seen) (step 9) (Err refusal))
  refused-nine (Ok value) nine told = tt
  refused-nine (Err refusal) nine told = (subst (λ n. IsToldOf {X = X} begun before (step n) (Err refusal) now) nine told).1

module _ (before after : SeatOf) where
  -- a call that changed the share and what is known of a seat, and nothing else of it
  pub share-of : (r : Result (Unit {0}) Refusal) → MatchResult r (λ value. after ≡ stepped after.known before) (λ refusal. after ≡ seeing after.known before) →
      MatchResult r (λ value. after.share ≡ before.share + 1) (λ refusal. after.share ≡ before.share)
  share-of (Ok value) is = ap (λ (s : SeatOf). s.share) is
  share-of (Err refusal) is = ap (λ (s : SeatOf). s.share) is

  pub kept-of : {X : Type 0} (r : Result X Refusal) → MatchResult r (λ value. after ≡ stepped after.known before) (λ refusal. after ≡ seeing after.known before) →
      before.tenant ≡ 9 → (after.asked ≡ before.asked) × (after.tenant ≡ 9)
  kept-of (Ok value) is nine = (ap (λ (s : SeatOf). s.asked) is, ap (λ (s : SeatOf). s.tenant) is ∙ nine)
  kept-of (Err refusal) is nine = (ap (λ (s : SeatOf). s.asked) is, ap (λ (s : SeatOf). s.tenant) is ∙ nine)

  -- a seat after an ask
  module _ (asked : SeatAsked) where
    pub list-of : (r : Result ℕ Refusal) → IsAsked asked before r after → MatchResult r (λ job. after.asked ≡ before.asked ++ asked ∷ []) (λ refusal. after.asked ≡ before.asked)
    list-of (Ok job) is = ap (λ (s : SeatOf). s.asked) is.0
    list-of (Err refusal) is = ap (λ (s : SeatOf). s.asked) is.0

    pub asked-share : (r : Result ℕ Refusal) → IsAsked asked before r after → MatchResult r (λ job. after.share ≡ before.share + 1) (λ refusal. after.share ≡ before.share)
    asked-share (Ok job) is = ap (λ (s : SeatOf). s.share) is.0
    asked-share (Err refusal) is = ap (λ (s : SeatOf). s.share) is.0

    pub asked-tenant : (r : Result ℕ Refusal) → IsAsked asked before r after → after.tenant ≡ before.tenant
    asked-tenant (Ok job) is = ap (λ (s : SeatOf). s.tenant) is.0
    asked-tenant (Err refusal) is = ap (λ (s : SeatOf). s.tenant) is.0

    pub no-more : (r : Result ℕ Refusal) → IsAsked asked before r after → length before.asked ≡ 256 → r ≡ Err NoJobsLeft
    no-more (Ok job) is full = absurd (is.2 full)
    no-more (Err refusal) is full = ap (λ (f : Refusal). Err f) (is.1 full)

-- a maker's steps in what it has seen, by what it knew before
pub seen-by : (before now : Known SearchStep) → Saw before now → own before.maker now.seen ≡ before.mine
seen-by before now saw = ap (λ (m : ℕ). own m now.seen) (sym saw.3) ∙ saw.1 ∙ saw.2
