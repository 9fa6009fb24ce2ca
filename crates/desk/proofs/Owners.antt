-- Of a desk's history: the steps that a seat made are all the seat steps of its tenant.
use Rattle.desk.proofs.Common.{◌≡◌, ℕ, ◌<◌, ◌≤◌, ◌==◌, List, [], ◌∷◌, ◌++◌, true, refl, sym, ap, ◌∙◌, subst, arith, if◌then◌else◌, Result, Ok, Err, nat_tests, ReserveOf, Refusal, StepOf, Admit, tenant_of, only, LeafAnswer, own as own_by, steps_of, is_seat_step, seat_steps, with_taken, Owned, HasOwners, AllOwn, AreStepsOfSeat, AreStepsUpTo}

abbrev pub Step : Type 0
Step = StepOf LeafAnswer

abbrev pub Entries : Type 0
Entries = List (ℕ × Step)

pub steps_of-more : (log : Entries) (m : ℕ) (step : Step) → steps_of (log ++ (m, step) ∷ []) ≡ steps_of log ++ step ∷ []
steps_of-more [] m step = refl
steps_of-more (e ∷ es) m step = ap (λ l. e.1 ∷ l) (steps_of-more es m step)

-- a step of a seat is one of a seat whose steps so far are these
abbrev pub IsOfSeat : List Step → Step → Type 0
IsOfSeat mine step = is_seat_step step ≡ true → AreStepsOfSeat (tenant_of step) mine

-- Owners of tenants.
module _ (owner : ℕ → ℕ) (m t : ℕ) where
  -- who made the admission is the owner
  owner-is : (reserve : ReserveOf) (log : Entries) (later : List Step) → Owned owner log → own_by m log ≡ Admit t reserve ∷ later → owner t ≡ m
  owner-is reserve [] later o h = absurd (cc h)
  owner-is reserve (e ∷ es) later o h = grind (arith, nat_tests, owner-is reserve es later o.1)

  -- the tenant's seat steps are those by its owner
  own-is : (log : Entries) → Owned owner log → owner t ≡ m → AllOwn t (own_by m log) → seat_steps t (steps_of log) ≡ own_by m log
  own-is [] o at all = refl
  own-is (e ∷ es) o at all = grind (arith, nat_tests, own-is es o.1 at)

  -- a new tenant has a new owner
  owned-new : (log : Entries) → Owned owner log → seat_steps t (steps_of log) ≡ [] → Owned (λ n. if n == t then m else owner n) log
  owned-new [] o none = tt
  owned-new (e ∷ es) o none = grind (arith, nat_tests, owned-new es o.1)

owned-more : (owner : ℕ → ℕ) (log : Entries) (m : ℕ) (step : Step) → Owned owner log → (is_seat_step step ≡ true → m ≡ owner (tenant_of step)) →
    Owned owner (log ++ (m, step) ∷ [])
owned-more owner [] m step o h = (h, tt)
owned-more owner (e ∷ es) m step o h = (o.0, owned-more owner es m step o.1 h)

-- Makers and their steps in a history whose tenants have owners.
module _ (m : ℕ) (log : Entries) (o : HasOwners log) where
  -- of a seat
  pub steps-are-mine : (t : ℕ) (mine : List Step) → AreStepsOfSeat t mine → own_by m log ≡ mine → seat_steps t (steps_of log) ≡ mine
  steps-are-mine t mine a h =
      let at = owner-is o.0 m t a.0 log a.1 o.1 (h ∙ a.2) in
      own-is o.0 m t log o.1 at (subst (λ l. AllOwn t l) (sym h) a.3) ∙ h

  -- a step by the owner, or one of a worker
  pub owners-more : (mine : List Step) (step : Step) → IsOfSeat mine step → own_by m log ≡ mine → HasOwners (log ++ (m, step) ∷ [])
  owners-more mine step seats h = (o.0, owned-more o.0 log m step o.1 (λ own. let a = seats own in sym (owner-is o.0 m (tenant_of step) a.0 log a.1 o.1 (h ∙ a.2))))

  pub owners-admit : (t : ℕ) (reserve : ReserveOf) → seat_steps t (steps_of log) ≡ [] → HasOwners (log ++ (m, Admit t reserve) ∷ [])
  owners-admit t reserve none =
      let owner : ℕ → ℕ = λ n. if n == t then m else o.0 n in
      let here : m ≡ owner t = grind (arith, nat_tests) in
      (owner, owned-more owner log m (Admit t reserve) (owned-new o.0 m t log o.1 none) (λ _. here))

-- A step of the seat of this tenant.
module _ (t : ℕ) (step : Step) (own : is_seat_step step ≡ true) (at : tenant_of step ≡ t) where
  all-own-more : (mine : List Step) → AllOwn t mine → AllOwn t (mine ++ step ∷ [])
  all-own-more [] a = (own, at, tt)
  all-own-more (s ∷ ss) a = (a.0, a.1, all-own-more ss a.2)

  pub seats-taken : {X : Type 0} (mine : List Step) (answer : Result X Refusal) → AreStepsOfSeat t mine → AreStepsOfSeat t (with_taken mine step answer)
  seats-taken mine (Ok value) a = (a.0, a.1 ++ step ∷ [], ap (λ l. l ++ step ∷ []) a.2, all-own-more mine a.3)
  seats-taken mine (Err refusal) a = a

-- No step of a history is of a tenant above all.
module _ (newest : ℕ) where
  pub unused : (t : ℕ) (log : Entries) → AreStepsUpTo newest log → newest < t → only t (steps_of log) ≡ []
  unused t [] h above = refl
  unused t (e ∷ es) h above = grind (arith, nat_tests, h.0, unused t es h.1 above)

  pub unmade : (t : ℕ) (log : Entries) → AreStepsUpTo newest log → newest < t → seat_steps t (steps_of log) ≡ []
  unmade t [] h above = refl
  unmade t (e ∷ es) h above = grind (arith, nat_tests, h.0, unmade t es h.1 above)

  pub upto-more : (newer : ℕ) (log : Entries) (m : ℕ) (step : Step) → AreStepsUpTo newest log → newest ≤ newer → tenant_of step ≤ newer →
      AreStepsUpTo newer (log ++ (m, step) ∷ [])
  upto-more newer [] m step h more within = (within, tt)
  upto-more newer (e ∷ es) m step h more within = let small = h.0 in (omega arith, upto-more newer es m step h.1 more within)
