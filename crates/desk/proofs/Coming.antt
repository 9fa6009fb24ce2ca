-- The hall under a desk's lock has come by the steps of the desk's history, one after the other.
use Rattle.desk.proofs.Common.{◌≡◌, ℕ, ◌+◌, ◌<◌, ◌≤◌, List, [], ◌∷◌, ◌++◌, true, false, refl, sym, ap, ◌∙◌, subst, arith, None, Result, Ok, Err, OnOk, OnErr, IsPrefix, ReserveOf, Refusal, Admit, Leave, DidOf, Left, refusal_in, tenant_of, only, alone_from, CoreState, tenant_in, shared_run, newest_after, IsOneStep, AreNumbersGiven, step-taken, known-number, tenant_in-new, Leaf, LeafAnswer, jamboree, HallOf, hall_after, IsExplained, own, Known, SeatOf, seeing, steps_of, core_at, is_admit, with_taken, is_leave, AreStepsOfSeat, HasNoLeave, HasOwners, IsAtEndOf, IsComeBy, IsThere, IsLook, IsToldOf}
use Rattle.desk.proofs.Judged.{run-more, taken-more, no-first, newest-stays, Rights, Headlines, isolated}
use Rattle.desk.proofs.Staying.{there-more, seat-stays, leaves}
use Rattle.desk.proofs.Owners.{Step, Entries, IsOfSeat, steps_of-more, owners-more, owners-admit, steps-are-mine, unused, unmade, upto-more}

abbrev Answer : Type 0
Answer = Result (DidOf Leaf) Refusal

-- nothing has come by yet
pub come-begun : (begun hall : HallOf) → hall ≡ begun → IsExplained hall → IsComeBy begun hall.grain hall.shared []
come-begun begun hall is explained =
    let given = explained.known in
    subst (λ (b : HallOf). IsComeBy b hall.grain hall.shared []) is
    (record { same = refl; core = refl; legal = tt; owners = ((λ _. 0), tt); upto = tt; later = omega arith; first = given; given = given; there = λ t stays. absurd (cc stays) })

-- it is at the history's end
pub at-end : (begun hall : HallOf) (log : Entries) → IsComeBy begun hall.grain hall.shared log → IsAtEndOf begun log hall
at-end begun hall log come = record { grain = come.same; core = come.core; legal = come.legal }

-- A hall that has come by this history.
module _ {begun : HallOf} {log : Entries} (before : HallOf) (come : IsComeBy begun before.grain before.shared log) where
  pub new-unused : (t : ℕ) → t ≡ before.shared.newest + 1 → only t (steps_of log) ≡ []
  new-unused t number = unused before.shared.newest t log come.upto (omega (arith, number))

  -- a seat looks
  pub looks : (was now : SeatOf) → Rights (jamboree begun.grain) → Headlines (jamboree begun.grain) → AreStepsOfSeat was.tenant was.known.mine → begun.shared.newest < was.tenant →
      IsPrefix was.known.seen log → own was.known.maker log ≡ was.known.mine → now ≡ seeing (record { maker = was.known.maker; seen = log; mine = was.known.mine }) was → IsLook begun was now
  looks was now right headline seats new prefix is_mine is =
      let rules = jamboree begun.grain in
      let t = was.tenant in
      let nobody : tenant_in begun.shared.tenants t ≡ None = tenant_in-new begun.shared.newest t begun.shared.tenants new come.first in
      let alone = isolated rules begun.shared (steps_of log) t right headline come.first come.legal ∙ ap (λ o. alone_from rules o (only t (steps_of log))) nobody in
      let mine = steps-are-mine was.known.maker log come.owners t was.known.mine seats is_mine in
      subst (λ (s : SeatOf). IsLook begun was s) (sym is) (record { kept = refl; saw = (prefix, is_mine, refl, refl); legal = come.legal; mine = mine; alone = alone })

  -- One more step, and the hall after it.
  module _ (after : HallOf) where
    abbrev Answers : Step → Answer → Type 0
    Answers step answer = IsOneStep (jamboree before.grain) before.shared step answer after.shared

    abbrev Went : Step → Type 0
    Went step = after ≡ hall_after before step after.shared

    abbrev Comes : Entries → Type 0
    Comes entries = IsComeBy begun after.grain after.shared entries

    -- it is one at the end of the history
    one-at : (step : Step) (answer : Answer) → Answers step answer → IsOneStep (jamboree begun.grain) (core_at begun log) step answer after.shared
    one-at step answer one = subst (λ (x : ℕ × CoreState). IsOneStep (jamboree x.0) x.1 step answer after.shared) (λ i. (come.same i, come.core i)) one

    come-more : (m : ℕ) (step : Step) (did : DidOf Leaf) → Answers step (Ok did) → Went step → IsExplained after → HasOwners (log ++ (m, step) ∷ []) →
        before.shared.newest ≤ after.shared.newest → tenant_of step ≤ after.shared.newest → Comes (log ++ (m, step) ∷ [])
    come-more m step did one is explained owners more within =
        let rules = jamboree begun.grain in
        let core = core_at begun log in
        let at = one-at step (Ok did) one in
        let taken = step-taken rules core step did (subst AreNumbersGiven come.core come.given) at.answered in
        let later = come.later in
        let IsThereIn : ℕ → CoreState → Type 0 = λ t s. IsThere (tenant_in s.tenants t) in
        record {
          same = ap (λ h. h.grain) is ∙ come.same;
          core = at.left ∙ sym (ap (λ l. shared_run rules begun.shared l) (steps_of-more log m step) ∙ run-more rules begun.shared (steps_of log) step);
          legal = rw steps_of-more (taken-more rules begun.shared (steps_of log) step come.legal (ap (λ r. refusal_in r) taken.among));
          owners = owners;
          upto = upto-more before.shared.newest after.shared.newest log m step come.upto more within;
          later = omega arith;
          first = come.first;
          given = explained.known;
          there = λ t stays. subst (IsThereIn t) (sym at.left) (there-more taken false (steps_of log) t (λ h. subst (IsThereIn t) come.core (come.there t h)) (rw steps_of-more at stays));
        }

    -- a step that is no Admit, by the owner of its tenant or a worker
    pub come-offered : (m : ℕ) (mine : List Step) (step : Step) (answer : Answer) → is_admit step ≡ false → IsOfSeat mine step → own m log ≡ mine → Answers step answer → OnOk answer (Went step) →
        OnErr answer (after ≡ before) → OnOk answer (after.shared.newest ≡ newest_after before.shared.newest step) → IsExplained after → Comes (with_taken log (m, step) answer)
    come-offered m mine step (Ok did) other seats is_mine one is refused newest explained =
        let rules = jamboree before.grain in
        let core = before.shared in
        let same : after.shared.newest ≡ core.newest = newest ∙ newest-stays core.newest step other in
        let taken = step-taken rules core step did come.given one.answered in
        let within = known-number core.newest (tenant_of step) core.tenants come.given (λ none. no-first rules step taken.outcome other (rw none at taken.own)) in
        come-more m step did one is explained (owners-more m log come.owners mine step seats is_mine) (omega (arith, same)) (omega (arith, same, within))
    come-offered m mine step (Err refusal) other seats is_mine one is refused newest explained = rw refused come

    -- the Admit of a new tenant
    pub come-admitted : (m t : ℕ) (reserve : ReserveOf) (did : DidOf Leaf) → t ≡ before.shared.newest + 1 → Answers (Admit t reserve) (Ok did) → Went (Admit t reserve) → after.shared.newest ≡ t → IsExplained after →
        Comes (log ++ (m, Admit t reserve) ∷ [])
    come-admitted m t reserve did number one is newest explained =
        let none = unmade before.shared.newest t log come.upto (omega (arith, number)) in
        let owners = owners-admit m log come.owners t reserve none in
        come-more m (Admit t reserve) did one is explained owners (omega (arith, number, newest)) (omega (arith, newest))

    -- a seat's Leave is taken
    pub leave-taken : (m : ℕ) (mine : List Step) (step : Step) (answer : Answer) → is_leave step ≡ true → IsOfSeat mine step → HasNoLeave mine → own m log ≡ mine → Answers step answer → answer ≡ Ok Left
    leave-taken m mine (Leave t) answer is seats none_left is_mine one =
        let a = seats refl in
        let stays = seat-stays t (steps_of log) mine a.1 (Admit t a.0) (steps-are-mine m log come.owners t mine a is_mine) a.2 none_left in
        leaves {A = LeafAnswer} (jamboree before.grain) before.shared t answer (come.there t stays) one.answered
    leave-taken m mine _ answer is seats none_left is_mine one = absurd cc

    -- what a maker knows after its step, and what it is told
    abbrev known_after : Known Step → Step → Answer → Known Step
    known_after k step answer = record { maker = k.maker; seen = with_taken log (k.maker, step) answer; mine = with_taken k.mine step answer }

    pub told : (step : Step) (answer : Answer) (was now : Known Step) → Answers step answer → IsPrefix was.seen log → own was.maker log ≡ was.mine → now ≡ known_after was step answer →
        IsToldOf begun was step answer now
    told step (Ok did) was now one prefix is_mine is =
        rw is (prefix.0, ap (λ l. l ++ (was.maker, step) ∷ []) (sym prefix.1), ap (λ l. own was.maker l) prefix.1 ∙ is_mine, refl, refl)
    told step (Err refusal) was now one prefix is_mine is = rw is ((prefix, is_mine, refl, refl), (one-at step (Err refusal) one).answered)

-- A step that is no Leave.
module _ (step : Step) (other : is_leave step ≡ false) where
  stay-more : (mine : List Step) → HasNoLeave mine → HasNoLeave (mine ++ step ∷ [])
  stay-more [] h = (other, tt)
  stay-more (s ∷ mine) h = (h.0, stay-more mine h.1)

  pub no-leave-taken : {X : Type 0} (mine : List Step) (answer : Result X Refusal) → HasNoLeave mine → HasNoLeave (with_taken mine step answer)
  no-leave-taken mine (Err refusal) h = h
  no-leave-taken mine (Ok value) h = stay-more mine h
