-- Each session that is open by its maker's own events has its grant in the book, after each event.
use Rattle.site_desk.proofs.Common.{◌≡◌, ◌⊎◌, ℕ, ◌==◌, ◌&&◌, ◌||◌, inl, inr, true, false, cases_Bool, false≢true, List, [], ◌∷◌, ◌++◌, None, is_some, refl, ap, sym, ◌∙◌, subst, arith, nat_tests, and_parts, eqb-true, eq-eqb, ReserveOf, Grant, Who, same_who, is_held_as, grant_of, grants_raised, grants_without, BookOf, BookEvent, Opens, Raises, Closes, Replans, taken, PlanOf, AreHeld, are_raisings, is_open_by, is_opening, is_raising}
use Rattle.desk.specs.Traces.{own}

abbrev History : Type 0
History = List (ℕ × BookEvent)

-- who is the same as whom

same-is : (a b : Who) → same_who a b ≡ true → a ≡ b
same-is a b same = grind arith

is-same : (a : Who) → same_who a a ≡ true
is-same a = grind arith

-- a session is its own
own-name : (who : Who) (n : ℕ) → (same_who who who && (n == n)) ≡ true
own-name who n = λ i. is-same who i && eq-eqb n n refl i

-- own events

raisings-more : (who : Who) (n : ℕ) (events : List BookEvent) (event : BookEvent) → are_raisings who n (events ++ event ∷ []) ≡ (are_raisings who n events && is_raising who n event)
raisings-more who n [] event = grind arith
raisings-more who n (e ∷ events) event = grind (arith, raisings-more who n events event)

pub open-first : (who : Who) (n : ℕ) (ask : ReserveOf) → is_open_by who n (Opens who n ask ∷ []) ≡ true
open-first who n ask = λ i. own-name who n i && true

pub open-raised : (who : Who) (n : ℕ) (ask : ReserveOf) (mine : List BookEvent) → is_open_by who n mine ≡ true → is_open_by who n (mine ++ Raises who n ask ∷ []) ≡ true
open-raised who n ask [] is = absurd (false≢true is)
open-raised who n ask (e ∷ mine) is =
    let parts = and_parts (is_opening who n e) (are_raisings who n mine) is in
    let more : are_raisings who n (mine ++ Raises who n ask ∷ []) ≡ true = raisings-more who n mine (Raises who n ask) ∙ (λ i. parts.1 i && own-name who n i) in
    λ i. parts.0 i && more i

-- a session that is open by these events and one more was opened by that, or was open and is raised by it
abbrev IsLast : Who → ℕ → List BookEvent → BookEvent → Type 0
IsLast who n mine event = (is_opening who n event ≡ true) ⊎ ((is_open_by who n mine ≡ true) × (is_raising who n event ≡ true))

last-of : (who : Who) (n : ℕ) (mine : List BookEvent) (event : BookEvent) → is_open_by who n (mine ++ event ∷ []) ≡ true → IsLast who n mine event
last-of who n [] event is = inl (and_parts (is_opening who n event) true is).0
last-of who n (e ∷ mine) event is =
    let parts = and_parts (is_opening who n e) (are_raisings who n (mine ++ event ∷ [])) is in
    let later = and_parts (are_raisings who n mine) (is_raising who n event) (sym (raisings-more who n mine event) ∙ parts.1) in
    inr ((λ i. parts.0 i && later.0 i), later.1)

module _ (m : ℕ) (event : BookEvent) where
  own-here : (log : History) → own m (log ++ (m, event) ∷ []) ≡ own m log ++ event ∷ []
  own-here [] = grind (arith, nat_tests)
  own-here (e ∷ log) = grind (arith, own-here log)

  own-other : (x : ℕ) (log : History) → (m == x) ≡ false → own x (log ++ (m, event) ∷ []) ≡ own x log
  own-other x [] other = grind (arith, nat_tests)
  own-other x (e ∷ log) other = grind (arith, own-other x log other)

-- grants

there-push : (who : Who) (n : ℕ) (gs : List Grant) (g : Grant) → is_some (grant_of who n (gs ++ g ∷ [])) ≡ (is_some (grant_of who n gs) || is_held_as who n g)
there-push who n [] g = grind arith
there-push who n (h ∷ gs) g = grind (arith, there-push who n gs g)

module _ (who : Who) (n : ℕ) where
  there-raised : (ask : ReserveOf) (other : Who) (k : ℕ) (gs : List Grant) → is_some (grant_of other k (grants_raised who n ask gs)) ≡ is_some (grant_of other k gs)
  there-raised ask other k [] = refl
  there-raised ask other k (g ∷ gs) = grind (arith, there-raised ask other k gs)

  -- a grant of this session isn't another's
  not-both : (other : Who) (k : ℕ) (g : Grant) → (same_who other who && (k == n)) ≡ false → is_held_as who n g ≡ true → is_held_as other k g ≡ false
  not-both other k g apart aye = elim (cases_Bool (is_held_as other k g)) [
    | inl both ↦ (let a = and_parts (same_who who g.who) (n == g.session) aye in let b = and_parts (same_who other g.who) (k == g.session) both in
        let one : other ≡ who = same-is other g.who b.0 ∙ sym (same-is who g.who a.0) in
        let number : k ≡ n = eqb-true k g.session b.1 ∙ sym (eqb-true n g.session a.1) in
        absurd (false≢true (sym apart ∙ (λ i. same_who (one i) who && (number i == n)) ∙ own-name who n)))
    | inr nay ↦ nay
  ]

  there-without : (other : Who) (k : ℕ) (gs : List Grant) → (same_who other who && (k == n)) ≡ false → is_some (grant_of other k gs) ≡ true → is_some (grant_of other k (grants_without who n gs)) ≡ true
  there-without other k [] apart is = is
  there-without other k (g ∷ gs) apart is = elim (cases_Bool (is_held_as who n g)) [
    | inl aye ↦ rw aye (rw (not-both other k g apart aye) at is)
    | inr nay ↦ elim (cases_Bool (is_held_as other k g)) [
      | inl both ↦ rw (nay, both) refl
      | inr other_one ↦ rw (nay, other_one) (there-without other k gs apart (rw other_one at is))
    ]
  ]

-- who opens nothing holds nothing
pub none_held : (log : History) (book : BookOf) → log ≡ [] → AreHeld log book
none_held log book none = subst (λ l. AreHeld l book) (sym none) (record {
  there = λ maker who n is. absurd (false≢true is);
  one = λ maker other who n is same. absurd (false≢true is);
})

-- one event more, by this maker
module _ (log : History) (book after : BookOf) (m : ℕ) (held : AreHeld log book) where
  -- who holds a session then held it before, and if it is this maker raises it by this; or it is this maker, who opens it by this
  abbrev Holds : BookEvent → ℕ → Who → ℕ → Type 0
  Holds event x who n =
      ((is_open_by who n (own x log) ≡ true) × (x ≡ m → is_raising who n event ≡ true)) ⊎ ((x ≡ m) × (is_opening who n event ≡ true))

  holds : (event : BookEvent) (x : ℕ) (who : Who) (n : ℕ) → is_open_by who n (own x (log ++ (m, event) ∷ [])) ≡ true → Holds event x who n
  holds event x who n is = elim (cases_Bool (m == x)) [
    | inl same ↦ (let here = eqb-true m x same in
        let last = last-of who n (own x log) event (subst (λ l. is_open_by who n l ≡ true) (subst (λ y. own y (log ++ (m, event) ∷ []) ≡ own y log ++ event ∷ []) here (own-here m event log)) is) in
        elim last as (λ _. Holds event x who n) [ inl new ↦ inr (sym here, new) | inr old ↦ inl (old.0, λ _. old.1) ])
    | inr apart ↦ inl (subst (λ l. is_open_by who n l ≡ true) (own-other m event x log apart) is, λ e. absurd (false≢true (sym apart ∙ eq-eqb m x (sym e))))
  ]

  pub held-open : (who : Who) (n : ℕ) (ask : ReserveOf) → grant_of who n book.grants ≡ None → after ≡ taken book (Opens who n ask) → AreHeld (log ++ (m, Opens who n ask) ∷ []) after
  held-open who n ask fresh went = record {
    there = λ x w k is. subst (λ (b : BookOf). is_some (grant_of w k b.grants) ≡ true) (sym went) (there-push w k book.grants new ∙ still x w k (holds event x w k is));
    one = λ x y w k is same. alone x y w k (holds event x w k is) (holds event y w k same);
  }
    where
      event : BookEvent
      event = Opens who n ask

      new : Grant
      new = record { who = who; session = n; ask = ask }

      still : (x : ℕ) (w : Who) (k : ℕ) → Holds event x w k → (is_some (grant_of w k book.grants) || is_held_as w k new) ≡ true
      still x w k (inl old) = λ i. held.there x w k old.0 i || is_held_as w k new
      still x w k (inr opened) = (let here : is_held_as w k new ≡ true = opened.1 in grind (arith, here))

      -- nobody held it before
      nobody : (x : ℕ) (w : Who) (k : ℕ) → is_open_by w k (own x log) ≡ true → is_opening w k event ≡ true → ⊥
      nobody x w k old opened =
          let parts = and_parts (same_who w who) (k == n) opened in
          let there : is_some (grant_of who n book.grants) ≡ true = subst (λ (z : Who × ℕ). is_some (grant_of z.0 z.1 book.grants) ≡ true) (λ i. (same-is w who parts.0 i, eqb-true k n parts.1 i)) (held.there x w k old) in
          false≢true (sym (ap is_some fresh) ∙ there)

      alone : (x y : ℕ) (w : Who) (k : ℕ) → Holds event x w k → Holds event y w k → x ≡ y
      alone x y w k (inl old) (inl other) = held.one x y w k old.0 other.0
      alone x y w k (inl old) (inr opened) = absurd (nobody x w k old.0 opened.1)
      alone x y w k (inr opened) (inl old) = absurd (nobody y w k old.0 opened.1)
      alone x y w k (inr one) (inr other) = one.0 ∙ sym other.0

  -- an event that opens nothing
  none-more : (event : BookEvent) (x : ℕ) (who : Who) (n : ℕ) → is_opening who n event ≡ false → Holds event x who n → (is_open_by who n (own x log) ≡ true) × (x ≡ m → is_raising who n event ≡ true)
  none-more event x who n none (inl old) = old
  none-more event x who n none (inr opened) = absurd (false≢true (sym none ∙ opened.1))

  pub held-raise : (who : Who) (n : ℕ) (ask : ReserveOf) → after ≡ taken book (Raises who n ask) → AreHeld (log ++ (m, Raises who n ask) ∷ []) after
  held-raise who n ask went =
      let old : (x : ℕ) (w : Who) (k : ℕ) → is_open_by w k (own x (log ++ (m, Raises who n ask) ∷ [])) ≡ true → is_open_by w k (own x log) ≡ true = λ x w k is. (none-more (Raises who n ask) x w k refl (holds (Raises who n ask) x w k is)).0 in
      record {
        there = λ x w k is. subst (λ (b : BookOf). is_some (grant_of w k b.grants) ≡ true) (sym went) (there-raised who n ask w k book.grants ∙ held.there x w k (old x w k is));
        one = λ x y w k is same. held.one x y w k (old x w k is) (old y w k same);
      }

  pub held-replan : (plan : PlanOf) → after ≡ taken book (Replans plan) → AreHeld (log ++ (m, Replans plan) ∷ []) after
  held-replan plan went =
      let old : (x : ℕ) (w : Who) (k : ℕ) → is_open_by w k (own x (log ++ (m, Replans plan) ∷ [])) ≡ true → is_open_by w k (own x log) ≡ true = λ x w k is. (none-more (Replans plan) x w k refl (holds (Replans plan) x w k is)).0 in
      record {
        there = λ x w k is. subst (λ (b : BookOf). is_some (grant_of w k b.grants) ≡ true) (sym went) (held.there x w k (old x w k is));
        one = λ x y w k is same. held.one x y w k (old x w k is) (old y w k same);
      }

  -- the maker that opened a session closes it
  pub held-close : (who : Who) (n : ℕ) → is_open_by who n (own m log) ≡ true → after ≡ taken book (Closes who n) → AreHeld (log ++ (m, Closes who n) ∷ []) after
  held-close who n mine went = record {
    there = λ x w k is. subst (λ (b : BookOf). is_some (grant_of w k b.grants) ≡ true) (sym went) (there-without who n w k book.grants (apart x w k is) (held.there x w k (old x w k is).0));
    one = λ x y w k is same. held.one x y w k (old x w k is).0 (old y w k same).0;
  }
    where
      event : BookEvent
      event = Closes who n

      old : (x : ℕ) (w : Who) (k : ℕ) → is_open_by w k (own x (log ++ (m, event) ∷ [])) ≡ true → (is_open_by w k (own x log) ≡ true) × (x ≡ m → is_raising w k event ≡ true)
      old x w k is = none-more event x w k refl (holds event x w k is)

      -- no other maker holds it
      apart : (x : ℕ) (w : Who) (k : ℕ) → is_open_by w k (own x (log ++ (m, event) ∷ [])) ≡ true → (same_who w who && (k == n)) ≡ false
      apart x w k is = elim (cases_Bool (same_who w who && (k == n))) [
        | inl aye ↦ (let parts = and_parts (same_who w who) (k == n) aye in
            let here = subst (λ (z : Who × ℕ). is_open_by z.0 z.1 (own x log) ≡ true) (λ i. (same-is w who parts.0 i, eqb-true k n parts.1 i)) (old x w k is).0 in
            absurd (false≢true ((old x w k is).1 (held.one x m who n here mine))))
        | inr nay ↦ nay
      ]
