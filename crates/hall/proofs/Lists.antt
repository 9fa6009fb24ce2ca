-- The hall's journals by their tenants' numbers: one more step in one of them, one journal fewer, one more.
use Rattle.hall.proofs.Common.{◌≡◌, ◌≢◌, ℕ, ◌+◌, ◌<◌, ◌≤◌, true, List, [], ◌∷◌, ◌++◌, Option, Some, None, length, refl, sym, ◌∙◌, arith, length-append, ◌*◌, false≢true, ne_eqb, eq-eqb, StepOf, LeafAnswer, ReserveOf, IsWithinLimits, find_by_number, inserted, nat_tests, all-map, all-of, all-push, all-with, thing-there, thing-with, said-found, said-with-own, reserve_in, raise_in, newer, reserved_after, reserved_in, one_for, raise_count, places_with, longs_for, longs_with, longs_in, longer, is_appended, JournalOf, journal_in, places_in, owner_of_journal, has_journal, with_step, without_journal, total_length, AreUpTo, IsBegun, AreBegun}

abbrev Js : Type 0
Js = List JournalOf

abbrev Step : Type 0
Step = StepOf LeafAnswer

-- the journal with one more step, in the same places
abbrev pub further : Step → JournalOf → JournalOf
further step journal = record journal { steps = journal.steps ++ step ∷ [] }

-- where the step raises nothing
pub further-longer : (step : Step) (j : JournalOf) → raise_in step ≡ None → further step j ≡ longer step j
further-longer step j none = grind arith

-- what is reserved after one more step, and how many raises there are
pub reserved-more : {A : Type 0} (now : ReserveOf) (steps : List (StepOf A)) (step : StepOf A) → reserved_after now (steps ++ step ∷ []) ≡ newer (reserved_after now steps) (reserve_in step)
reserved-more now [] step = refl
reserved-more now (s ∷ steps) step = reserved-more (newer now (reserve_in s)) steps step

pub raise-more : {A : Type 0} (steps : List (StepOf A)) (step : StepOf A) → raise_count (steps ++ step ∷ []) ≡ raise_count steps + one_for (raise_in step)
raise-more [] step = omega arith
raise-more (s ∷ steps) step = grind (arith, raise-more steps step)

-- a raise is within the limits
abbrev pub IsAllowed : Option ReserveOf → Type 0
IsAllowed None = Unit {0}
IsAllowed (Some quota) = IsWithinLimits quota

-- and brings a segment or a node
abbrev pub Brings : Option ReserveOf → ReserveOf → Type 0
Brings None now = Unit {0}
Brings (Some quota) now = now.segments + now.nodes + 1 ≤ quota.segments + quota.nodes

abbrev pub steps_of : JournalOf → List Step
steps_of journal = journal.steps

-- one more step
module _ (n : ℕ) (step : Step) where
  pub step-own : (js : Js) → has_journal n js ≡ true → journal_in (with_step n step js) n ≡ journal_in js n ++ step ∷ []
  step-own js has = said-with-own owner_of_journal steps_of [] (λ steps. steps ++ step ∷ []) n (longer step) js (λ j own. own) (λ j. refl) (λ lacks. absurd (false≢true (sym lacks ∙ has)))

  pub step-total : (js : Js) → has_journal n js ≡ true → total_length (with_step n step js) ≡ total_length js + 1
  step-total [] has = absurd (false≢true has)
  step-total (j ∷ js) has = grind (arith, step-total js, length-append)

-- what a step raises is what is reserved after it
pub raised-after : (step : Step) (steps : List Step) → is_appended step ≡ true → reserved_in (steps ++ step ∷ []) ≡ newer (reserved_in steps) (raise_in step)
raised-after step steps goes = grind (arith, reserved-more, false≢true)

pub counted-after : (step : Step) (steps : List Step) (r : Option ReserveOf) → raise_in step ≡ r → raise_count (steps ++ step ∷ []) ≡ raise_count steps + one_for r
counted-after step steps r is = grind (arith, raise-more)

module _ (step : Step) (j : JournalOf) (goes : is_appended step ≡ true) where
  pub longer-longs : j.longs ≡ longs_for (reserved_in j.steps) + raise_count j.steps → longs_with (raise_in step) j ≡ longs_for (reserved_in (j.steps ++ step ∷ [])) + raise_count (j.steps ++ step ∷ [])
  longer-longs longs = grind (arith, raised-after, raise-more)

-- a journal that has a place for one more
longer-begun : (step : Step) (j : JournalOf) → is_appended step ≡ true → IsAllowed (raise_in step) → Brings (raise_in step) (reserved_in j.steps) → length j.steps < places_with (raise_in step) j →
    IsBegun j → IsBegun (longer step j)
longer-begun step j goes allowed brings place is = grind (arith, raised-after, longer-longs, raise-more, length-append)

-- a journal by its number
pub record IsAt (n : ℕ) (js : Js) : Type 0 where
  pub journal : JournalOf
  pub steps : journal_in js n ≡ journal.steps
  pub places : places_in js n ≡ journal.places
  pub longs : longs_in js n ≡ journal.longs
  pub after : (step : Step) → places_in (with_step n step js) n ≡ places_with (raise_in step) journal
  pub long_after : (step : Step) → longs_in (with_step n step js) n ≡ longs_with (raise_in step) journal
  pub begun : IsBegun journal

found : (n : ℕ) (js : Js) (j : JournalOf) → find_by_number owner_of_journal n js ≡ Some j → AreBegun js → IsAt n js
found n js j is begun =
    let after = λ (step : Step). thing-with owner_of_journal n (longer step) js j (λ i own. own) is in grind (arith, said-found, longer, all-of)

pub found-at : (n : ℕ) (js : Js) → has_journal n js ≡ true → AreBegun js → IsAt n js
found-at n js has begun = grind (arith, thing-there, found)

pub step-begun : (n : ℕ) (step : Step) (js : Js) → is_appended step ≡ true → IsAllowed (raise_in step) → Brings (raise_in step) (reserved_in (journal_in js n)) →
    length (journal_in js n) < places_in (with_step n step js) n → AreBegun js → AreBegun (with_step n step js)
unfolding found
step-begun n step js goes allowed brings place begun = all-with IsBegun owner_of_journal n (longer step) js begun (λ j is there.
    let at = found n js j there begun in
    longer-begun step j goes allowed (rw at.steps at brings) (rw (at.steps, at.after step) at place) is)

-- one fewer
pub without-total : (n : ℕ) (js : Js) → total_length (without_journal n js) + length (journal_in js n) ≡ total_length js
without-total n [] = omega arith
without-total n (j ∷ js) = grind (arith, without-total n js)

-- one more
module _ (j : JournalOf) where
  pub push-other : (n : ℕ) (js : Js) → j.tenant ≢ n → journal_in (js ++ j ∷ []) n ≡ journal_in js n
  push-other n [] ne = rw (ne_eqb j.tenant n ne) refl
  push-other n (i ∷ js) ne = grind (arith, push-other n js ne)

  pub push-total : (js : Js) → total_length (js ++ j ∷ []) ≡ total_length js + length j.steps
  push-total [] = omega arith
  push-total (i ∷ js) = grind (arith, push-total js)

-- of a tenant above all others
module _ (m : ℕ) (j : JournalOf) (above : m < j.tenant) where
  pub push-own : (js : Js) → AreUpTo m js → journal_in (js ++ j ∷ []) j.tenant ≡ j.steps
  push-own [] upto = rw (eq-eqb j.tenant j.tenant refl) refl
  push-own (i ∷ js) upto = grind (arith, push-own js upto.1, ne_eqb)

  pub push-inserted : (js : Js) → AreUpTo m js → inserted owner_of_journal j js ≡ js ++ j ∷ []
  push-inserted [] upto = refl
  push-inserted (i ∷ js) upto = grind (arith, push-inserted js upto.1, nat_tests)

  pub push-upto : (js : Js) → AreUpTo m js → AreUpTo j.tenant (js ++ j ∷ [])
  push-upto js upto = grind (arith, all-push, all-map)

-- no journal is longer than its places, of which there are at most 1,118,978
pub total-within : (js : Js) → AreBegun js → total_length js ≤ length js * 1118978
total-within [] begun = omega arith
total-within (j ∷ js) begun = grind (arith, total-within js begun.1)
