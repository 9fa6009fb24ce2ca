-- The steps that the entries of a tenant's journal stand for: how many they are, and one more.
use Rattle.hall.proofs.Common.{◌≡◌, ℕ, ◌+◌, ◌<◌, false, List, [], ◌∷◌, ◌++◌, length, refl, arith, append-nil, if◌then◌else◌, false≢true, StepOf, LeafAnswer, JournalEntry, Long, LongEntry, is_long, long_steps, short_steps, long_step, steps_in, long_count, JournalOf, longer, places_with, longs_with, raise_count, raise_in}
use Rattle.hall.proofs.Lists.{further}

abbrev Step : Type 0
Step = StepOf LeafAnswer

-- a short entry stands for one step
short-one : (n : ℕ) (e : JournalEntry) → is_long e ≡ false → length (short_steps n e) ≡ 1
short-one n e short = grind (arith, false≢true)

-- one entry more
pub long_count-more : (e : JournalEntry) (es : List JournalEntry) → long_count (es ++ e ∷ []) ≡ long_count es + (if is_long e then 1 else 0)
long_count-more e [] = omega arith
long_count-more e (f ∷ es) = grind (arith, long_count-more e es)

-- as many steps as entries
pub steps_in-length : (n : ℕ) (es : List JournalEntry) (ls : List LongEntry) → long_count es ≡ length ls → length (steps_in n es ls) ≡ length es
steps_in-length n [] ls count = refl
steps_in-length n (e ∷ es) [] count = grind (arith, steps_in-length n es, short-one)
steps_in-length n (e ∷ es) (l ∷ ls) count = grind (arith, steps_in-length n es ls, steps_in-length n es (l ∷ ls), short-one)

-- as many long steps as long entries
long_steps-append : (js ks : List Step) → long_steps (js ++ ks) ≡ long_steps js + long_steps ks
long_steps-append [] ks = omega arith
long_steps-append (j ∷ js) ks = grind (arith, long_steps-append js ks)

short-none : (n : ℕ) (e : JournalEntry) → is_long e ≡ false → long_steps (short_steps n e) ≡ 0
short-none n e short = grind (arith, false≢true)

long-one : (n : ℕ) (l : LongEntry) → long_steps (long_step n l ∷ []) ≡ 1
long-one n l = grind arith

pub steps_in-longs : (n : ℕ) (es : List JournalEntry) (ls : List LongEntry) → long_count es ≡ length ls → long_steps (steps_in n es ls) ≡ length ls
steps_in-longs n [] ls count = grind arith
steps_in-longs n (e ∷ es) [] count = grind (arith, steps_in-longs n es, short-none, long_steps-append)
steps_in-longs n (e ∷ es) (l ∷ ls) count = grind (arith, steps_in-longs n es ls, steps_in-longs n es (l ∷ ls), long-one, short-none, long_steps-append)

-- one short entry more
pub steps_in-short : (n : ℕ) (e : JournalEntry) (es : List JournalEntry) (ls : List LongEntry) → is_long e ≡ false → steps_in n (es ++ e ∷ []) ls ≡ steps_in n es ls ++ short_steps n e
steps_in-short n e [] ls short = rw short (append-nil (short_steps n e))
steps_in-short n e (f ∷ es) ls short = grind (arith, steps_in-short n e es, steps_in-short n e es ls short)

-- one long entry more
pub steps_in-long : (n : ℕ) (l : LongEntry) (es : List JournalEntry) (ls : List LongEntry) → long_count es ≡ length ls →
    steps_in n (es ++ Long ∷ []) (ls ++ l ∷ []) ≡ steps_in n es ls ++ long_step n l ∷ []
steps_in-long n l [] [] count = refl
steps_in-long n l [] (k ∷ ls) count = absurd (omega (arith, count))
steps_in-long n l (f ∷ es) [] count = grind (arith, steps_in-long n l es)
steps_in-long n l (f ∷ es) (k ∷ ls) count = grind (arith, steps_in-long n l es ls, steps_in-long n l es (k ∷ ls))

-- what a journal with these entries is seen as
abbrev pub seen : (n places longs : ℕ) → List JournalEntry → List LongEntry → JournalOf
seen n places longs es ls = record { tenant = n; places = places; longs = longs; steps = steps_in n es ls }

-- how many entries and long entries a journal has, and how many raises
pub record AreAsMany (many few raised : ℕ) (j : JournalOf) : Type 0 where
  pub steps : length j.steps ≡ many
  pub longs : long_steps j.steps ≡ few
  pub raises : raise_count j.steps ≡ raised

module _ {n p q : ℕ} (es : List JournalEntry) (ls : List LongEntry) {j : JournalOf} (is : seen n p q es ls ≡ j) where
  -- a step is written as a short entry
  pub written-short : (e : JournalEntry) (new : List JournalEntry) (step : Step) → new ≡ es ++ e ∷ [] → is_long e ≡ false → short_steps j.tenant e ≡ step ∷ [] → seen n p q new ls ≡ further step j
  written-short e new step pushed short one = grind (arith, steps_in-short, further)

  module _ (count : long_count es ≡ length ls) where
    pub counts : (raises : ℕ) → raises ≡ raise_count (steps_in n es ls) → AreAsMany (length es) (length ls) raises j
    counts raises raised = grind (arith, steps_in-length, steps_in-longs)

    -- where a place is left for a step, there is room for an entry; and for a long one, where one is left for that
    pub has-room : length j.steps < j.places → length es < p
    has-room place = grind (arith, steps_in-length)

    pub has-long-room : long_steps j.steps < j.longs → length ls < q
    has-long-room place = grind (arith, steps_in-longs)

    module _ (new : List JournalEntry) (l : LongEntry) (more : List LongEntry) (step : Step) (pushed : new ≡ es ++ Long ∷ []) (added : more ≡ ls ++ l ∷ [])
        (one : long_step j.tenant l ≡ step) where
      -- a step is written as a long one
      pub written-long : seen n p q new more ≡ further step j
      written-long = grind (arith, steps_in-long, further)

      -- a step that raises what is reserved is written as a long one, in the places that it makes
      pub written-raise : (r s : ℕ) → r ≡ places_with (raise_in step) j → s ≡ longs_with (raise_in step) j → seen n r s new more ≡ longer step j
      written-raise r s places longs = grind (arith, written-long)
