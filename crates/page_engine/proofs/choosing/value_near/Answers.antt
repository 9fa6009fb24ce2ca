-- The page's value of a board (`choosing::value_near`): where the first search gives a bound, the second, on that
-- side, gives the value.
use Rattle.std.proofs.Common.{◌≡◌, ℤ, pos, negsuc, ◌+ℤ◌, ◌≤ℤ◌, ◌<ℤ◌, to_z, of_z, w32, arith}
use Rattle.std.proofs.lemmas.Int.{by_lt_z, ints}
use Rattle.page_engine.specs.leaf_search.othello_eval.Values.{IsWithin}
use Rattle.leaf_search.specs.Bounds.{IsBound}
use Rattle.page_engine.proofs.choosing.value_near.Goals as goal

-- where the first score is an upper or a lower bound, a search of that side finds the value
module _ {alpha beta first low high score value : ℤ} (one : IsBound alpha beta first value) (two : IsBound low high score value) (within : IsWithin 128000 score) where
  found-below : first ≤ℤ alpha → low <ℤ negsuc 127999 → high ≡ first +ℤ pos 1 → value ≡ score
  found-below under least most =
      let upper : value ≤ℤ first = one.upper under in
      by_lt_z score high (λ inside. two.exact (omega (arith, ints, within.0)) inside)
      (λ over. let lower : score ≤ℤ value = two.lower over in absurd (omega (arith, ints)))

  found-above : beta ≤ℤ first → pos 128000 <ℤ high → first ≡ low +ℤ pos 1 → value ≡ score
  found-above over most least =
      let lower : first ≤ℤ value = one.lower over in
      by_lt_z low score (λ inside. two.exact inside (omega (arith, ints, within.1)))
      (λ under. let upper : value ≤ℤ score = two.upper under in absurd (omega (arith, ints)))

as-bits : (score value : ℤ) → IsWithin 128000 score → value ≡ score → to_z w32 (of_z w32 score) ≡ value
as-bits score value within same = omega (arith, ints)

pub returns-then-found-guess-clause-value : goal.returns-then-found-guess-clause-value
returns-then-found-guess-clause-value c =
    let one = c.search_ordered-found.ensures in
    let two = c.search_ordered.ensures in
    as-bits c.search_ordered.result.score _ two.within
    (found-below one.bound two.bound two.within (omega (arith, ints, c.requires.near.0, c.requires.near.1)) (omega (arith, ints)) (omega (arith, ints, one.within.0, one.within.1)))

pub returns-then-found-guess-2-clause-value : goal.returns-then-found-guess-2-clause-value
returns-then-found-guess-2-clause-value c =
    let one = c.search_ordered-found.ensures in
    let two = c.search_ordered-then-found-guess-2.ensures in
    as-bits c.search_ordered-then-found-guess-2.result.score _ two.within
    (found-above one.bound two.bound two.within (omega (arith, ints, c.requires.near.0, c.requires.near.1)) (omega (arith, ints)) (omega (arith, ints, one.within.0, one.within.1)))
