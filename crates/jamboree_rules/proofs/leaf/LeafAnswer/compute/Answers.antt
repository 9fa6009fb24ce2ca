-- A search's leaf is computed (`LeafAnswer::compute`): the score and the choice that the serial search finds are a
-- right answer to the leaf.
use Rattle.jamboree_rules.proofs.Common.{to_z, of_z, w32, arith, ints, Choice, IsWithin, IsBound}
use Rattle.std.proofs.Common.{◌≡◌, ◌<ℤ◌, ◌≤ℤ◌, pos, negsuc, ℤ, Option}
use Rattle.jamboree_rules.proofs.leaf.LeafAnswer.compute.Goals as goal

as-wide : (s : ℤ) → negsuc 199999 ≤ℤ s → s ≤ℤ pos 200000 → to_z w32 (of_z w32 s) ≡ s
as-wide s low high = omega (arith, ints)

moved : (a a' z z' s s' m : ℤ) → a' ≡ a → z' ≡ z → s' ≡ s → IsBound a' z' s m → IsBound a z s' m
moved a a' z z' s s' m ea ez es h = rw (← ea, ← ez, es) h

moved-choice : (a a' z z' s s' : ℤ) (c d : Option Choice) → a' ≡ a → z' ≡ z → s' ≡ s → (a' <ℤ s → s <ℤ z' → c ≡ d) → (a <ℤ s' → s' <ℤ z → c ≡ d)
moved-choice a a' z z' s s' c d ea ez es h = rw (← ea, ← ez, es) h

pub invariant_of-result : goal.invariant_of-result
invariant_of-result c =
    let found = c.search_ordered-found in
    let leaf = c.args.leaf in
    let within : IsWithin 128000 found.result.score = found.ensures.within in
    let same : to_z w32 (of_z w32 found.result.score) ≡ found.result.score = as-wide found.result.score (omega (arith, ints)) (omega (arith, ints)) in
    let alpha : to_z w32 (of_z w32 leaf.alpha) ≡ leaf.alpha = as-wide leaf.alpha leaf.least (omega (arith, ints)) in
    let beta : to_z w32 (of_z w32 leaf.beta) ≡ leaf.beta = as-wide leaf.beta (omega (arith, ints)) leaf.greatest in
    record {
      bound = moved _ _ _ _ _ _ _ alpha beta same found.ensures.bound;
      best = ∣ moved-choice _ _ _ _ _ _ _ _ alpha beta same found.ensures.choice ∣₁;
      chosen = ∣ found.ensures.chosen ∣₁;
      low = rw same (omega (arith, ints));
      high = rw same (omega (arith, ints));
    }
