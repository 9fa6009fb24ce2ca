-- Rows of the search: windows that no child of a frame may have, for each role of a child.
use Rattle.jamboree_rules.proofs.Common.{◌≡◌, ℕ, ◌<◌, ℤ, pos, negsuc, neg_ℤ, ◌+ℤ◌, ◌≤ℤ◌, refl, arith, ints, Frame, floor, IsSettled, HasWindow}
use Rattle.jamboree_rules.specs.Frames.{role_root, role_first_child, role_test, role_again}
use Rattle.jamboree_rules.specs.Sound.{First, Test, Again}
use Rattle.jamboree_rules.proofs.rows.windows_that_are_none.Goals as goal

-- what its window says of a child of each role
as-root : (f c : Frame) → HasWindow f c → c.role ≡ role_root → ⊥
as-root f c (First role alpha beta) own = absurd (omega (arith, role, own))
as-root f c (Test role t alpha beta low high) own = absurd (omega (arith, role, own))
as-root f c (Again role alpha beta settled) own = absurd (omega (arith, role, own))

as-first : (f c : Frame) → HasWindow f c → c.role ≡ role_first_child → (c.alpha ≡ neg_ℤ f.beta) × (c.beta ≡ neg_ℤ f.alpha)
as-first f c (First role alpha beta) own = (alpha, beta)
as-first f c (Test role t alpha beta low high) own = absurd (omega (arith, role, own))
as-first f c (Again role alpha beta settled) own = absurd (omega (arith, role, own))

as-test : (f c : Frame) → HasWindow f c → c.role ≡ role_test → (t : ℤ) × (c.alpha ≡ neg_ℤ (t +ℤ pos 1)) × (c.beta ≡ neg_ℤ t) × (f.alpha ≤ℤ t) × (t ≤ℤ floor f)
as-test f c (First role alpha beta) own = absurd (omega (arith, role, own))
as-test f c (Test role t alpha beta low high) own = (t, alpha, beta, low, high)
as-test f c (Again role alpha beta settled) own = absurd (omega (arith, role, own))

as-again : (f c : Frame) → HasWindow f c → c.role ≡ role_again → (c.alpha ≡ neg_ℤ f.beta) × (c.beta ≡ neg_ℤ (floor f)) × ((i : ℕ) → i < c.number → IsSettled f i)
as-again f c (First role alpha beta) own = absurd (omega (arith, role, own))
as-again f c (Test role t alpha beta low high) own = absurd (omega (arith, role, own))
as-again f c (Again role alpha beta settled) own = (alpha, beta, settled)

pub returns : goal.returns
returns c = record {
  other_first = λ h. as-root _ _ h refl;
  first_alpha = λ h. (let e : negsuc 7 ≡ negsuc 8 = (as-first _ _ h refl).0 in omega (arith, ints, e));
  first_beta = λ h. (let e : negsuc 6 ≡ negsuc 2 = (as-first _ _ h refl).1 in omega (arith, ints, e));
  other_test = λ h. as-root _ _ h refl;
  test_below = λ h. (let w = as-test _ _ h refl in omega (arith, ints, w.1, w.2, w.3, w.4));
  test_above = λ h. (let w = as-test _ _ h refl in let most : w.0 ≤ℤ pos 7 = w.4 in omega (arith, ints, w.1, w.2, w.3, most));
  test_wide = λ h. (let w = as-test _ _ h refl in omega (arith, ints, w.1, w.2, w.3, w.4));
  test_beta = λ h. (let w = as-test _ _ h refl in omega (arith, ints, w.1, w.2, w.3, w.4));
  other_again = λ h. as-root _ _ h refl;
  again_alpha = λ h. (let e : negsuc 7 ≡ negsuc 8 = (as-again _ _ h refl).0 in omega (arith, ints, e));
  again_beta = λ h. (let e : negsuc 2 ≡ negsuc 6 = (as-again _ _ h refl).1 in omega (arith, ints, e));
  again_below_alpha = λ h. (let e : negsuc 2 ≡ negsuc 6 = (as-again _ _ h refl).1 in omega (arith, ints, e));
  again_early = λ h. (let e : 0 ≡ 2 = (as-again _ _ h refl).2 0 (omega arith) in omega (arith, e));
}
