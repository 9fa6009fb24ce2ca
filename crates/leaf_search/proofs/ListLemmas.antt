-- For the ordered serial search: the list of the choices of a board, made one choice after another.
use Rattle.leaf_search.proofs.Common.{append_assoc, ◌≡◌, ◌<◌, ◌≤◌, ◌+◌, ℕ, suc, length, List, [], ◌∷◌, ◌++◌, map, refl, sym, ◌∙◌, ap, ap₂, subst, arith, Contains, Contains-append_right, length-append, length-map, map-append, choices, Choice, Cell, Ranked, numbered, numbered_choice, IsPermutation, IsPermutation-map, length_permutation, take, drop, refill, take-append_seam, drop-cons, get_or, length-drop, eqb, Bool, false, pos, Square}
use Rattle.leaf_search.proofs.RankingLemmas.{length-numbered, numbered-push}

-- the items are the choices taken so far, numbered
pub record IsListed (board : List Cell) (items : List Ranked) (left : List Choice) : Type 0 where
  pub taken : List Choice
  pub split : taken ++ left ≡ choices board
  pub numbers : map numbered_choice items ≡ numbered 0 taken

module _ {board : List Cell} {items : List Ranked} {left : List Choice} (s : IsListed board items left) where
  as-many : length items ≡ length s.taken
  as-many = sym (length-map items numbered_choice) ∙ ap length s.numbers ∙ length-numbered 0 s.taken

  module _ {c : Choice} {rest : List Choice} (next : left ≡ c ∷ rest) where
    split-next : s.taken ++ c ∷ rest ≡ choices board
    split-next = ap (λ l. s.taken ++ l) (sym next) ∙ s.split

    pub IsListed-next : Contains (choices board) c
    IsListed-next = subst (λ cs. Contains cs c) split-next (Contains-append_right s.taken (c ∷ rest) c (0, omega arith, refl))

    -- there is room, as a board has few choices
    pub IsListed-room : length (choices board) ≤ 56 → length items < 56
    IsListed-room few = omega (arith, as-many, ap length split-next, length-append s.taken (c ∷ rest), few)

    pub IsListed-turn : (r : Ranked) → r.choice ≡ c → r.place ≡ length items → IsListed board (items ++ r ∷ []) rest
    IsListed-turn r choice place = record {
      taken = s.taken ++ c ∷ [];
      split = append_assoc s.taken (c ∷ []) rest ∙ split-next;
      numbers = map-append numbered_choice items (r ∷ []) ∙ ap₂ (λ a b. a ++ b ∷ []) s.numbers (ap₂ (λ (k : ℕ) (d : Choice). (k, d)) (place ∙ as-many) choice)
          ∙ sym (numbered-push 0 s.taken c ∙ ap (λ n. numbered 0 s.taken ++ (n, c) ∷ []) (omega arith));
    }

-- after the list was sorted in place
module _ (board : List Cell) (items old sorted : List Ranked) (is : old ≡ items) (perm : IsPermutation old sorted) where
  refill-all : refill (length items) items sorted ≡ sorted
  refill-all =
      ap (λ n. take n (sorted ++ drop (length sorted) items)) (sym (length_permutation old sorted perm ∙ ap length is)) ∙ take-append_seam sorted (drop (length sorted) items)

  pub sorted-rearranged : map numbered_choice items ≡ numbered 0 (choices board) → IsPermutation (numbered 0 (choices board)) (map numbered_choice (refill (length items) items sorted))
  sorted-rearranged numbers =
      subst (λ l. IsPermutation (numbered 0 (choices board)) (map numbered_choice l)) (sym refill-all)
      (subst (λ ts. IsPermutation ts (map numbered_choice sorted)) (ap (map numbered_choice) is ∙ numbers) (IsPermutation-map numbered_choice old sorted perm))

-- the ranked choice at an index, as the code reads it
abbrev pub ranked_at : List Ranked → ℕ → Ranked
ranked_at all i = get_or all i (record { key = pos 0; choice = Square 0; place = 0 })

-- the ranked choices of a board, as a slice
module _ (board : List Cell) {items : List Ranked} (all : List Ranked) (same : all ≡ items) where
  pub ranked-all : IsPermutation (numbered 0 (choices board)) (map numbered_choice items) → IsPermutation (numbered 0 (choices board)) (map numbered_choice all)
  ranked-all perm = subst (λ l. IsPermutation (numbered 0 (choices board)) (map numbered_choice l)) (sym same) perm

  pub ranked-many : IsPermutation (numbered 0 (choices board)) (map numbered_choice items) → length (choices board) ≡ length all
  ranked-many perm =
      sym (length-numbered 0 (choices board)) ∙ sym (length_permutation (numbered 0 (choices board)) (map numbered_choice all) (ranked-all perm)) ∙ length-map all numbered_choice

  -- the one at this index
  pub ranked-next : (i : ℕ) → i < length all → map numbered_choice (drop i all) ≡ ((ranked_at all i).place, (ranked_at all i).choice) ∷ map numbered_choice (drop (i + 1) all)
  ranked-next i here =
      let up : suc i ≡ i + 1 = omega arith in
      ap (map numbered_choice) (drop-cons all i (record { key = pos 0; choice = Square 0; place = 0 }) here ∙ ap (λ n. ranked_at all i ∷ drop n all) up)

pub none-from-length : {X : Type 0} (xs : List X) → length xs ≡ 0 → xs ≡ []
none-from-length [] none = refl
none-from-length (x ∷ xs) none = absurd (omega arith)

pub ranked-end : (all : List Ranked) (i : ℕ) → length all ≤ i → map numbered_choice (drop i all) ≡ []
ranked-end all i end = none-from-length (map numbered_choice (drop i all)) (omega (arith, length-map (drop i all) numbered_choice, length-drop i all))

-- a number that isn't 0, by a test
pub filled : (n : ℕ) (none : Bool) → none ≡ eqb n 0 → none ≡ false → 0 < n
filled n none is denied = grind arith
