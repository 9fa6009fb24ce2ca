-- The two words of a list of cells, and the leaves of the search by their numbers.
use Rattle.jamboree_rules.proofs.Common.{◌≡◌, ℕ, ◌<◌, ◌≤◌, ◌^◌, ◌==◌, Bool, true, cond, if◌then◌else◌, bit_and, List, map, filter, length, ℤ, ◌<ℤ◌, bit_at, sym, ◌∙◌, ap, arith, inl, inr, min, eqb, cases_lt, ext_get_or, length-map, get_or-map-range_with_len, bit_at_and, bit_at-zero, bit_at-lt, bit_at_above, same_from_bits, Cell, Empty, Own, Opp, squares, cell_at, is_own_cell, is_opp_cell, cell_of, cells_of, bits_of, apart, cell_at-cells_of, map-squares-same, bit-cases, bit_at-bits_of, is_among-filter, is-square, own_word, opp_word, is_leaf, coded, ints, props, ∥∥₁_elim, minimax, best_choice, IsBound, Leaf, LeafAnswer, IsLeaf, leaf-told, leaf_with, leaf_by, leaf_from, same_leaf, squares-length, no-square}
use Rattle.jamboree_rules.proofs.Forms.{leaf-passes, coded-small}

-- a board of 64 cells is that of its own cells
by-cells : (b : List Cell) → length b ≡ 64 → map (λ s. cell_at b s) squares ≡ b
unfolding squares
by-cells b len = ext_get_or Empty (map (λ s. cell_at b s) squares) b (length-map squares (λ s. cell_at b s) ∙ squares-length ∙ sym len) (λ i inside.
    get_or-map-range_with_len (λ s. cell_at b s) 0 64 i i Empty (omega (arith, length-map squares (λ s. cell_at b s), squares-length)) (omega arith))

-- the bits of the squares that pass a test
bit-passing : (p : ℕ → Bool) (s : ℕ) → s < 64 → bit_at (bits_of (filter p squares)) s ≡ cond (p s) 1 0
bit-passing p s below = grind (arith, bit_at-bits_of, is_among-filter, is-square)

bit-past : (p : ℕ → Bool) (s : ℕ) → 64 ≤ s → bit_at (bits_of (filter p squares)) s ≡ 0
bit-past p s past = grind (arith, bit_at-bits_of, is_among-filter, no-square)

cell-by : (c : Cell) (x y : ℕ) → x ≡ cond (is_own_cell c) 1 0 → y ≡ cond (is_opp_cell c) 1 0 → (if x == 1 then Own else (if y == 1 then Opp else Empty)) ≡ c
cell-by c x y h4 h5 = grind arith

-- the two words of a board of 64 cells hold it
pub words-hold : (b : List Cell) → length b ≡ 64 → cells_of (own_word b) (opp_word b) ≡ b
words-hold b len =
    map-squares-same (cell_of (own_word b) (opp_word b)) (λ s. cell_at b s)
    (λ s below. cell-by (cell_at b s) (bit_at (own_word b) s) (bit_at (opp_word b) s)
    (bit-passing (λ t. is_own_cell (cell_at b t)) s below) (bit-passing (λ t. is_opp_cell (cell_at b t)) s below))
    ∙ by-cells b len

not-both : (c : Cell) (x y : ℕ) → x ≡ cond (is_own_cell c) 1 0 → y ≡ cond (is_opp_cell c) 1 0 → min x y ≡ 0
not-both c x y h4 h5 = grind arith

none-both : (b : List Cell) (s : ℕ) → min (bit_at (own_word b) s) (bit_at (opp_word b) s) ≡ 0
none-both b s = grind (arith, not-both, bit-passing, bit-past)

-- no square has two discs
pub words-apart : (b : List Cell) → bit_and (own_word b) (opp_word b) ≡ 0
words-apart b = same_from_bits (bit_and (own_word b) (opp_word b)) 0 (λ s. bit_at_and (own_word b) (opp_word b) s ∙ none-both b s ∙ sym (bit_at-zero s))

-- the bits of two words that share none, by their cells
own-by : (x y : ℕ) → x < 2 → y < 2 → x ≡ cond (is_own_cell (cond (eqb x 1) Own (cond (eqb y 1) Opp Empty))) 1 0
own-by x y p q = grind (arith, bit-cases)

opp-by : (x y : ℕ) → x < 2 → y < 2 → min x y ≡ 0 → y ≡ cond (is_opp_cell (cond (eqb x 1) Own (cond (eqb y 1) Opp Empty))) 1 0
opp-by x y p q h = grind (arith, bit-cases)

-- a word of 64 bits that has a bit where a cell passes a test
word-same : (b : List Cell) (word : ℕ) (p : Cell → Bool) → word < 2 ^ 64 → ((s : ℕ) → s < 64 → bit_at word s ≡ cond (p (cell_at b s)) 1 0) →
    word ≡ bits_of (filter (λ s. p (cell_at b s)) squares)
word-same b word p fits here = same_from_bits word (bits_of (filter (λ s. p (cell_at b s)) squares)) (λ s. elim (cases_lt s 64) [
  | inl below ↦ here s below ∙ sym (bit-passing (λ t. p (cell_at b t)) s below)
  | inr past ↦ bit_at_above word 64 s fits past ∙ sym (bit-past (λ t. p (cell_at b t)) s past)
])

-- the words of 64 bits that hold a board are its two words
module _ (own opp : ℕ) where
  pub own-is : own < 2 ^ 64 → own ≡ own_word (cells_of own opp)
  own-is fits = word-same (cells_of own opp) own is_own_cell fits (λ s below.
      own-by (bit_at own s) (bit_at opp s) (bit_at-lt own s) (bit_at-lt opp s)
      ∙ ap (λ (c : Cell). cond (is_own_cell c) 1 0) (sym (cell_at-cells_of own opp s below)))

  pub opp-is : bit_and own opp ≡ 0 → opp < 2 ^ 64 → opp ≡ opp_word (cells_of own opp)
  opp-is disjoint fits = word-same (cells_of own opp) opp is_opp_cell fits (λ s below.
      opp-by (bit_at own s) (bit_at opp s) (bit_at-lt own s) (bit_at-lt opp s) (apart own opp s disjoint)
      ∙ ap (λ (c : Cell). cond (is_opp_cell c) 1 0) (sym (cell_at-cells_of own opp s below)))

-- Leaves by their numbers.

-- a leaf has these numbers
pub record Has (leaf : Leaf) (own opp depth : ℕ) (alpha beta : ℤ) : Type 0 where
  pub own_is : leaf.board.own ≡ own
  pub opp_is : leaf.board.opp ≡ opp
  pub depth_is : leaf.depth ≡ depth
  pub alpha_is : leaf.alpha ≡ alpha
  pub beta_is : leaf.beta ≡ beta

module _ (own opp depth : ℕ) (alpha beta : ℤ) where
  has-by : (b : Bool) (h : b ≡ true → IsLeaf own opp depth alpha beta) → b ≡ true → Has (leaf_by own opp depth alpha beta b h) own opp depth alpha beta
  has-by b h h8 = grind arith

  pub has-from : IsLeaf own opp depth alpha beta → Has (leaf_from own opp depth alpha beta) own opp depth alpha beta
  has-from h = has-by (is_leaf own opp depth alpha beta) (leaf-told own opp depth alpha beta) (leaf-passes own opp depth alpha beta h)

-- two leaves that are the same have the same numbers
pub same-has : (one other : Leaf) → same_leaf one other ≡ true → Has one other.board.own other.board.opp other.depth other.alpha other.beta
same-has one other h = record {
  own_is = grind (arith, ints);
  opp_is = grind (arith, ints);
  depth_is = grind (arith, ints);
  alpha_is = grind (arith, ints);
  beta_is = grind (arith, ints);
}

-- what is known of the choice
named-leaf : (answer : LeafAnswer) → answer.leaf.alpha <ℤ answer.score → answer.score <ℤ answer.leaf.beta →
    coded answer.choice ≡ coded (best_choice answer.leaf.depth (cells_of answer.leaf.board.own answer.leaf.board.opp))
named-leaf answer over under = ∥∥₁_elim answer.best (Prim.hlevel props) (λ h. ap coded (h over under))

-- a bound to a leaf's numbers is a bound to the same numbers
module _ (answer : LeafAnswer) (own opp depth : ℕ) (alpha beta : ℤ) (has : Has answer.leaf own opp depth alpha beta) where
  pub moved : IsBound alpha beta answer.score (minimax depth (cells_of own opp))
  moved = rw (← has.own_is, ← has.opp_is, ← has.depth_is, ← has.alpha_is, ← has.beta_is) answer.bound

  pub named-by : alpha <ℤ answer.score → answer.score <ℤ beta → coded answer.choice ≡ coded (best_choice depth (cells_of own opp))
  named-by over under = grind (arith, named-leaf)

pub choice-small : (answer : LeafAnswer) → coded answer.choice ≤ 65
choice-small answer =
    let prop : IsProp (coded answer.choice ≤ 65) = Prim.hlevel props in
    ∥∥₁_elim answer.chosen prop (λ h. coded-small (cells_of answer.leaf.board.own answer.leaf.board.opp) answer.choice h)

-- a leaf is its numbers
IsLeaf-prop : (own opp depth : ℕ) (alpha beta : ℤ) → IsProp (IsLeaf own opp depth alpha beta)
IsLeaf-prop own opp depth alpha beta = Prim.hlevel props

same-leaves : (own opp depth own' opp' depth' : ℕ) (alpha beta alpha' beta' : ℤ) → own ≡ own' → opp ≡ opp' → depth ≡ depth' → alpha ≡ alpha' → beta ≡ beta' →
    (p : IsLeaf own opp depth alpha beta) (q : IsLeaf own' opp' depth' alpha' beta') →
    leaf_with own opp depth alpha beta p ≡ leaf_with own' opp' depth' alpha' beta' q
same-leaves own opp depth own' opp' depth' alpha beta alpha' beta' eo ep ed ea eb p = rw (← eo, ← ep, ← ed, ← ea, ← eb)
    (λ q. ap (λ (h : IsLeaf own opp depth alpha beta). leaf_with own opp depth alpha beta h) (IsLeaf-prop own opp depth alpha beta p q))

-- two leaves with the same numbers are the same value
pub leaf-ext : (one other : Leaf) → Has one other.board.own other.board.opp other.depth other.alpha other.beta → one ≡ other
leaf-ext one other h =
    same-leaves _ _ _ other.board.own other.board.opp other.depth _ _ other.alpha other.beta h.own_is h.opp_is h.depth_is h.alpha_is h.beta_is
    (record { disjoint = one.board.disjoint; shallow = one.shallow; low = one.least; window = one.window; high = one.greatest })
    (record { disjoint = other.board.disjoint; shallow = other.shallow; low = other.least; window = other.window; high = other.greatest })

-- so where `==` says that two leaves are the same, they are
pub same-value : (one other : Leaf) → same_leaf one other ≡ true → one ≡ other
same-value one other h = leaf-ext one other (same-has one other h)

pub ruleset same_leaf_rules = (same-value)

-- a leaf with these numbers is the leaf of these numbers
pub leaf-is : (leaf : Leaf) (own opp depth : ℕ) (alpha beta : ℤ) → Has leaf own opp depth alpha beta → leaf ≡ leaf_from own opp depth alpha beta
leaf-is leaf own opp depth alpha beta h = grind (arith, has-from, leaf-ext)
