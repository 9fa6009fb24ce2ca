-- What is read of an Othello position's text, by what it spells.
use Rattle.othello_board.proofs.PositionText.Common.{◌≡◌, ◌≢◌, ℕ, zero, suc, ◌+◌, ◌<◌, ◌≤◌, cond, List, [], ◌∷◌, map, Option, Some, None, IsSome, ◌⊎◌, refl, sym, ap, ◌∙◌, arith, inl, inr, get_or, min, bit_and, subst, below_more, slice_index, option_map, range_with_len, eq-eqb, cases_eq, eqb_tells, Cell, squares, cells, cell_of, map-range-same, map-map, cell_at-cells_of, apart, Side, Position, Spells, IsBadCell, IsBadSide, spelled, side_spelled, mark_of_cell, AllSpelled, all_of, marks_of, mover_of, seen_by, bit_at, and_comm, bit_at_and, bit_at-zero, same_from_bits, Mark, mark_at, HoldsFirst}

all_of-some : {X : Type 0} (f : ℕ → X) (xs : List ℕ) → all_of (map (λ s. Some (f s)) xs) ≡ Some (map f xs)
all_of-some f [] = refl
all_of-some f (x ∷ xs) = ap (option_map (λ ys. f x ∷ ys)) (all_of-some f xs)

-- a side sees its marks as the cells that they are
pub seen-mark-of : (side : Side) (cell : Cell) → seen_by side (mark_of_cell side cell) ≡ cell
seen-mark-of side cell = grind arith

map-seen : (side : Side) (board : List Cell) → map (seen_by side) (map (mark_of_cell side) board) ≡ board
map-seen side [] = refl
map-seen side (cell ∷ more) = rw (seen-mark-of side cell, map-seen side more) refl

-- ---- a text that spells a position

pub marks_of-spelled : (text : List ℕ) (p : Position) → Spells text p → marks_of text ≡ Some (map (mark_of_cell p.side) (cells p.board))
unfolding squares
marks_of-spelled text p s =
    let own = p.board.own in
    let opp = p.board.opp in
    ap all_of (map-range-same (λ q. spelled (slice_index text q)) (λ q. Some (mark_of_cell p.side (cell_of own opp q))) 0 64
    (λ q low high. s.each q (omega arith) ∙ ap (λ cell. Some (mark_of_cell p.side cell)) (cell_at-cells_of own opp q (omega arith))))
    ∙ all_of-some (λ q. mark_of_cell p.side (cell_of own opp q)) squares
    ∙ ap Some (sym (map-map (mark_of_cell p.side) (cell_of own opp) squares))

pub mover_of-spelled : (text : List ℕ) (p : Position) → Spells text p → mover_of text ≡ Some p.side
mover_of-spelled text p s = ap (λ t. cond t (side_spelled (slice_index text 65)) None) (eq-eqb (slice_index text 64) 32 s.space) ∙ s.side

-- its marks, seen by the side to move, are the board
pub seen_of-spelled : (p : Position) → map (seen_by p.side) (map (mark_of_cell p.side) (cells p.board)) ≡ cells p.board
seen_of-spelled p = map-seen p.side (cells p.board)

-- ---- a text that has a fault

-- the first value before the others, if all have one
abbrev all_first : {X : Type 0} → Option X → Option (List X) → Option (List X)
all_first None rest = None
all_first (Some x) rest = option_map (λ xs. x ∷ xs) rest

all_of-first : {X : Type 0} (first : Option X) (more : List (Option X)) → all_of (first ∷ more) ≡ all_first first (all_of more)
all_of-first first more = grind arith

first-or-none : {X : Type 0} (first : Option X) (rest : Option (List X)) → rest ≡ None → all_first first rest ≡ None
first-or-none first rest h3 = grind arith

-- one of these has no value
none-of : {X : Type 0} (f : ℕ → Option X) (a n at : ℕ) → a ≤ at → at < a + n → f at ≡ None → all_of (map f (range_with_len a n)) ≡ None
none-of f a zero at low high none = absurd (omega arith)
none-of f a (suc n) at low high none = grind (arith, none-of f (a + 1) n at, eqb_tells, all_of-first, first-or-none)

pub marks_of-bad_cell : (text : List ℕ) (at : ℕ) → IsBadCell text at → marks_of text ≡ None
unfolding squares
marks_of-bad_cell text at bad = none-of (λ q. spelled (slice_index text q)) 0 64 at (omega arith) (omega (arith, bad.within)) bad.unspelled

-- each has a value
some-first : {X : Type 0} (first : Option X) (rest : Option (List X)) → IsSome first → IsSome rest → IsSome (all_first first rest)
some-first first rest h3 h4 = grind arith

each-some : {X : Type 0} (f : ℕ → Option X) (a n : ℕ) → ((s : ℕ) → a ≤ s → s < a + n → IsSome (f s)) → IsSome (all_of (map f (range_with_len a n)))
each-some f a zero each = refl
each-some f a (suc n) each = grind (arith, each-some f (a + 1) n, all_of-first, some-first)

pub marks_of-bad_side : (text : List ℕ) → IsBadSide text → IsSome (marks_of text)
unfolding squares
marks_of-bad_side text bad = each-some (λ q. spelled (slice_index text q)) 0 64 (λ s low high. bad.before s (omega arith))

no-mover : (text : List ℕ) → (slice_index text 64 ≢ 32) ⊎ (side_spelled (slice_index text 65) ≡ None) → mover_of text ≡ None
no-mover text h2 = grind (arith, eqb_tells)

pub mover_of-bad_side : (text : List ℕ) → IsBadSide text → mover_of text ≡ None
mover_of-bad_side text bad = no-mover text bad.unspelled

-- The words of the black and the white discs, bit by bit.

-- two words that share no bit share none in either order
pub apart_other_way : (a b : ℕ) → bit_and a b ≡ 0 → bit_and b a ≡ 0
apart_other_way a b h = and_comm b a ∙ h

-- words that share no bit still share none once one of them got a bit that the other hasn't
module _ (a more b k : ℕ) where
  pub still-apart : bit_and a b ≡ 0 → bit_at b k ≡ 0 → ((s : ℕ) → s ≢ k → bit_at more s ≡ bit_at a s) → bit_and more b ≡ 0
  still-apart h free others =
      same_from_bits (bit_and more b) 0 (λ s. rw (bit_at_and more b s, bit_at-zero s)
      (elim (cases_eq s k) [ inl same ↦ still-apart-at more b k s same free | inr other ↦ still-apart-off a more b k s h other others ]))
    where
      still-apart-at : (more b k s : ℕ) → s ≡ k → bit_at b k ≡ 0 → min (bit_at more s) (bit_at b s) ≡ 0
      still-apart-at more b k s same free = let e : bit_at b s ≡ 0 = ap (λ n. bit_at b n) same ∙ free in omega arith

      still-apart-off : (a more b k s : ℕ) → bit_and a b ≡ 0 → s ≢ k → ((t : ℕ) → t ≢ k → bit_at more t ≡ bit_at a t) → min (bit_at more s) (bit_at b s) ≡ 0
      still-apart-off a more b k s h other others = rw (others s other) (apart a b s h)

  -- the words of one more byte
  pub one-more : (text : List ℕ) (n : ℕ) (m : Mark) → HoldsFirst a more text n → spelled (get_or text n 0) ≡ Some m → mark_at b k n ≡ m → ((s : ℕ) → s ≢ n → bit_at b s ≡ bit_at a s) → ((s : ℕ) → s ≢ n → bit_at k s ≡ bit_at more s) → HoldsFirst b k text (n + 1)
  one-more text n m held byte here blacks whites = record {
    marks = below_more _ n
        (λ s below. let other : s ≢ n = omega arith in rw (blacks s other, whites s other) (held.marks s below))
        (byte ∙ ap Some (sym here));
    no_black = λ s above. let other : s ≢ n = omega arith in blacks s other ∙ held.no_black s (omega arith);
    no_white = λ s above. let other : s ≢ n = omega arith in whites s other ∙ held.no_white s (omega arith);
  }

-- the words of no byte
pub none_held : (black white : ℕ) (text : List ℕ) → black ≡ 0 → white ≡ 0 → HoldsFirst black white text 0
none_held black white text no_black no_white = grind (arith, bit_at-zero)

-- bytes that the words hold are spelled
pub held-spelled : (black white : ℕ) (text : List ℕ) (n : ℕ) → HoldsFirst black white text n → AllSpelled text n
held-spelled black white text n held = λ s below. rw (held.marks s below) refl

-- the same bytes, counted in another way
pub held_at : (black white : ℕ) (text : List ℕ) (n m : ℕ) → n ≡ m → HoldsFirst black white text n → HoldsFirst black white text m
held_at black white text n m same held = subst (λ (k : ℕ). HoldsFirst black white text k) same held
