-- An Othello position's text: the cells of a board, square by square, and boards with the same cells.
use Rattle.othello_board.proofs.PositionText.Common.{◌≡◌, ℕ, ◌<◌, ◌^◌, cond, nat_eq, min, bit_and, sym, ap, subst, ◌∙◌, arith, ◌↔◌, Bool, List, length, get_or, Some, Result, Ok, refl, ℕ_set, bit_at, bit_at-lt, same_from_bits_below, Cell, Empty, Own, Opp, Board, cell_of, cells, apart, cell_at-cells_of, cell_at, Side, Black, White, Position, TextFault, Disc, Blank, side_spelled, mark_of_cell, Spells, FitsWords, mark_at, HoldsFirst}

-- whether a cell is own, as a bit
own_bit : Cell → ℕ
own_bit Own = 1
own_bit Opp = 0
own_bit Empty = 0

opp_bit : Cell → ℕ
opp_bit Own = 0
opp_bit Opp = 1
opp_bit Empty = 0

-- the cell of two bits
abbrev cell_by : ℕ → ℕ → Cell
cell_by a b = cond (nat_eq a 1) Own (cond (nat_eq b 1) Opp Empty)

bits-cell_by : (a b : ℕ) → a < 2 → b < 2 → min a b ≡ 0 → (own_bit (cell_by a b) ≡ a) × (opp_bit (cell_by a b) ≡ b)
unfolding own_bit opp_bit
bits-cell_by a b h3 h4 h5 = grind arith

-- the bits of two words, from their cell
bits-cell_of : (own opp s : ℕ) → bit_and own opp ≡ 0 → (own_bit (cell_of own opp s) ≡ bit_at own s) × (opp_bit (cell_of own opp s) ≡ bit_at opp s)
bits-cell_of own opp s h = bits-cell_by (bit_at own s) (bit_at opp s) (bit_at-lt own s) (bit_at-lt opp s) (apart own opp s h)

-- the board of two words
board_of : (own opp : ℕ) → bit_and own opp ≡ 0 → Board
board_of own opp h = record { own = own; opp = opp; disjoint = h }

board_of-same : (own opp : ℕ) (h k : bit_and own opp ≡ 0) → board_of own opp h ≡ board_of own opp k
board_of-same own opp h k = ap (board_of own opp) (ℕ_set (bit_and own opp) 0 h k)

-- boards with the same words are the same
board-same : (a b : Board) → a.own ≡ b.own → a.opp ≡ b.opp → a ≡ b
unfolding board_of
board-same a b e f =
    let P : ℕ → Type 0 = λ own. (h : bit_and own a.opp ≡ 0) → a ≡ board_of own a.opp h in
    let first : (h : bit_and b.own a.opp ≡ 0) → a ≡ board_of b.own a.opp h = subst P e (λ h. board_of-same a.own a.opp a.disjoint h) in
    let Q : ℕ → Type 0 = λ opp. (h : bit_and b.own opp ≡ 0) → a ≡ board_of b.own opp h in
    let second : (h : bit_and b.own b.opp ≡ 0) → a ≡ board_of b.own b.opp h = subst Q f first in
    second b.disjoint

-- boards of 64-bit words with the same 64 cells are the same
pub board-same-from-cells : (a b : Board) → a.own < 2 ^ 64 → a.opp < 2 ^ 64 → b.own < 2 ^ 64 → b.opp < 2 ^ 64
    → ((s : ℕ) → s < 64 → cell_of a.own a.opp s ≡ cell_of b.own b.opp s) → a ≡ b
board-same-from-cells a b fits_own fits_opp fits_own_too fits_opp_too same =
    board-same a b
    (same_from_bits_below 64 a.own b.own fits_own fits_own_too (λ s below.
    sym (bits-cell_of a.own a.opp s a.disjoint).0 ∙ ap own_bit (same s below) ∙ (bits-cell_of b.own b.opp s b.disjoint).0))
    (same_from_bits_below 64 a.opp b.opp fits_opp fits_opp_too (λ s below.
    sym (bits-cell_of a.own a.opp s a.disjoint).1 ∙ ap opp_bit (same s below) ∙ (bits-cell_of b.own b.opp s b.disjoint).1))

-- The position of a text: at most one, and that of the discs that it holds.

-- a side sees different cells where different marks stand
mark-of-injective : (side : Side) (a b : Cell) → mark_of_cell side a ≡ mark_of_cell side b → a ≡ b
mark-of-injective Black Own Own h = refl
mark-of-injective Black Own Opp h = cc
mark-of-injective Black Own Empty h = cc
mark-of-injective Black Opp Own h = cc
mark-of-injective Black Opp Opp h = refl
mark-of-injective Black Opp Empty h = cc
mark-of-injective Black Empty Own h = cc
mark-of-injective Black Empty Opp h = cc
mark-of-injective Black Empty Empty h = refl
mark-of-injective White Own Own h = refl
mark-of-injective White Own Opp h = cc
mark-of-injective White Own Empty h = cc
mark-of-injective White Opp Own h = cc
mark-of-injective White Opp Opp h = refl
mark-of-injective White Opp Empty h = cc
mark-of-injective White Empty Own h = cc
mark-of-injective White Empty Opp h = cc
mark-of-injective White Empty Empty h = refl

position-same : (p q : Position) → p.board ≡ q.board → p.side ≡ q.side → p ≡ q
position-same p q e f = grind arith

-- a text spells at most one position
pub one_position : (text : List ℕ) (p q : Position) → FitsWords p → FitsWords q → Spells text p → Spells text q → p ≡ q
one_position text p q fits fits_too this that =
    let side : p.side ≡ q.side = cc (this.side, that.side) in
    position-same p q
    (board-same-from-cells p.board q.board fits.0 fits.1 fits_too.0 fits_too.1 (λ s below.
    let marks : mark_of_cell p.side (cell_at (cells p.board) s) ≡ mark_of_cell p.side (cell_at (cells q.board) s) =
    rw side (cc (this.each s below, that.each s below, side)) in
    sym (cell_at-cells_of p.board.own p.board.opp s below)
    ∙ mark-of-injective p.side (cell_at (cells p.board) s) (cell_at (cells q.board) s) marks
    ∙ cell_at-cells_of q.board.own q.board.opp s below))
    side

-- the cell of two bits, seen by black and by white
seen-by-black : (x y : Bool) → mark_of_cell Black (cond x Own (cond y Opp Empty)) ≡ cond x (Disc Black) (cond y (Disc White) Blank)
seen-by-black x y = grind arith

seen-by-white : (a b : ℕ) → a < 2 → b < 2 → min a b ≡ 0 → mark_of_cell White (cond (nat_eq b 1) Own (cond (nat_eq a 1) Opp Empty)) ≡ cond (nat_eq a 1) (Disc Black) (cond (nat_eq b 1) (Disc White) Blank)
seen-by-white a b h3 h4 h5 = grind arith

-- what stands on a square, from the board that a side sees
mark-seen : (black white : ℕ) (b : Board) (side : Side) (s : ℕ) → bit_and black white ≡ 0
    → (side ≡ Black → (b.own ≡ black) × (b.opp ≡ white)) → (side ≡ White → (b.own ≡ white) × (b.opp ≡ black))
    → mark_of_cell side (cell_of b.own b.opp s) ≡ mark_at black white s
mark-seen black white b Black s disjoint if_black if_white =
    rw ((if_black refl).0, (if_black refl).1) (seen-by-black (nat_eq (bit_at black s) 1) (nat_eq (bit_at white s) 1))
mark-seen black white b White s disjoint if_black if_white =
    rw ((if_white refl).0, (if_white refl).1) (seen-by-white (bit_at black s) (bit_at white s) (bit_at-lt black s) (bit_at-lt white s) (apart black white s disjoint))

-- a text spells the board of the discs that it holds, seen by the side that it ends with
pub spells-seen : (text : List ℕ) (black white : ℕ) (b : Board) (side : Side) → length text ≡ 66
    → HoldsFirst black white text 64 → bit_and black white ≡ 0
    → (side ≡ Black → (b.own ≡ black) × (b.opp ≡ white)) → (side ≡ White → (b.own ≡ white) × (b.opp ≡ black))
    → get_or text 64 0 ≡ 32 → side_spelled (get_or text 65 0) ≡ Some side
    → (p : Position) → p.board ≡ b → p.side ≡ side → Spells text p
spells-seen text black white b side len held disjoint if_black if_white space end p board_is side_is = record {
  len = len;
  each = λ s below. held.marks s below ∙ ap Some (sym (
      rw (side_is, board_is, cell_at-cells_of b.own b.opp s below) (mark-seen black white b side s disjoint if_black if_white)));
  space = space;
  side = end ∙ ap Some (sym side_is);
}

-- the answer with a position
abbrev pub answer : Position → Result Position TextFault
answer p = Ok p

-- an answer with a spelled position has another exactly where the text spells that one
pub ok-exactly : (text : List ℕ) (q : Position) → FitsWords q → Spells text q
    → (p : Position) → FitsWords p → (answer q ≡ answer p) ↔ Spells text p
ok-exactly text q fits this p fits_too = grind (arith, one_position)
