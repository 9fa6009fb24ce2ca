-- The written text of an Othello position, byte by byte.
use Rattle.othello_board.proofs.PositionText.Common.{◌≡◌, ◌≢◌, ℕ, ◌<◌, List, length, map, get_or, set, replicate, Some, inl, inr, sym, ◌∙◌, arith, length-append, ext_get_or, get_or_append_left, get_or-append_right, get_or-map, length-map, get_or-replicate, length-replicate, length-set, get_or-set_same, get_or-set_other, cases_lt, cases_eq, cell_at, cells, Side, Position, Mark, Disc, spelled, side_spelled, mark_of_cell, byte_of, written, Spells, length-cells_of}

-- how the cell of a square is written
abbrev pub byte_at : Position → ℕ → ℕ
byte_at p s = byte_of (mark_of_cell p.side (cell_at (cells p.board) s))

-- a text of 66 bytes that is written like this position
pub record IsWritten (text : List ℕ) (p : Position) : Type 0 where
  pub len : length text ≡ 66
  pub each : (s : ℕ) → s < 64 → get_or text s 0 ≡ byte_at p s
  pub space : get_or text 64 0 ≡ 32
  pub side : get_or text 65 0 ≡ byte_of (Disc p.side)

-- the bytes of the cells
abbrev front : Position → List ℕ
front p = map (λ cell. byte_of (mark_of_cell p.side cell)) (cells p.board)

length-front : (p : Position) → length (front p) ≡ 64
length-front p = length-map (cells p.board) (λ cell. byte_of (mark_of_cell p.side cell)) ∙ length-cells_of p.board.own p.board.opp

get_or-front : (p : Position) (s : ℕ) → s < 64 → get_or (front p) s 0 ≡ byte_at p s
get_or-front p s below = grind (arith, get_or-map, length-cells_of)

pub written-is : (p : Position) → IsWritten (written p) p
written-is p = grind (arith, length-front, length-append, get_or_append_left, get_or-front, get_or-append_right)

-- only one text is written like a position
pub written-same : (one other : List ℕ) (p : Position) → IsWritten one p → IsWritten other p → one ≡ other
written-same one other p this that =
    ext_get_or 0 one other (this.len ∙ sym that.len) (λ s below.
    elim (cases_lt s 64) [
      | inl cell ↦ this.each s cell ∙ sym (that.each s cell)
      | inr beyond ↦ elim (cases_eq s 64) [
        | inl at ↦ rw at (this.space ∙ sym that.space)
        | inr off ↦ let last : s ≡ 65 = omega (arith, this.len) in rw last (this.side ∙ sym that.side)
      ]
    ])

spelled-byte_of : (m : Mark) → spelled (byte_of m) ≡ Some m
spelled-byte_of m = grind arith

side_spelled-byte_of : (side : Side) → side_spelled (byte_of (Disc side)) ≡ Some side
side_spelled-byte_of side = grind arith

-- a text that is written like a position spells it
pub written-spells : (text : List ℕ) (p : Position) → IsWritten text p → Spells text p
written-spells text p this = grind (arith, spelled-byte_of, side_spelled-byte_of)

-- 66 bytes that are written like this position up to the cell n, with the space in its place
pub record WritesFirst (text : List ℕ) (p : Position) (n : ℕ) : Type 0 where
  pub len : length text ≡ 66
  pub each : (s : ℕ) → s < n → get_or text s 0 ≡ byte_at p s
  pub space : get_or text 64 0 ≡ 32

pub writes-none : (text : List ℕ) (p : Position) → text ≡ replicate 66 32 → WritesFirst text p 0
writes-none text p blank = grind (arith, length-replicate, get_or-replicate)

-- the whole text, once the side stands at its end
pub writes-all : (text : List ℕ) (p : Position) (n byte : ℕ) → n ≡ 64 → byte ≡ byte_of (Disc p.side) → WritesFirst text p n → IsWritten (set text 65 byte) p
writes-all text p n byte all is this = record {
  len = length-set text 65 byte ∙ this.len;
  each = λ s below. let other : s ≢ 65 = omega arith in get_or-set_other text 65 s byte 0 other ∙ this.each s (omega arith);
  space = let other : 64 ≢ 65 = omega arith in get_or-set_other text 65 64 byte 0 other ∙ this.space;
  side = get_or-set_same text 65 byte 0 (omega (arith, this.len)) ∙ is;
}

pub is-written : (text : List ℕ) (p : Position) → IsWritten text p → text ≡ written p
is-written text p this = written-same text (written p) p this (written-is p)
