-- Representation: what the words of the black and the white discs stand for, while a position's text is read.
use Rattle.std.specs.Prelude.{◌≡◌, ℕ, ◌<◌, ◌≤◌, ◌==◌, if◌then◌else◌, Some, List, slice_index}
use Rattle.std.specs.Int.{bit_at}
use Rattle.othello_board.specs.declared.position_text.positions.Side.TheVariants.{Black, White}
use Rattle.othello_board.specs.declared.position_text.marks.Mark.{Mark}
use Rattle.othello_board.specs.declared.position_text.marks.Mark.TheVariants.{Disc, Blank}
use Rattle.othello_board.specs.position_text.Spelling.{spelled}

-- the mark of square s: a black disc where bit s of `black` is 1, else a white one where bit s of `white` is 1, else
-- blank
abbrev pub mark_at : ℕ → ℕ → ℕ → Mark
mark_at black white s =
    if bit_at black s == 1 then Disc Black else (if bit_at white s == 1 then Disc White else Blank)

-- the two words hold the marks that the first n bytes of the text spell, and no disc from square n on
pub record HoldsFirst (black white : ℕ) (text : List ℕ) (n : ℕ) : Type 0 where
  pub marks : (s : ℕ) → s < n → spelled (slice_index text s) ≡ Some (mark_at black white s)
  pub no_black : (s : ℕ) → n ≤ s → bit_at black s ≡ 0
  pub no_white : (s : ℕ) → n ≤ s → bit_at white s ≡ 0
