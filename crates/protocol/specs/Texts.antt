-- Meaning: the texts of the protocol's answers.
use Rattle.std.specs.Prelude.{ℕ, ◌+◌, ◌/◌, ◌%◌, ℤ, List, [], ◌∷◌, ◌++◌, Option, Some, None, codes, decimal}
use Rattle.std.specs.Fmt.{signed_decimal}
use Rattle.othello_moves.specs.declared.choices.Choice.{Choice}
use Rattle.othello_moves.specs.declared.choices.Choice.TheVariants.{Square, Pass}

-- a move: the column a to h and the row 1 to 8 of a square, pass, or - where there is none
abbrev pub move_text : Option Choice → List ℕ
move_text None = codes "-"
move_text (Some Pass) = codes "pass"
move_text (Some (Square s)) = (97 + s % 8) ∷ (49 + s / 8) ∷ []

-- a value and a move, with a space between them
abbrev pub value_text : ℤ → Option Choice → List ℕ
value_text value choice = signed_decimal value ++ codes " " ++ move_text choice

-- a value, a move and a count of positions, with spaces between them
abbrev pub visited_text : ℤ → Option Choice → ℕ → List ℕ
visited_text value choice count = value_text value choice ++ codes " " ++ decimal count

-- the text of a fault of this number: ERR, a space and the number
abbrev pub error_text : ℕ → List ℕ
error_text number = codes "ERR " ++ decimal number
