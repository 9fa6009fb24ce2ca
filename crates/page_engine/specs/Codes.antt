-- Representation: the numbers by which choices and answers go to and from a page.
use Rattle.std.specs.Prelude.{ℕ, ◌^◌, ◌==◌, ℤ, pos, neg_ℤ, ◌+ℤ◌, ◌*ℤ◌, List, [], ◌∷◌, Option, Some, None, find, filter}
use Rattle.std.specs.Option.{option_map}
use Rattle.othello_board.specs.declared.cells.Cell.{Cell}
use Rattle.othello_board.specs.Rules.{squares, cell_at, is_own_cell, is_opp_cell}
use Rattle.othello_board.specs.Words.{bits_of}
use Rattle.othello_moves.specs.declared.choices.Choice.{Choice}
use Rattle.othello_moves.specs.declared.choices.Choice.TheVariants.{Square, Pass}
use Rattle.othello_moves.specs.Choices.{choices, after}

-- the code of a choice: a square's own number, and 64 for a pass
abbrev pub choice_code : Choice → ℕ
choice_code (Square s) = s
choice_code Pass = 64

-- the code of a best choice: 65 where there is none
abbrev pub best_code : Option Choice → ℕ
best_code None = 65
best_code (Some c) = choice_code c

-- the first choice of a list that has this code
abbrev pub with_code : ℕ → List Choice → Option Choice
with_code code cs = find (λ c. choice_code c == code) cs

-- the choice of a board that has this code; None where none has it
abbrev pub choice_of_code : List Cell → ℕ → Option Choice
choice_of_code board code = with_code code (choices board)

-- the board after the choice that has a code, seen by the other player
abbrev pub after_code : List Cell → ℕ → Option (List Cell)
after_code board code = option_map (after board) (choice_of_code board code)

-- the code of a turn, by the choices that the mover has: 3 where the game is over, 2 where there is a pass alone, else 1
abbrev pub turn_code : List Choice → ℕ
turn_code [] = 3
turn_code (Pass ∷ more) = 2
turn_code (Square s ∷ more) = 1

-- the number in which a page is given a value and a best choice together
abbrev pub analysis_code : ℤ → Option Choice → ℤ
analysis_code value best = value *ℤ pos 128 +ℤ pos (best_code best)

-- the number that a page is given where there is no value: the least of 32 bits with a sign
abbrev pub no_value : ℤ
no_value = neg_ℤ (pos (2 ^ 31))

-- the number that a page is given where there is no analysis: the least of 64 bits with a sign
abbrev pub no_analysis : ℤ
no_analysis = neg_ℤ (pos (2 ^ 63))

-- the squares of the mover's discs as the bits of a word
abbrev pub own_bits : List Cell → ℕ
own_bits board = bits_of (filter (λ s. is_own_cell (cell_at board s)) squares)

-- the squares of the opponent's discs as the bits of a word
abbrev pub opp_bits : List Cell → ℕ
opp_bits board = bits_of (filter (λ s. is_opp_cell (cell_at board s)) squares)
