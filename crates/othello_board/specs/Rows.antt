-- Representation: Othello boards on which the definitions are tried.
use Rattle.std.specs.Prelude.{List, [], ◌∷◌, ◌++◌, replicate}
use Rattle.othello_board.specs.declared.cells.Cell.{Cell}
use Rattle.othello_board.specs.declared.cells.Cell.TheVariants.{Empty, Own, Opp}

-- three rows of a board without discs
abbrev pub empty_rows : List Cell
empty_rows = replicate 24 Empty

-- the opening, Black to move: Black on e4 and d5, White on d4 and e5
abbrev pub opening : List Cell
opening = empty_rows
    ++ (Empty ∷ Empty ∷ Empty ∷ Opp ∷ Own ∷ Empty ∷ Empty ∷ Empty ∷ [])
    ++ (Empty ∷ Empty ∷ Empty ∷ Own ∷ Opp ∷ Empty ∷ Empty ∷ Empty ∷ [])
    ++ empty_rows

-- a board whose first row is this, and the rest empty
abbrev pub first_row : List Cell → List Cell
first_row row = row ++ replicate 56 Empty
