-- Representation: Othello positions and texts on which the definitions are tried.
use Rattle.std.specs.Prelude.{ℕ, ◌+◌, ◌^◌, List, codes, refl}
use Rattle.othello_board.specs.declared.position_text.positions.Side.TheVariants.{Black, White}
use Rattle.othello_board.specs.declared.position_text.positions.Position.{Position}

-- the opening: Black on e4 (28) and d5 (35), White on d4 (27) and e5 (36), Black to move
abbrev pub opening : Position
opening = record {
  board = record { own = 2 ^ 28 + 2 ^ 35; opp = 2 ^ 27 + 2 ^ 36; disjoint = refl };
  side = Black;
}

-- the opening's discs as a position with White to move
abbrev pub white_to_move : Position
white_to_move = record {
  board = record { own = 2 ^ 27 + 2 ^ 36; opp = 2 ^ 28 + 2 ^ 35; disjoint = refl };
  side = White;
}

-- the cells of the opening's written text
abbrev pub opening_cells : List ℕ
opening_cells = codes "---------------------------OX------XO---------------------------"
