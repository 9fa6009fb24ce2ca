-- Representation: for the ordered serial search, the choices of a board that are left, kept as the squares that are
-- set in three words.
use Rattle.std.specs.Prelude.{ℕ, Bool, List, ◌++◌, map}
use Rattle.othello_eval.specs.othello_moves.Sequence.{sequence, squares_of}
use Rattle.othello_eval.specs.othello_moves.declared.choices.Choice.{Choice}
use Rattle.othello_eval.specs.othello_moves.declared.choices.Choice.TheVariants.{Square}

-- the squares set in the first word, then those set in the second, then those set in the third, each by rising index, then
-- a pass where `passes` is true
abbrev pub classed : ℕ → ℕ → ℕ → Bool → List Choice
classed first second third passes = map Square (squares_of first) ++ sequence second third passes
