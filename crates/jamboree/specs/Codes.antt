-- Representation: the choice that a number in a search's words stands for.
use Rattle.std.specs.Prelude.{ℕ, nat_lt, ◌==◌, if◌then◌else◌, Option, Some, None}
use Rattle.othello_moves.specs.declared.choices.Choice.{Choice}
use Rattle.othello_moves.specs.declared.choices.Choice.TheVariants.{Square, Pass}

-- the choice with this code: 0 to 63 a square, 64 a pass, any other none
abbrev pub decoded : ℕ → Option Choice
decoded code = if nat_lt code 64 then Some (Square code) else if code == 64 then Some Pass else None
