-- Representation: how the entries of a session's TABLE line lie in their places.
use Rattle.std.specs.Prelude.{◌≡◌, pos, ◌-◌, ◌≤◌, List, ◌++◌, length, take, replicate}
use Rattle.othello_moves.specs.declared.choices.Choice.TheVariants.{Pass}
use Rattle.othello_eval.specs.declared.bound.Bound.{Bound}
use Rattle.othello_eval.specs.declared.bound.BoundKind.TheVariants.{Exact}
use Rattle.session.specs.declared.bounds.Bounds.TheInside.{Inside}

-- what fills the places after the last entry
abbrev pub no_bound : Bound
no_bound = record { choice = Pass; score = pos 0; kind = Exact }

-- a table with these entries: they fill its first places, and `no_bound` all others
abbrev pub bounds_held : List Bound → Inside
bounds_held bounds = record { places = bounds ++ replicate (64 - length bounds) no_bound; count = length bounds }

-- a table is well formed: so many entries as it counts, at most 64, and `no_bound` in all places after them
pub record IsHeld (b : Inside) : Type 0 where
  pub same : bounds_held (take b.count b.places) ≡ b
  pub few : b.count ≤ 64
