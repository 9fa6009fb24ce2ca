-- Meaning: what a reply's table says of the choices, in their order.
use Rattle.std.specs.Prelude.{ℕ, List, [], ◌∷◌}
use Rattle.othello_moves.specs.declared.choices.Choice.{Choice}
use Rattle.jamboree_rules.specs.othello_eval.declared.bound.Bound.{Bound}
use Rattle.jamboree_rules.specs.Places.{kind_in, score_in}
use Rattle.jamboree_rules.specs.Entries.{kind_numbered}
use Rattle.jamboree.specs.declared.entry.KnownBound.{KnownBound}

-- what is known of a choice whose entry has this rest, which has a kind
abbrev pub known_of : ℕ → KnownBound
known_of rest = record { score = score_in rest; kind = kind_numbered (kind_in rest) }

-- the table's entry for a choice of which this is known
abbrev pub bound_by : Choice → KnownBound → Bound
bound_by choice known = record { choice = choice; score = known.score; kind = known.kind }

-- the table's entries for these choices, each with what is known of it, up to the end of the shorter list
abbrev pub bounds_by : List Choice → List KnownBound → List Bound
bounds_by [] known = []
bounds_by (c ∷ cs) [] = []
bounds_by (c ∷ cs) (k ∷ known) = bound_by c k ∷ bounds_by cs known
