-- Representation: the choices of a board, rearranged for the ordered serial search.
use Rattle.std.specs.Prelude.{ℕ, suc, List, [], ◌∷◌}
use Rattle.othello_eval.specs.othello_moves.declared.choices.Choice.{Choice}
use Rattle.leaf_search.specs.declared.ranking.Ranked.{Ranked}

-- the elements of a list, each with its place, where the first has place k
abbrev pub numbered : {X : Type 0} → ℕ → List X → List (ℕ × X)
numbered k [] = []
numbered k (x ∷ xs) = (k, x) ∷ numbered (suc k) xs

-- a choice that was ranked by the ordered search, with its place in the rules' order
abbrev pub numbered_choice : Ranked → ℕ × Choice
numbered_choice r = (r.place, r.choice)
