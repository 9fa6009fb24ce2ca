-- Representation: the levels above a frame of the search: of all of them it reads its parent's words alone.
use Rattle.std.specs.Prelude.{ℕ, List, [], ◌∷◌, Option, Some, None}

-- the levels above a frame, as far as it reads them: its parent's words, or none for a root
abbrev pub above_of : Option (List ℕ) → List (List ℕ)
above_of None = []
above_of (Some words) = words ∷ []
