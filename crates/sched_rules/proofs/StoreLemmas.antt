-- Stores into a frame's words keep the number of words.
use Rattle.std.proofs.Common.{◌≡◌, ℕ, List, [], ◌∷◌, length, refl, ◌∙◌}
use Rattle.std.proofs.lemmas.List.{length-set}
use Rattle.std.specs.Prelude.{slice_set}
use Rattle.sched_rules.specs.Trees.{stored}

pub length-stored : (stores : List (ℕ × ℕ)) (words : List ℕ) → length (stored stores words) ≡ length words
length-stored [] words = refl
length-stored (store ∷ stores) words = length-stored stores (slice_set words store.0 store.1) ∙ length-set words store.0 store.1
