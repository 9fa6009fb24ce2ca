-- Meaning: what is known of a desk's history, whose entries say who made them, and the rule that ties what its passes
-- (the history's own and its makers') know.
use Rattle.std.specs.Prelude.{◌≡◌, ℕ, ◌+◌, ◌<◌, ◌≤◌, ◌==◌, true, false, List, [], ◌∷◌, ◌++◌, if◌then◌else◌}
use mathlib.Core.List.{IsPrefix}
use mathlib.Core.Option.{Option, some, none}
use lib.ListN.{get_elem?}
use Rattle.atomic_table.specs.Table.{State, Me, Step as Move}
use Rattle.atomic_table.specs.Seated.{TableId}
use Rattle.desk.specs.declared.passes.View.{View}

-- the identity that stands for no table of passes
abbrev pub no_table : TableId
no_table = record { words = 0; slots = 0; views_name = 0; atom = 0; block = 0; offset = 0; slot_names = [] }

module _ {S : Type 0} where
  -- the steps that this maker made, in order
  abbrev pub own : ℕ → List (ℕ × S) → List S
  own m [] = []
  own m (e ∷ es) = if e.0 == m then e.1 ∷ own m es else own m es

  -- the pass that knows the whole history, and how many makers there are
  abbrev pub keeper : List (ℕ × S) → ℕ → View S
  keeper all made = record { keeps = true; all = all; made = made; sits = false; maker = 0; seen = []; mine = [] }

  -- the pass of a maker: what it has seen of the history, and the steps that it made
  abbrev pub sitter : ℕ → List (ℕ × S) → List S → View S
  sitter m seen mine = record { keeps = false; all = []; made = 0; sits = true; maker = m; seen = seen; mine = mine }

  -- a pass that knows nothing
  abbrev pub nobody : View S
  nobody = record { keeps = false; all = []; made = 0; sits = false; maker = 0; seen = []; mine = [] }

  -- the keeper takes in a maker's pass
  abbrev pub holding : View S → View S → View S
  holding v u = record { keeps = v.keeps; all = v.all; made = v.made; sits = u.sits; maker = u.maker; seen = u.seen; mine = u.mine }

  -- the keeper once it has given the maker's pass back
  abbrev pub bare : View S → View S
  bare v = record { keeps = v.keeps; all = v.all; made = v.made; sits = false; maker = 0; seen = []; mine = [] }

  -- the maker's pass that it gives back: the maker has then seen all
  abbrev pub given : View S → View S
  given v = record { keeps = false; all = []; made = 0; sits = v.sits; maker = v.maker; seen = v.all; mine = v.mine }

  -- there is one more step, by the maker whose pass the keeper holds
  abbrev pub noted : S → View S → View S
  noted step v = record { keeps = v.keeps; all = v.all ++ (v.maker, step) ∷ []; made = v.made; sits = v.sits; maker = v.maker; seen = v.seen; mine = v.mine ++ step ∷ [] }

  -- the keeper holds the pass of a new maker
  abbrev pub begun : View S → View S
  begun v = record { keeps = v.keeps; all = v.all; made = v.made + 1; sits = true; maker = v.made; seen = []; mine = [] }

  -- what a maker's pass knows is true: it saw a beginning, and all steps by it are those that it made
  abbrev pub IsTrue : List (ℕ × S) → View S → Type 0
  IsTrue log v = v.sits ≡ true → IsPrefix v.seen log × (own v.maker log ≡ v.mine)

  -- what the rule says of the pass of this number: there is one that keeps the history, and one for each maker, and what each knows is true
  abbrev pub Fits : ℕ → (ℕ → ℕ) → ℕ → List (ℕ × S) → ℕ → View S → Type 0
  Fits keeps sits made log by v =
      (v.keeps ≡ true → (by ≡ keeps) × (v.all ≡ log) × (v.made ≡ made))
      × (v.sits ≡ true → (by ≡ sits v.maker) × (v.maker < made))
      × IsTrue log v

  -- there is one history, of which all passes know. Later makers have made nothing
  abbrev pub Kept : State S (View S) → Type 0
  Kept s =
      (keeps : ℕ) × (sits : ℕ → ℕ) × (made : ℕ) × (log : List (ℕ × S))
      × ((m : ℕ) → made ≤ m → own m log ≡ [])
      × ((by : ℕ) (v : View S) → get_elem? s.views by ≡ some v → Fits keeps sits made log by v)

  -- there is one more step, if it is one
  abbrev pub noted_if : Option S → View S → View S
  noted_if (some step) v = noted step v
  noted_if none v = v

  -- a load told the keeper that the pass it holds is true, and noted this step, if it was one
  abbrev pub Notes : Option S → Me S (View S) → ℕ → Me S (View S) → Type 0
  Notes step before found after = (after ≡ (noted_if step before.0, before.1)) × IsTrue before.0.all before.0

  -- a load made the pass of a new maker
  abbrev pub Begins : Move S → Me S (View S) → ℕ → Me S (View S) → Type 0
  Begins move before found after = (after ≡ (begun before.0, before.1)) × (own before.0.made before.0.all ≡ [])

-- what a maker knows: its number, what it has seen of the history, and its own steps
pub record Known (S : Type 0) : Type 0 where
  pub maker : ℕ
  pub seen : List (ℕ × S)
  pub mine : List S

-- the history of a desk: its identity, and its entries, each with the number of its maker
pub record StepLogOf (S : Type 0) : Type 0 where
  pub id : TableId
  pub entries : List (ℕ × S)

-- a maker's token: of which history it is, and what the maker knows of that
pub record TokenOf (S : Type 0) : Type 0 where
  pub id : TableId
  pub known : Known S
