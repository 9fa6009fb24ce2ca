-- Representation: what the places of a region's memory end as, once one of them was lent.
use Rattle.std.specs.Prelude.{ℕ, slice_set, Some}
use Rattle.std.specs.Borrow.{Fml, RattleType, MutBor, Lends}
use Rattle.segment_region.specs.declared.cells.Cells.{Cells}
use Rattle.segment_region.specs.contracts.cells.Cells.{the_row}

-- the places of a region's memory, one of which now has this value
abbrev pub with_place : {X : Type 0} → Cells X → ℕ → X → Cells X
with_place cells index value = record { mark = cells.mark; at = cells.at; slots = slice_set cells.slots index (Some value) }

-- when the loan of `value` ends, the place at `index` holds what the borrower left, and all other places are as before
abbrev pub LendsPlace : (R : RattleType) → MutBor (Cells R.Denot) → ℕ → MutBor R.Denot → Fml
LendsPlace R cells index value = Lends (the_row R) R cells value (with_place cells.now index)
