-- The owners of a region's memory may cross threads where what they own may.
use Rattle.segment_region.proofs.Common.{Option, Some, None, type_size, full_share, Keyless, RattleType, Ptr, block_ptr, null_ptr, exits_of, shape, fields, to, IsSend, IsSync, Common, AllSend, part_keyless, owning_send, struct_send, struct_sync, sendable, Ghosts, FreesAnywhere, quiet, row_owned, row_lent, places_owned, places_lent}
use Rattle.std.specs.Prelude.{ℕ, ◌+◌, List, [], ◌∷◌}
use Rattle.segment_region.specs.contracts.cells.Cells as CellsType
use Rattle.segment_region.specs.contracts.cells.Title as TitleType

module _ (R : RattleType) (send : IsSend R) where
  row-moves : (block byte : ℕ) (places : List (Option R.Denot)) → Keyless (row_owned R block byte places)
  row-moves block byte [] = tt
  row-moves block byte (None ∷ places) = (tt, row-moves block (byte + type_size R) places)
  row-moves block byte (Some value ∷ places) = (part_keyless R send full_share value block byte, row-moves block (byte + type_size R) places)

  places-move : (at : Ptr) (places : List (Option R.Denot)) → Keyless (places_owned R at places)
  places-move null_ptr places = tt
  places-move (block_ptr block byte) places = (tt, row-moves block byte places)

  pub cells-move : IsSend (CellsType.the_row R)
  cells-move =
      let type = CellsType.the_type R in let all : AllSend (fields type) = (search sendable, tt) in
      owning_send type all (λ cells. places-move cells.at cells.slots) (λ k. quiet (to type) (exits_of k (fields type)) ((struct_send (shape type) all).leaving k))

module _ (R : RattleType) (sync : IsSync R) where
  row-shows : (block byte : ℕ) (places : List (Option R.Denot)) → Common (row_lent R block byte places)
  row-shows block byte [] κ = tt
  row-shows block byte (None ∷ places) κ = (tt, row-shows block (byte + type_size R) places κ)
  row-shows block byte (Some value ∷ places) κ = (sync.shared value block byte κ, row-shows block (byte + type_size R) places κ)

  places-show : (at : Ptr) (places : List (Option R.Denot)) → Common (places_lent R at places)
  places-show null_ptr places κ = tt
  places-show (block_ptr block byte) places κ = (tt, row-shows block byte places κ)

  pub cells-show : IsSync (CellsType.the_row R)
  cells-show =
      let type = CellsType.the_type R in
      record { shared = λ cells block byte κ. ((struct_sync (shape type) (search sendable, tt)).shared (to type cells) block byte κ, places-show cells.at cells.slots κ) }

module _ (R A : RattleType) (g : Ghosts A.Denot) where
  pub title-moves : FreesAnywhere A.Denot g → IsSend (TitleType.the_row R A g)
  title-moves anywhere =
      let type = TitleType.the_type R A g in let all : AllSend (fields type) = (search sendable, tt) in
      owning_send type all (λ title. anywhere.frees title.alloc _ title.at) (λ k. quiet (to type) (exits_of k (fields type)) ((struct_send (shape type) all).leaving k))

  pub title-shows : IsSync (TitleType.the_row R A g)
  title-shows =
      let type = TitleType.the_type R A g in
      record { shared = λ title block byte κ. ((struct_sync (shape type) (search sendable, tt)).shared (to type title) block byte κ, tt) }
