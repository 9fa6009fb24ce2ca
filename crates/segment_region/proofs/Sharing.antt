-- A `&` to the cells of a region's memory can be made of a loan of them, copied, and used for a shorter time: so for
-- each place.
use Rattle.segment_region.proofs.Common.{ℕ, ◌+◌, Option, Some, None, type_size, Ura, Lft, Incl, ftrue, ffalse, Logic, RattleType, RowLaws, Laws, Ptr, block_ptr, null_ptr, ShrLaws, said, beside_shr_laws, nothing_shr_laws, said_shr_laws, Shares-less, Lends, Lends-both, Lends-nothing, Lends-said, Lends-false, place_owned, place_lent, row_owned, row_lent, fits, places_owned, places_lent}
use Rattle.std.specs.Prelude.{List, [], ◌∷◌}

module _ (R : RattleType) (shared : RowLaws R) where
  place-laws : (block byte : ℕ) (place : Option R.Denot) → ShrLaws (place_lent R block byte place)
  place-laws block byte None = nothing_shr_laws
  place-laws block byte (Some value) = shared value block byte

  row-laws : (block byte : ℕ) (places : List (Option R.Denot)) → ShrLaws (row_lent R block byte places)
  row-laws block byte [] = nothing_shr_laws
  row-laws block byte (place ∷ places) =
      beside_shr_laws _ _ (place-laws block byte place) (row-laws block (byte + type_size R) places)

  pub lent-laws : (at : Ptr) (places : List (Option R.Denot)) → ShrLaws (places_lent R at places)
  lent-laws null_ptr places = said_shr_laws ffalse tt
  lent-laws (block_ptr block byte) places =
      beside_shr_laws _ _ (said_shr_laws (fits R places) tt) (row-laws block byte places)

module _ {M : Type 1} {𝓤 : Ura M} (𝓛 : Logic 𝓤) (l : Lft) (R : RattleType) (laws : Laws R) (lives : Incl l R.lives) where
  place-lends : (block byte : ℕ) (place : Option R.Denot) → Lends 𝓛 (place_owned R block byte place) (place_lent R block byte place) l
  place-lends block byte None = Lends-nothing 𝓛 (place_owned R block byte None) l
  place-lends block byte (Some value) = λ κ share. Shares-less 𝓛 R R.lives l lives (laws.shares 𝓛) value κ share block byte

  row-lends : (block byte : ℕ) (places : List (Option R.Denot)) → Lends 𝓛 (row_owned R block byte places) (row_lent R block byte places) l
  row-lends block byte [] = Lends-nothing 𝓛 ftrue l
  row-lends block byte (place ∷ places) =
      let next = byte + type_size R in
      Lends-both 𝓛 (place_owned R block byte place) (row_owned R block next places) (place_lent R block byte place) (row_lent R block next places) l
      (place-lends block byte place) (row-lends block next places)

  pub cells-lend : (at : Ptr) (places : List (Option R.Denot)) → Lends 𝓛 (places_owned R at places) (places_lent R at places) l
  cells-lend null_ptr places = Lends-false 𝓛 (said ffalse) l
  cells-lend (block_ptr block byte) places =
      Lends-both 𝓛 (fits R places) (row_owned R block byte places) (said (fits R places)) (row_lent R block byte places) l
      (Lends-said 𝓛 (fits R places) tt l) (row-lends block byte places)
