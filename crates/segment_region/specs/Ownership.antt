-- Representation: what the owner of the places of a region's memory owns and lends, at values of the row R.
use Rattle.std.specs.Prelude.{ℕ, ◌+◌, ◌*◌, ◌^◌, List, [], ◌∷◌, length, Option, Some, None}
use Rattle.std.specs.Mem.{type_size}
use base.Fraction.{full_share}
use base.Fml.{Lft, Fml, ftrue, ffalse, fsep, flt, froom}
use mir.Syntax.{Ty, ty_array}
use mir.Raw.{raw}
use denote.RattleType.{RattleType}
use denote.Memory.{lone, part_at, shared_of}
use denote.Sharing.{nothing, said, beside}
use denote.RawPtr.{Ptr, block_ptr, null_ptr}

module _ (R : RattleType) where
  -- owning the place at a byte of a block of memory: its value, or room for one
  abbrev pub place_owned : ℕ → ℕ → Option R.Denot → Fml
  place_owned block byte (Some value) = part_at R full_share value block byte
  place_owned block byte None = froom (raw (lone R.mir)) block byte

  -- owning places side by side, from a byte of a block on
  abbrev pub row_owned : ℕ → ℕ → List (Option R.Denot) → Fml
  row_owned block byte [] = ftrue
  row_owned block byte (place ∷ places) = fsep (place_owned block byte place) (row_owned block (byte + type_size R) places)

  -- the places take fewer than 2 ^ 63 bytes
  abbrev pub fits : List (Option R.Denot) → Fml
  fits places = flt (length places * type_size R) (2 ^ 63)

  -- owning the places that begin at a pointer
  abbrev pub places_owned : Ptr → List (Option R.Denot) → Fml
  places_owned (block_ptr block byte) places = fsep (fits places) (row_owned block byte places)
  places_owned null_ptr places = ffalse

  -- what a `&` to the owner may read of a place: its value, and nothing of an empty one
  abbrev pub place_lent : ℕ → ℕ → Option R.Denot → Lft → Fml
  place_lent block byte (Some value) = shared_of R value block byte
  place_lent block byte None = nothing

  -- what a `&` to the owner may read of places side by side, from a byte of a block on
  abbrev pub row_lent : ℕ → ℕ → List (Option R.Denot) → Lft → Fml
  row_lent block byte [] = nothing
  row_lent block byte (place ∷ places) = beside (place_lent block byte place) (row_lent block (byte + type_size R) places)

  -- what a `&` to the owner may read of the places that begin at a pointer
  abbrev pub places_lent : Ptr → List (Option R.Denot) → Lft → Fml
  places_lent (block_ptr block byte) places = beside (said (fits places)) (row_lent block byte places)
  places_lent null_ptr places = said ffalse

  -- owning the allocator's token for an allocation of `count` places
  abbrev pub title_owned : (Ty → Ptr → Fml) → Ptr → ℕ → Fml
  title_owned token at count = token (raw (ty_array (lone R.mir) count)) at
