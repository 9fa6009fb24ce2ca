-- The owner of a region's memory (`Cells`): a `&` to it reaches what lies in each place.
use Rattle.segment_region.proofs.Common.{[], ◌++◌, Incl-trans, meet_⊑_left, RattleType, RawPtr, Laws, copy_shared, field_copy, of_Lends}
use Rattle.core.specs.contracts.marker.PhantomData as mark
use Rattle.segment_region.specs.contracts.cells.Cells as cells
use Rattle.segment_region.proofs.cells.Cells.TheLaw.Statement.{statement}
use Rattle.segment_region.proofs.Sharing.{lent-laws, cells-lend}

pub shares : (R : RattleType) (laws : Laws R) → statement R laws
shares R laws =
    let lives = Incl-trans (meet_⊑_left (R.lives ++ []) _) (meet_⊑_left R.lives []) in
    of_Lends (cells.struct R) (cells.the_codes R.Denot R.coded (mark.the_row RawPtr).coded) (cells.the_heap R) (cells.the_lent R)
    (λ c place. lent-laws R laws.shr_laws c.at c.slots) (copy_shared (mark.the_field RawPtr) (field_copy (mark.the_type RawPtr) tt), tt)
    (λ M 𝓤 𝓛 c place. cells-lend 𝓛 (cells.the_row R).lives R laws lives c.at c.slots)
