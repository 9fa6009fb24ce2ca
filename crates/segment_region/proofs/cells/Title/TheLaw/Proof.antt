-- The right to give a region's memory back (`Title`): a `&` to it holds nothing.
use Rattle.segment_region.proofs.Common.{RattleType, RawPtr, Laws, copy_shared, nothing_shr_laws, field_copy, of_Lends, Lends-nothing, Ghosts}
use Rattle.core.specs.contracts.marker.PhantomData as mark
use Rattle.segment_region.specs.contracts.cells.Title as title
use Rattle.segment_region.proofs.cells.Title.TheLaw.Statement.{statement}

pub shares : (T A : RattleType) (g : Ghosts A.Denot) (of_T : Laws T) (of_A : Laws A) → statement T A g of_T of_A
shares T A g of_T of_A =
    of_Lends (title.struct T A g) (title.the_codes T.Denot A.Denot T.coded A.coded (mark.the_row RawPtr).coded) (title.the_heap T A g) (title.the_lent T A g)
    (λ d place. nothing_shr_laws) (copy_shared (mark.the_field RawPtr) (field_copy (mark.the_type RawPtr) tt), tt)
    (λ M 𝓤 𝓛 d place. Lends-nothing 𝓛 (title.the_heap T A g d) (title.the_row T A g).lives)
