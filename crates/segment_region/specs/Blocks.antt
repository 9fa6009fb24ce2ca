-- Representation: how a region keeps its segments: a block for each number, whose link words chain the free ones.
use Rattle.std.specs.Prelude.{◌≡◌, ℕ, zero, suc, ◌+◌, ◌<◌, ◌≤◌, Bool, true, false, if◌then◌else◌, List, [], ◌∷◌, length, Option, Some, None, slice_index_or}
use Rattle.segment_region.specs.Segments.{Segment, Segments, taken_count}
use Rattle.segment_region.specs.Places.{IsFilled}
use Rattle.segment_region.specs.declared.block.Link.{Link}
use Rattle.segment_region.specs.declared.block.Block.{Block}
use Rattle.segment_region.specs.declared.cells.Base.{Base}
use Rattle.segment_region.specs.declared.cells.Cells.{Cells}
use Rattle.segment_region.specs.declared.cells.Title.{Title}

-- a block of a region's memory: sixteen words and a link word
abbrev pub WordBlock : Type 0
WordBlock = Block (List ℕ)

-- the block that a link word leads to; None where it leads to none
abbrev pub next_of : Link → Option ℕ
next_of link = if link.chained then Some link.next else None

-- the link word says whether its block is taken, and which block comes after it, if one does
abbrev pub IsLink : Link → Bool → Option ℕ → Type 0
IsLink link taken next = (link.taken ≡ taken) × (next_of link ≡ next)

-- the entry that a block's link and words stand for: a segment where the block is taken, else None
abbrev pub segment_of_block : Link → List ℕ → Option Segment
segment_of_block link words = if link.taken then Some (record { words = words; link = next_of link }) else None

-- the entry that a place of the region's memory stands for; None where nothing was written there
abbrev pub place_entry : Option WordBlock → Option Segment
place_entry None = None
place_entry (Some block) = segment_of_block block.link block.words

-- the entries of the places: from the mark on all are free, whatever lies there
abbrev pub segments_of_blocks : ℕ → List (Option WordBlock) → Segments
segments_of_blocks mark [] = []
segments_of_blocks zero (place ∷ places) = None ∷ segments_of_blocks zero places
segments_of_blocks (suc mark) (place ∷ places) = place_entry place ∷ segments_of_blocks mark places

-- the link word at a place; where nothing was written, one that says taken, so that no list of free blocks leads there
abbrev pub place_link : Option WordBlock → Link
place_link None = record { taken = true; chained = false; next = 0 }
place_link (Some block) = block.link

-- the link word in the block of the segment with this number
abbrev pub link_in : List (Option WordBlock) → ℕ → Link
link_in places number = place_link (slice_index_or places number None)

-- the links of free blocks lead from `head` through `count` blocks, all below the mark, and end there
abbrev pub IsFreeList : ℕ → List (Option WordBlock) → Option ℕ → ℕ → Type 0
IsFreeList mark places head zero = head ≡ None
IsFreeList mark places None (suc count) = ⊥
IsFreeList mark places (Some number) (suc count) = (number < mark) × ((link_in places number).taken ≡ false) × IsFreeList mark places (next_of (link_in places number)) count

-- the invariant of a region of `count` blocks: those from `mark` on are free; of those below it just `listed` are
-- free, and the link `free` leads through all of them; each place below the mark holds a block
pub record IsWhole (places : List (Option WordBlock)) (count mark : ℕ) (free : Link) (listed : ℕ) : Type 0 where
  pub all_places : length places ≡ count
  pub in_limits : count ≤ 65536
  pub below : mark ≤ count
  pub filled : (n : ℕ) → n < mark → IsFilled places n
  pub counted : listed + taken_count (segments_of_blocks mark places) ≡ mark
  pub is_free : free.taken ≡ false
  pub chain : IsFreeList mark places (next_of free) listed

-- the places, and the right to free them, are of one allocation of `count` blocks by `alloc`, which begins at the base
abbrev pub IsOneAllocation : {A : Type 0} → Base WordBlock → Cells WordBlock → Title WordBlock A → ℕ → A → Type 0
IsOneAllocation base cells title count alloc = (cells.at ≡ base.ptr) × (title.at ≡ base.ptr) × (title.len ≡ count) × (title.alloc ≡ alloc)

-- the cells begin at the base, and each place below the mark holds a block
abbrev pub IsReadable : Base WordBlock → Cells WordBlock → ℕ → Type 0
IsReadable base cells mark = (cells.at ≡ base.ptr) × ((n : ℕ) → n < mark → IsFilled cells.slots n)
