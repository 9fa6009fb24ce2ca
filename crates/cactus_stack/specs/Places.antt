-- Representation: how a cactus stack keeps its nodes: a place for each number, and a chain of segments for each node
-- that begins with the segment of its number.
use Rattle.std.specs.Prelude.{◌≡◌, ◌≢◌, ℕ, zero, suc, ◌+◌, ◌-◌, ◌*◌, ◌≤◌, List, [], ◌∷◌, length, take, drop, Option, Some, None, replicate, slice_index_or, slice_set, sum_by}
use Rattle.segment_region.specs.Segments.{Segments, taken_count}
use Rattle.cactus_stack.specs.Nodes.{Node, Nodes, charge, node_words, node_parent, IsOpen, IsSight}
use Rattle.cactus_stack.specs.Chains.{chain, content, AreApart, IsChain}
use Rattle.cactus_stack.specs.declared.place.Place.{Place}

-- the place (length 0, no parent, depth 0) that stands for a node whose number is too high
abbrev pub nowhere : Place
nowhere = record { len = 0; parent = None; depth = 0 }

-- the place of a number: its node's length (0 where no node has the number), parent and depth
abbrev pub place_at : List Place → ℕ → Place
place_at places number = slice_index_or places number nowhere

-- the length of the node of a number; 0 where no node has it
abbrev pub len_at : List Place → ℕ → ℕ
len_at places number = (place_at places number).len

-- a node's place, with another number of words
abbrev pub resized : Place → ℕ → Place
resized place len = record { len = len; parent = place.parent; depth = place.depth }

-- the places with this length under the number, and all else as it was
abbrev pub with_len : List Place → ℕ → ℕ → List Place
with_len places number len = slice_set places number (resized (place_at places number) len)

-- how many segments the node at a place takes
abbrev pub charge_of_place : Place → ℕ
charge_of_place place = charge place.len

-- the segments of the node of this number and length: the chain that begins with the segment of that number
abbrev pub segments_of : Segments → ℕ → ℕ → List ℕ
segments_of region number len = chain (charge len) region (Some number)

-- the words of the node of this number and length
abbrev pub words_in_chain : Segments → ℕ → ℕ → List ℕ
words_in_chain region number len = take len (content region (segments_of region number len))

-- the entry of a number whose node has this length and parent; None where the length is 0
abbrev pub node_in : Segments → ℕ → ℕ → Option ℕ → Option Node
node_in region number zero parent = None
node_in region number (suc len) parent = Some (record { parent = parent; words = words_in_chain region number (suc len) })

-- the entries of the numbers from `number` on, given the place of each
abbrev pub nodes_from : Segments → ℕ → List Place → Nodes
nodes_from region number [] = []
nodes_from region number (place ∷ places) = node_in region number place.len place.parent ∷ nodes_from region (suc number) places

-- the words of this number and length are sound: they are at most 128, and their segments are a chain as long as their
-- charge, with zeros after the words
pub record IsSoundList (region : Segments) (number len : ℕ) : Type 0 where
  pub at_most : len ≤ 128
  pub is_chain : IsChain region (segments_of region number len) (charge len)
  pub zeros : drop len (content region (segments_of region number len)) ≡ replicate (16 * charge len - len) 0

-- the words of each node are sound, no segment belongs to two nodes, and each taken segment belongs to one
pub record AreStored (region : Segments) (places : List Place) : Type 0 where
  pub in_limits : length places ≤ 65536
  pub same_count : length places ≡ length region
  pub counted : taken_count region ≡ sum_by charge_of_place places
  pub sound : (n : ℕ) → IsSoundList region n (len_at places n)
  pub apart : (m n : ℕ) → m ≢ n → AreApart (segments_of region m (len_at places m)) (segments_of region n (len_at places n))

-- a node with this parent may be at this depth: a root is at depth 1, and a child one deeper than its parent, which is
-- open
abbrev pub IsUnder : Nodes → List Place → Option ℕ → ℕ → Type 0
IsUnder nodes places None depth = depth ≡ 1
IsUnder nodes places (Some parent) depth = IsOpen nodes parent × (depth ≡ (place_at places parent).depth + 1)

-- each open node is a root at depth 1, or one deeper than its parent, which is open too
abbrev pub IsForest : Nodes → List Place → Type 0
IsForest nodes places = (n : ℕ) → IsOpen nodes n → IsUnder nodes places (node_parent nodes n) (place_at places n).depth

-- the invariant of a cactus stack: its places and its region's segments keep the nodes that it stands for
pub record IsStack (region : Segments) (places : List Place) : Type 0 where
  pub stored : AreStored region places
  pub tree : IsForest (nodes_from region 0 places) places

-- the words of a node and of its ancestors, nearest first, for at most `levels` levels
abbrev pub sight_within : ℕ → Nodes → Option ℕ → List (List ℕ)
sight_within zero nodes from = []
sight_within (suc levels) nodes None = []
sight_within (suc levels) nodes (Some number) = node_words nodes number ∷ sight_within levels nodes (node_parent nodes number)

-- what the node sees has exactly `levels` levels
pub record IsWholeSight (nodes : Nodes) (node levels : ℕ) : Type 0 where
  pub is_sight : IsSight nodes (Some node) (sight_within levels nodes (Some node))
  pub all_levels : length (sight_within levels nodes (Some node)) ≡ levels
