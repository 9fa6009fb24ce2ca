-- Meaning: what a cactus stack is to its users: a list with an entry under each node's number below the count, None
-- where no node is open.
use Rattle.std.specs.Prelude.{◌≡◌, ◌≢◌, ℕ, ◌+◌, ◌-◌, ◌/◌, ◌<◌, List, [], ◌∷◌, ◌++◌, length, Option, Some, None, IsSome, slice_index_or, slice_set, replicate, Contains, sum_by}

-- an open node: the node that it was opened under, if there is one, and its words
pub record Node : Type 0 where
  pub parent : Option ℕ
  pub words : List ℕ

-- the finite map from open nodes: at place n of the list stands the node of number n where it is open, and None where it isn't; there are as many places as segments
abbrev pub Nodes : Type 0
Nodes = List (Option Node)

-- how many segments there are in all, charged or free
abbrev pub segment_count : Nodes → ℕ
segment_count nodes = length nodes

-- how many segments of 16 words hold this many words: a sixteenth of them, rounded up
abbrev pub charge : ℕ → ℕ
charge words = (words + 15) / 16

-- the segments that an entry takes: 0 where no node is open
abbrev pub charge_of : Option Node → ℕ
charge_of None = 0
charge_of (Some node) = charge (length node.words)

-- how many segments all open nodes of a stack take together
abbrev pub total_charge : Nodes → ℕ
total_charge nodes = sum_by charge_of nodes

-- how many segments of a stack no open node takes
abbrev pub free_segments : Nodes → ℕ
free_segments nodes = segment_count nodes - total_charge nodes

-- the further segments that a node of `words` words takes to become longer by `more`
abbrev pub growth_charge : ℕ → ℕ → ℕ
growth_charge words more = charge (words + more) - charge words

-- the node of this number, or None where it isn't open
abbrev pub node_at : Nodes → ℕ → Option Node
node_at nodes number = slice_index_or nodes number None

-- a node of this number is open in the stack
abbrev pub IsOpen : Nodes → ℕ → Type 0
IsOpen nodes number = IsSome (node_at nodes number)

-- the number is one of the stack's, and no node of it is open
abbrev pub IsUnused : Nodes → ℕ → Type 0
IsUnused nodes number = (number < length nodes) × (node_at nodes number ≡ None)

-- the words of an entry; [] where no node is open
abbrev pub words_of_node : Option Node → List ℕ
words_of_node None = []
words_of_node (Some node) = node.words

-- the parent of an entry; None for a root, and where no node is open
abbrev pub parent_of_node : Option Node → Option ℕ
parent_of_node None = None
parent_of_node (Some node) = node.parent

-- the words of the node of a number; [] where none is open
abbrev pub node_words : Nodes → ℕ → List ℕ
node_words nodes number = words_of_node (node_at nodes number)

-- the parent of the node of a number; None for a root, and where no node is open
abbrev pub node_parent : Nodes → ℕ → Option ℕ
node_parent nodes number = parent_of_node (node_at nodes number)

-- the stack with this entry under the number, and every other entry as it was
abbrev pub with_node : Nodes → ℕ → Option Node → Nodes
with_node nodes number entry = slice_set nodes number entry

-- the stack with these words under the number: its parent stays, and so does every other node
abbrev pub with_node_words : Nodes → ℕ → List ℕ → Nodes
with_node_words nodes number words = with_node nodes number (Some (record { parent = node_parent nodes number; words = words }))

-- the words that a new node of this size holds: those that are given, then zeros
abbrev pub padded : List ℕ → ℕ → List ℕ
padded words size = words ++ replicate (size - length words) 0

-- no open node of the stack has this one as its parent
abbrev pub HasNoChild : Nodes → ℕ → Type 0
HasNoChild nodes number = (child : ℕ) → node_parent nodes child ≢ Some number

-- the stack with the nodes of a list closed
abbrev pub without : Nodes → List ℕ → Nodes
without nodes [] = nodes
without nodes (number ∷ numbers) = without (with_node nodes number None) numbers

-- the list has, with each of its nodes, all open children of that node
abbrev pub HasAllChildren : Nodes → List ℕ → Type 0
HasAllChildren nodes numbers = (child parent : ℕ) → node_parent nodes child ≡ Some parent → Contains numbers parent → Contains numbers child

-- what a node sees (Cilk 5.4: a procedure sees its own storage, its parent's and on to more distant ancestors), as a
-- list of levels: its own words, and then what its parent sees; without a node, no level
abbrev pub IsSight : Nodes → Option ℕ → List (List ℕ) → Type 0
IsSight nodes None [] = Unit {0}
IsSight nodes None (words ∷ levels) = ⊥
IsSight nodes (Some number) [] = ⊥
IsSight nodes (Some number) (words ∷ levels) = IsOpen nodes number × (node_words nodes number ≡ words) × IsSight nodes (node_parent nodes number) levels

-- the path of a node: its number and those of its ancestors, nearest first; without a node, []
abbrev pub IsPath : Nodes → Option ℕ → List ℕ → Type 0
IsPath nodes None [] = Unit {0}
IsPath nodes None (number ∷ path) = ⊥
IsPath nodes (Some number) [] = ⊥
IsPath nodes (Some number) (first ∷ path) = (first ≡ number) × IsOpen nodes number × IsPath nodes (node_parent nodes number) path
