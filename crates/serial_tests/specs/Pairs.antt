-- Representation: a cactus stack with a root and one child of it, as the tests have it.
use Rattle.std.specs.Prelude.{◌≡◌, ◌≢◌, ℕ, length, Some, None}
use Rattle.cactus_stack.specs.Nodes.{Nodes, node_at, node_words, node_parent, IsOpen}

-- two nodes are open: a root of so many words, and a child of it of so many
pub record IsPair (nodes : Nodes) (root child root_words child_words : ℕ) : Type 0 where
  pub root_is_open : IsOpen nodes root
  pub child_is_open : IsOpen nodes child
  pub root_len : length (node_words nodes root) ≡ root_words
  pub child_len : length (node_words nodes child) ≡ child_words
  pub root_parent : node_parent nodes root ≡ None
  pub child_parent : node_parent nodes child ≡ Some root
  pub apart : root ≢ child
  pub alone : (other : ℕ) → other ≢ root → other ≢ child → node_at nodes other ≡ None
