-- Representation: what the core's store keeps true of its parts.
use Rattle.std.specs.Prelude.{◌≡◌, ℕ, ◌+◌, ◌^◌, ◌≤◌, true, List, [], length, Option, Some, None, slice_index_or}
use Rattle.std.specs.List.{AllByRecursion}
use Rattle.cactus_stack.specs.Nodes.{Nodes, IsOpen, node_parent, total_charge}
use Rattle.tenant_quota.specs.Accounts.{owner_of_account, account_of, charged_segments}
use Rattle.tenant_quota.specs.declared.account.Account.{Account}
use Rattle.tenant_quota.specs.Reservations.{IsSoundBook}
use Rattle.frame_table.specs.declared.names.FrameId.{FrameId}
use Rattle.frame_table.specs.Frames.{Frame, frame_at, parent_of, AllBelow, IsTree, TenantTree}
use Rattle.frame_table.specs.Tables.{frames_of, places_of, tenant_count}
use Rattle.sched_rules.specs.Trees.{charged_for, is_held_by}
use Rattle.sched_store.specs.JobLists.{numbers_of, numbers_by}
use Rattle.sched_store.specs.Parts.{Parts, with_words_of_nodes}

-- the frame of this serial in the tree of the tenant of this number, if there is one
abbrev pub frame_in_trees : List (TenantTree ℕ) → ℕ → ℕ → Option (Frame ℕ)
frame_in_trees trees number serial = frame_at (frames_of trees number) serial

-- the stack's node of a frame, if there is the frame
abbrev pub node_of : Option (Frame ℕ) → Option ℕ
node_of None = None
node_of (Some frame) = Some frame.value

-- the node of the frame that is the parent, if there is a parent
abbrev pub node_above : List (Frame ℕ) → Option ℕ → Option ℕ
node_above frames None = None
node_above frames (Some parent) = node_of (frame_at frames parent)

-- a frame's node is open, under the node of the frame's parent
pub record IsFrameNode (nodes : Nodes) (frames : List (Frame ℕ)) (frame : Frame ℕ) : Type 0 where
  pub is_open : IsOpen nodes frame.value
  pub parent : node_parent nodes frame.value ≡ node_above frames (parent_of frame.path)

-- some frame of some tenant has this node
pub record HasFrame (trees : List (TenantTree ℕ)) (node : ℕ) : Type 0 where
  pub number : ℕ
  pub serial : ℕ
  pub frame : Frame ℕ
  pub there : frame_in_trees trees number serial ≡ Some frame
  pub value : frame.value ≡ node

-- frames and open nodes are one to one: each frame has an open node, no two share one, and each open node is a frame's
pub record AreFramesNodes (nodes : Nodes) (trees : List (TenantTree ℕ)) : Type 0 where
  pub nodes_of_frames : (number serial : ℕ) (frame : Frame ℕ) → frame_in_trees trees number serial ≡ Some frame → IsFrameNode nodes (frames_of trees number) frame
  pub once : (number serial other_number other_serial : ℕ) (frame other : Frame ℕ) → frame_in_trees trees number serial ≡ Some frame → frame_in_trees trees other_number other_serial ≡ Some other →
      frame.value ≡ other.value → (number ≡ other_number) × (serial ≡ other_serial)
  pub no_other : (node : ℕ) → IsOpen nodes node → HasFrame trees node

-- a tenant's account and its frames agree: it is charged for its frames, has as many places for them as segments, and their serials were given
pub record IsAccountFor (nodes : Nodes) (trees : List (TenantTree ℕ)) (number : ℕ) (account : Account) : Type 0 where
  pub charged : account.charged ≡ charged_for (with_words_of_nodes nodes (frames_of trees number))
  pub places : places_of trees number ≡ account.reserve.segments
  pub serials : AllBelow (account.opened + 1) (frames_of trees number)

-- a number's account agrees with its frames; a number without an account has no place for a frame, and no frame
abbrev pub AgreesWith : Nodes → List (TenantTree ℕ) → ℕ → Option Account → Type 0
AgreesWith nodes trees number None = (places_of trees number ≡ 0) × (frames_of trees number ≡ [])
AgreesWith nodes trees number (Some account) = IsAccountFor nodes trees number account

-- a worker that holds a frame has that frame's name at its place
abbrev pub ArePlaces : List (TenantTree ℕ) → List (Option FrameId) → Type 0
ArePlaces trees places = (worker number serial : ℕ) (frame : Frame ℕ) → frame_in_trees trees number serial ≡ Some frame → is_held_by worker frame.state ≡ true →
    (1 ≤ worker) × (worker ≤ 32) × (slice_index_or places worker None ≡ Some (record { tenant = number; serial = serial }))

-- the tenants' numbers, in the order of their accounts
abbrev pub numbers_in : List (ℕ × Account) → List ℕ
numbers_in entries = numbers_by owner_of_account entries

-- no account of the book has a number above this one
abbrev pub AreAtMost : ℕ → List (ℕ × Account) → Type 0
AreAtMost most entries = AllByRecursion (λ entry. entry.0 ≤ most) entries

-- the invariant of a Store (src/store.rt), by its parts
pub record IsStored (parts : Parts) : Type 0 where
  -- each account within its reservation, all within the totals
  pub book : IsSoundBook parts.book
  -- each frame has one open node, and each open node one frame
  pub frames_nodes : AreFramesNodes parts.nodes parts.trees
  -- each tenant's account agrees with its frames, and a number without an account has none
  pub accounts : (number : ℕ) → AgreesWith parts.nodes parts.trees number (account_of number parts.book.accounts)
  -- each tenant's frames are a tree
  pub forest : (number : ℕ) → IsTree (frames_of parts.trees number)
  -- as many trees of frames as accounts
  pub tenants : tenant_count parts.trees ≡ length parts.book.accounts
  -- the segments of all nodes are those charged to all accounts
  pub charges : total_charge parts.nodes ≡ charged_segments parts.book.accounts
  -- as many places for nodes as segments in the total
  pub segments : length parts.nodes ≡ parts.book.segments
  -- a list of jobs for each account, in the same order
  pub job_lists : numbers_of parts.job_lists ≡ numbers_in parts.book.accounts
  -- a worker that holds a frame has its name at its place
  pub places : ArePlaces parts.trees parts.places
  -- no tenant's number is above the greatest so far
  pub taken : AreAtMost parts.newest parts.book.accounts
  -- the greatest number so far is at most 2^62
  pub newest : parts.newest ≤ 2 ^ 62
