-- Representation: the frame table's list in reserved places, which stands behind some that are out of use.
use Rattle.std.specs.Prelude.{ℕ, ◌+◌, ◌*◌, ◌≤◌, List, length}

-- a list of the frame table: how many places are reserved for it, and its elements
pub record PlacedList (T : Type 0) : Type 0 where
  pub places : ℕ
  pub list : List T

-- the invariant of a ListWindow (src/window.rt), whose list is what stands in items from start on: it is no longer than its places (held),
-- which are at most 4096; all items, those before start too, are at most 2 * places + 64 (filled; 64 is SPARE), and the Vec's capacity, room, is at least that
pub record IsWindow {T : Type 0} (items : List T) (start places room : ℕ) : Type 0 where
  pub within : start ≤ length items
  pub held : length items ≤ places + start
  pub few : places ≤ 4096
  pub filled : length items ≤ 2 * places + 64
  pub room_left : 2 * places + 64 ≤ room
