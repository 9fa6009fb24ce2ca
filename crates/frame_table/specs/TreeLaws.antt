-- Representation: what the laws of a tenant's tree speak of: a child by its path alone, frames that rise, frames with
-- other values.
use Rattle.std.specs.Prelude.{◌≡◌, ℕ, Bool, false, ◌==◌, List, [], ◌∷◌, Option, Some, None, if◌then◌else◌, map}
use Rattle.numbered_list.specs.Places.{AreAbove, AreRising as AreRisingBy}
use Rattle.frame_table.specs.Frames.{Frame, parent_of}

-- whether a frame has a parent, and the parent's serial is this
abbrev pub is_that : ℕ → Option ℕ → Bool
is_that serial None = false
is_that serial (Some parent) = parent == serial

-- whether this is the path of a child of the frame of this serial: its last serial but one is that
abbrev pub is_child_of : ℕ → List ℕ → Bool
is_child_of serial path = is_that serial (parent_of path)

-- each frame's serial is above this number
abbrev pub AllAboveSerial : {T : Type 0} → ℕ → List (Frame T) → Type 0
AllAboveSerial serial frames = AreAbove (λ frame. frame.serial) serial frames

-- frames by rising serial, so that no serial stands twice
abbrev pub AreSerialsRising : {T : Type 0} → List (Frame T) → Type 0
AreSerialsRising frames = AreRisingBy (λ frame. frame.serial) frames

-- the property P holds of each of these frames
abbrev pub Each : {T : Type 0} → (Frame T → Type 0) → List (Frame T) → Type 0
Each P [] = Unit {0}
Each P (frame ∷ frames) = P frame × Each P frames

-- this frame, if there is one and it passes the test; else none
abbrev pub if_kept : {T : Type 0} → (Frame T → Bool) → Option (Frame T) → Option (Frame T)
if_kept keep None = None
if_kept keep (Some frame) = if keep frame then Some frame else None

-- the frame with a function applied to the value that it keeps
abbrev pub map_value : {T U : Type 0} → (T → U) → Frame T → Frame U
map_value change frame = record { serial = frame.serial; path = frame.path; state = frame.state; value = change frame.value }

-- frames, each with change applied to its value
abbrev pub map_values : {T U : Type 0} → (T → U) → List (Frame T) → List (Frame U)
map_values change frames = map (map_value change) frames

-- two lists of frames with the same serials and paths, one by one; states and values may differ
abbrev pub AreAlike : {T U : Type 0} → List (Frame T) → List (Frame U) → Type 0
AreAlike [] [] = Unit {0}
AreAlike [] (other ∷ others) = ⊥
AreAlike (frame ∷ frames) [] = ⊥
AreAlike (frame ∷ frames) (other ∷ others) = (other.serial ≡ frame.serial) × (other.path ≡ frame.path) × AreAlike frames others
