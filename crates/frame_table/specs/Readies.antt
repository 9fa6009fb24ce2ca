-- Representation: the ready frames of one tenant in the frame table, by rising serial.
use Rattle.std.specs.Prelude.{◌≡◌, ℕ, ◌≤◌, ◌==◌, not, filter, if◌then◌else◌, length, List, [], ◌∷◌, Option, Some, None}
use Rattle.frame_table.specs.declared.names.State.{State}
use Rattle.frame_table.specs.declared.names.State.TheVariants.{Ready as ReadyAt, Running, Computing, Waiting, Returned}
use Rattle.frame_table.specs.declared.slot.Slot.{Slot}
use Rattle.frame_table.specs.declared.ready.ReadyFrame.{ReadyFrame}
use Rattle.frame_table.specs.Frames.{first_of_two, is_ready}
use Rattle.numbered_list.specs.Places.{inserted}
use Rattle.frame_table.specs.Slots.{KeepsTree, frames_from, serials_of}
use Rattle.frame_table.specs.Windows.{PlacedList}

-- a list of ready frames with the frame of this serial in front, if it is in the state Ready
abbrev pub with_ready : ℕ → State → List ReadyFrame → List ReadyFrame
with_ready serial (ReadyAt home) frames = record { serial = serial; home = home } ∷ frames
with_ready serial (Running worker) frames = frames
with_ready serial (Computing worker) frames = frames
with_ready serial Waiting frames = frames
with_ready serial Returned frames = frames

-- the ready frames among these slots, in their order
abbrev pub ready_in : {T : Type 0} → List (Slot T) → List ReadyFrame
ready_in [] = []
ready_in (slot ∷ slots) = with_ready slot.serial slot.state (ready_in slots)

-- a tenant's ready frames once the frame of this serial has left this state: without it if the state was Ready, else
-- as they were
abbrev pub without_ready : ℕ → State → List ReadyFrame → List ReadyFrame
without_ready serial was frames = if is_ready was then filter (λ frame. not (frame.serial == serial)) frames else frames

-- a tenant's ready frames once the frame of this serial has come to this state: with it, in order, if the state is
-- Ready, else as they were
abbrev pub put_ready : ℕ → State → List ReadyFrame → List ReadyFrame
put_ready serial (ReadyAt home) frames = inserted (λ frame. frame.serial) (record { serial = serial; home = home }) frames
put_ready serial (Running worker) frames = frames
put_ready serial (Computing worker) frames = frames
put_ready serial Waiting frames = frames
put_ready serial Returned frames = frames

-- the last of these ready frames, if there is one
abbrev pub last_ready : List ReadyFrame → Option ReadyFrame
last_ready [] = None
last_ready (frame ∷ frames) = first_of_two (last_ready frames) (Some frame)

-- the invariant of TenantFrames (src/tree.rt): the slots keep the tree of frames that they stand for, and are no more than
-- places; serials and ready are those of the slots; and all lists have room for as many as places
pub record AreTenantFrames {T : Type 0} (slots : List (Slot T)) (places : ℕ) (serials : PlacedList ℕ) (ready : PlacedList ReadyFrame) : Type 0 where
  pub sound : KeepsTree slots (frames_from [] slots)
  pub index : serials.list ≡ serials_of slots
  pub ready_frames : ready.list ≡ ready_in slots
  pub within : length slots ≤ places
  pub few : places ≤ 4096
  pub serial_places : places ≤ serials.places
  pub ready_places : places ≤ ready.places
