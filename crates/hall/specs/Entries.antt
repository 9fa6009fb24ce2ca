-- Representation: what the entries of a tenant's journal in the hall stand for.
use Rattle.std.specs.Prelude.{ℕ, ◌+◌, Bool, true, false, if◌then◌else◌, List, [], ◌∷◌, ◌++◌, map, take, drop}
use Rattle.sched_rules.specs.declared.step.StepOf.{StepOf}
use Rattle.sched_rules.specs.declared.step.StepOf.TheVariants.{Admit, AdmitMore, Submit, Take, Steal, Advance, Answer, Inlet, Finish, Spend, Cancel}
use Rattle.frame_table.specs.declared.names.FrameId.{FrameId}
use Rattle.jamboree_core.specs.jamboree_rules.declared.leaf.LeafAnswer.{LeafAnswer}
use Rattle.jamboree_core.specs.jamboree_rules.Places.{root_words, frame_size}
use Rattle.hall.specs.declared.entry.JournalEntry.{JournalEntry}
use Rattle.hall.specs.declared.entry.JournalEntry.TheVariants.{Taken, Stolen, Advanced, TakenIn, Finished, Spent, Long}
use Rattle.hall.specs.declared.entry.LongEntry.{LongEntry}
use Rattle.hall.specs.declared.entry.LongEntry.TheVariants.{Admitted, Raised, Asked, Answered, Cancelled}

-- the name of the tenant's frame with this serial
abbrev pub frame_name : ℕ → ℕ → FrameId
frame_name number serial = record { tenant = number; serial = serial }

-- whether an entry marks a step that is kept in a long entry
abbrev pub is_long : JournalEntry → Bool
is_long Long = true
is_long _ = false

-- whether a step is kept in a long entry
abbrev pub is_long_step : {A : Type 0} → StepOf A → Bool
is_long_step (Admit number quota) = true
is_long_step (AdmitMore number quota) = true
is_long_step (Submit number words size) = true
is_long_step (Answer worker name answer) = true
is_long_step (Cancel number job) = true
is_long_step _ = false

-- how many of these steps are kept in a long entry
abbrev pub long_steps : {A : Type 0} → List (StepOf A) → ℕ
long_steps [] = 0
long_steps (step ∷ steps) = (if is_long_step step then 1 else 0) + long_steps steps

-- the tenant's step that a short entry stands for, alone in a list; none where the entry marks a long one
abbrev pub short_steps : ℕ → JournalEntry → List (StepOf LeafAnswer)
short_steps number (Taken worker serial) = Take worker (frame_name number serial) ∷ []
short_steps number (Stolen worker from serial) = Steal worker from (frame_name number serial) ∷ []
short_steps number (Advanced worker serial) = Advance worker (frame_name number serial) ∷ []
short_steps number (TakenIn worker serial) = Inlet worker (frame_name number serial) ∷ []
short_steps number (Finished worker serial) = Finish worker (frame_name number serial) ∷ []
short_steps number (Spent serial) = Spend (frame_name number serial) ∷ []
short_steps number Long = []

-- the tenant's step that a long entry stands for
abbrev pub long_step : ℕ → LongEntry → StepOf LeafAnswer
long_step number (Admitted reserve) = Admit number reserve
long_step number (Raised reserve) = AdmitMore number reserve
long_step number (Asked depth own opp) = Submit number (root_words own opp depth) frame_size
long_step number (Answered worker serial answer) = Answer worker (frame_name number serial) answer
long_step number (Cancelled job) = Cancel number job

-- the tenant's steps that these entries and long entries stand for, in order: each short entry its own, and each
-- other the next long entry's
abbrev pub steps_in : ℕ → List JournalEntry → List LongEntry → List (StepOf LeafAnswer)
steps_in number [] longs = []
steps_in number (entry ∷ entries) longs =
    if is_long entry then map (long_step number) (take 1 longs) ++ steps_in number entries (drop 1 longs)
    else short_steps number entry ++ steps_in number entries longs

-- how many of these entries mark a long one
abbrev pub long_count : List JournalEntry → ℕ
long_count [] = 0
long_count (entry ∷ entries) = (if is_long entry then 1 else 0) + long_count entries

-- the serial of the frame that a step names; 0 where it names none
abbrev pub serial_in : {A : Type 0} → StepOf A → ℕ
serial_in (Take worker name) = name.serial
serial_in (Steal worker from name) = name.serial
serial_in (Advance worker name) = name.serial
serial_in (Answer worker name answer) = name.serial
serial_in (Inlet worker name) = name.serial
serial_in (Finish worker name) = name.serial
serial_in (Spend name) = name.serial
serial_in _ = 0
