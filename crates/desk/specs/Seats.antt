-- Meaning: what contracts see of a tenant's seat at a desk.
use Rattle.std.specs.Prelude.{◌≡◌, ◌≢◌, ℕ, ◌+◌, List, [], ◌∷◌, ◌++◌, length, Result, Ok, Err}
use Rattle.sched_rules.specs.declared.refusal.Refusal.{Refusal}
use Rattle.sched_rules.specs.declared.refusal.Refusal.TheVariants.{NoTenant, NoJobsLeft, Full, OldTenant, OutOfMemory, Lower}
use Rattle.sched_rules.specs.declared.step.StepOf.{StepOf}
use Rattle.hall.specs.jamboree_rules.declared.leaf.LeafAnswer.{LeafAnswer}
use Rattle.atomic_table.specs.Seated.{TableId}
use Rattle.desk.specs.Traces.{Known}
use Rattle.hall.specs.declared.desk_rules.asked.SeatAsked.{SeatAsked}

-- a seat: its tenant, the number of its own steps, what it asked, from job 1 on, and what it knows of the desk's history
pub record SeatOf : Type 0 where
  pub tenant : ℕ
  pub share : ℕ
  pub asked : List SeatAsked
  pub known : Known (StepOf LeafAnswer)

-- what each desk's seat is made of: of which history it knows, and the seat
pub record SeatCoreOf : Type 0 where
  pub id : TableId
  pub seat : SeatOf

-- a seat, once it knows this of the desk's history
abbrev pub seeing : Known (StepOf LeafAnswer) → SeatOf → SeatOf
seeing now seat = record { tenant = seat.tenant; share = seat.share; asked = seat.asked; known = now }

-- a seat after one more of its own steps was taken, once it knows this of the desk's history
abbrev pub stepped : Known (StepOf LeafAnswer) → SeatOf → SeatOf
stepped now seat = record { tenant = seat.tenant; share = seat.share + 1; asked = seat.asked; known = now }

-- the seat after an ask of it was taken: its share is one more, and what was asked stands at the end of its list
abbrev pub with_asked : SeatAsked → Known (StepOf LeafAnswer) → SeatOf → SeatOf
with_asked asked now seat = record { tenant = seat.tenant; share = seat.share + 1; asked = seat.asked ++ asked ∷ []; known = now }

-- the refusals of an admission: 64 tenants are there or too little is left, all 2^62 numbers were given, no memory
abbrev pub admit_refusals : List Refusal
admit_refusals = Full ∷ OldTenant ∷ OutOfMemory ∷ []

-- the refusals of a raise of what a seat's tenant reserves: the tenant isn't there, the raise isn't above what it
-- reserves, a total doesn't allow it, no memory
abbrev pub reserve_refusals : List Refusal
reserve_refusals = NoTenant ∷ Lower ∷ Full ∷ OutOfMemory ∷ []

-- how a seat's ask is answered, with the seat before and after it: at Ok what was asked is appended to its list, whose
-- new length is the job's number; at Err only what the seat knows may have changed, and the refusal is NoJobsLeft where
-- its list has 256 entries
abbrev pub IsAsked : SeatAsked → SeatOf → Result ℕ Refusal → SeatOf → Type 0
IsAsked asked before (Ok job) after = (after ≡ with_asked asked after.known before) × (job ≡ length after.asked) × (length before.asked ≢ 256)
IsAsked asked before (Err refusal) after = (after ≡ seeing after.known before) × (length before.asked ≡ 256 → refusal ≡ NoJobsLeft)
