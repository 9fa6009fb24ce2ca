-- Meaning: what was asked for a seat at a desk, how its asks and cancels are refused, and what is shown of its jobs.
use Rattle.std.specs.Prelude.{◌≡◌, ℕ, ◌-◌, ◌==◌, List, [], ◌∷◌, Option, Some, None, Result, Ok, Err, if◌then◌else◌}
use Rattle.sched_rules.specs.declared.refusal.Refusal.{Refusal}
use Rattle.sched_rules.specs.declared.refusal.Refusal.TheVariants.{NoTenant, NoSegments, NoNodes, NoJobsLeft, NoJob}
use Rattle.hall.specs.jamboree.Replies.{board_of, depth_of}
use Rattle.hall.specs.jamboree_core.declared.outcomes.Outcome.{Outcome}
use Rattle.hall.specs.jamboree_core.declared.outcomes.Outcome.TheVariants.{Pending, Done, Spent, Cancelled}
use Rattle.hall.specs.declared.desk_rules.asked.SeatAsked.{SeatAsked}

-- the refusals of an ask: the tenant isn't there, it has had all its 256 jobs, no node or too few segments are left
abbrev pub ask_refusals : List Refusal
ask_refusals = NoTenant ∷ NoJobsLeft ∷ NoNodes ∷ NoSegments ∷ []

-- the refusals of a cancel: the tenant isn't there, or there is no such job or it has ended
abbrev pub cancel_refusals : List Refusal
cancel_refusals = NoTenant ∷ NoJob ∷ []

-- what was asked as the job of this number, from 1 on; None where the number is 0 or above the length
abbrev pub seat_asked_at : List SeatAsked → ℕ → Option SeatAsked
seat_asked_at [] job = None
seat_asked_at (asked ∷ later) job = if job == 1 then Some asked else seat_asked_at later (job - 1)

-- an outcome that may be shown of a job that asked this: Done only with a reply to the board and the depth that were
-- asked
abbrev pub Shows : SeatAsked → Outcome → Type 0
Shows asked Pending = Unit {0}
Shows asked (Done reply) = ((board_of reply).own ≡ asked.board.own) × ((board_of reply).opp ≡ asked.board.opp) × (depth_of reply ≡ asked.depth)
Shows asked Spent = Unit {0}
Shows asked Cancelled = Unit {0}

-- the answer to a seat's `get` of a job, by what it asked under that number: NoJob exactly where that is nothing, else
-- an outcome that may be shown
abbrev pub IsShown : Option SeatAsked → Result Outcome Refusal → Type 0
IsShown None answer = answer ≡ Err NoJob
IsShown (Some asked) (Ok outcome) = Shows asked outcome
IsShown (Some asked) (Err refusal) = ⊥

-- how a job that asked this is shown, by what the hall tells of it (None: it has no such job): as told where that may
-- be shown, else as pending
abbrev pub IsShownOf : SeatAsked → Option Outcome → Outcome → Type 0
IsShownOf asked None shown = shown ≡ Pending
IsShownOf asked (Some told) shown = (Shows asked told → shown ≡ told) × ((Shows asked told → ⊥) → shown ≡ Pending)

-- the answer to a seat's `get` of a job, where it asked something under that number: no refusal, but what is shown by
-- what the hall tells of it. Where it asked nothing, this says nothing
abbrev pub IsToldBy : Option SeatAsked → Option Outcome → Result Outcome Refusal → Type 0
IsToldBy None told answer = Unit {0}
IsToldBy (Some asked) told (Ok shown) = IsShownOf asked told shown
IsToldBy (Some asked) told (Err refusal) = ⊥

-- what was found of a tenant; None, as the tenant isn't there, is the refusal NoTenant
abbrev pub found_or_no_tenant : {X : Type 0} → Option X → Result X Refusal
found_or_no_tenant (Some found) = Ok found
found_or_no_tenant None = Err NoTenant
