-- Meaning: the numbers of the refusals of a core's steps.
use Rattle.std.specs.Prelude.{ℕ}
use Rattle.sched_rules.specs.declared.refusal.Refusal.{Refusal}
use Rattle.sched_rules.specs.declared.refusal.Refusal.TheVariants.{NoTenant, NoFrame, NotReady, NotHere, Busy, NotRunning, NotComputing, Mismatch, NotReturned, NoSegments, NoNodes, NoSteps, NoJobsLeft, Full, BadAct, NotSpent, NoJob, OldTenant, OutOfMemory, Lower}

-- the number by which a client is told each refusal
abbrev pub refusal_number : Refusal → ℕ
refusal_number NoTenant = 1
refusal_number NoFrame = 2
refusal_number NotReady = 3
refusal_number NotHere = 4
refusal_number Busy = 5
refusal_number NotRunning = 6
refusal_number NotComputing = 7
refusal_number Mismatch = 8
refusal_number NotReturned = 9
refusal_number NoSegments = 10
refusal_number NoNodes = 11
refusal_number NoSteps = 12
refusal_number NoJobsLeft = 13
refusal_number Full = 14
refusal_number BadAct = 15
refusal_number NotSpent = 16
refusal_number NoJob = 17
refusal_number OldTenant = 18
refusal_number OutOfMemory = 19
refusal_number Lower = 20
