-- Meaning: what contracts see of a hall (the core, with each tenant's journal), and how the journals explain it.
use Rattle.std.specs.Prelude.{◌≡◌, ℕ, ◌+◌, ◌*◌, ◌^◌, ◌≤◌, ◌==◌, Bool, false, List, [], Option, Some, None, Result, OnOk, OnErr, length}
use Rattle.tenant_quota.specs.Reserves.{ReserveOf}
use Rattle.sched_rules.specs.declared.job.Job.{Job}
use Rattle.sched_rules.specs.declared.refusal.Refusal.{Refusal}
use Rattle.sched_rules.specs.declared.step.DidOf.{DidOf}
use Rattle.sched_rules.specs.declared.step.StepOf.{StepOf}
use Rattle.sched_rules.specs.declared.step.StepOf.TheVariants.{Leave}
use Rattle.sched_rules.specs.Functions.{Functions}
use Rattle.sched_rules.specs.Trees.{Tenant}
use Rattle.sched_rules.specs.Cores.{CoreState, tenant_in, shared_by_nobody}
use Rattle.sched_rules.specs.Headline.{AreNumbersGiven, IsOneStep}
use Rattle.sched_rules.specs.Views.{job_of}
use Rattle.jamboree_core.specs.sched_laws.Ended.{HasEnded}
use Rattle.jamboree_core.specs.jamboree_rules.declared.leaf.Leaf.{Leaf}
use Rattle.jamboree_core.specs.jamboree_rules.declared.leaf.LeafAnswer.{LeafAnswer}
use Rattle.jamboree_core.specs.jamboree_rules.Procedure.{jamboree}
use Rattle.jamboree_core.specs.Replies.{AreSearches}
use Rattle.jamboree_core.specs.Journals.{IsJournalOf}
use Rattle.numbered_list.specs.Places.{AreRising}
use Rattle.hall.specs.Journals.{JournalOf, journal_in, total_length, journals_after, gone_by, owner_of_journal, AreUpTo, AreBegun}

-- a hall: the grain of its searches, what the tenants share, their journals by rising number, how many steps went
-- with tenants that left, and the number that `keep` was last given
pub record HallOf : Type 0 where
  pub grain : ℕ
  pub shared : CoreState
  pub journals : List JournalOf
  pub gone : ℕ
  pub kept : ℕ

-- how many steps were taken: those in the journals, and those that went with a tenant that left
abbrev pub count_of : HallOf → ℕ
count_of hall = total_length hall.journals + hall.gone

-- a new hall with these totals, where no tenant was yet
abbrev pub empty_hall : ℕ → ReserveOf → HallOf
empty_hall grain totals = record { grain = grain; shared = shared_by_nobody totals; journals = []; gone = 0; kept = 0 }

-- the hall after a taken step, where the core then holds this: the step is added to its tenant's journal and
-- nothing else changes; a Leave removes the journal instead
abbrev pub hall_after : HallOf → StepOf LeafAnswer → CoreState → HallOf
hall_after hall step shared =
    record { grain = hall.grain; shared = shared; journals = journals_after step hall.journals; gone = hall.gone + gone_by step hall.journals; kept = hall.kept }

-- what a hall does with a step that it is offered: the step is taken, written in its tenant's journal and
-- counted; or it is refused, and then nothing changes
pub record IsDecided (before : HallOf) (step : StepOf LeafAnswer) (answer : Result (DidOf Leaf) Refusal) (after : HallOf) : Type 0 where
  pub one : IsOneStep (jamboree before.grain) before.shared step answer after.shared
  pub taken : OnOk answer (after ≡ hall_after before step after.shared)
  pub refused : OnErr answer (after ≡ before)
  pub count : OnOk answer (count_of after ≡ count_of before + 1)

-- a tenant is what its journal's steps, each of which was taken, give it when they are run alone; where there is
-- no tenant the journal is empty
abbrev pub Explains : {I : Type 0} → Functions I LeafAnswer → Option Tenant → List (StepOf LeafAnswer) → Type 0
Explains functions None journal = journal ≡ []
Explains functions (Some tenant) journal = IsJournalOf functions journal tenant

-- the journals explain the hall: each tenant, and no other, is what its journal's steps give it alone, and each
-- Submit in a journal asks for a search. At most 2^84 steps were taken
pub record IsExplained (hall : HallOf) : Type 0 where
  pub tenants : (number : ℕ) → Explains (jamboree hall.grain) (tenant_in hall.shared.tenants number) (journal_in hall.journals number)
  pub searches : (number : ℕ) → AreSearches (journal_in hall.journals number)
  pub known : AreNumbersGiven hall.shared
  pub numbers : hall.shared.newest ≤ 2 ^ 62
  pub few : count_of hall ≤ 2 ^ 84

-- the invariant of a hall, with the newest tenant's number and the count of taken steps as the code holds them:
-- the journals explain the hall, and what that is proved by. No journal has more than 2^21 steps, so the count is
-- bounded by 2^21 for each number that was given
pub record IsHall (hall : HallOf) (latest count : ℕ) : Type 0 where
  pub explained : IsExplained hall
  pub rising : AreRising owner_of_journal hall.journals
  pub upto : AreUpTo latest hall.journals
  pub begun : AreBegun hall.journals
  pub newest : latest ≡ hall.shared.newest
  pub counted : count ≡ count_of hall
  pub bounded : length hall.journals * 2 ^ 21 + hall.gone ≤ latest * 2 ^ 21

-- whether a step is the Leave of the tenant with this number
abbrev pub lets_go : {A : Type 0} → ℕ → StepOf A → Bool
lets_go number (Leave other) = other == number
lets_go number _ = false

-- a step leaves each job that has ended as it is, unless it is a Leave of the job's tenant
abbrev pub KeepsEndedJobs : CoreState → StepOf LeafAnswer → CoreState → Type 0
KeepsEndedJobs before step after =
    (number job : ℕ) (ended : Job) → lets_go number step ≡ false → HasEnded ended → job_of before number job ≡ Some ended → job_of after number job ≡ Some ended
