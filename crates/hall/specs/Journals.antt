-- Meaning: the journal of a tenant in the hall: its steps that were taken, in order, from its Admit on.
use Rattle.std.specs.Prelude.{◌≡◌, ℕ, ◌+◌, ◌*◌, ◌^◌, ◌<◌, ◌≤◌, Bool, true, false, List, [], ◌∷◌, ◌++◌, Option, Some, None, length}
use Rattle.std.specs.List.{AllByRecursion}
use Rattle.numbered_list.specs.Places.{read_by_number, has_by_number, change_by_number, remove_by_number}
use Rattle.tenant_quota.specs.Reserves.{ReserveOf}
use Rattle.sched_rules.specs.declared.step.StepOf.{StepOf}
use Rattle.sched_rules.specs.declared.step.StepOf.TheVariants.{Admit, AdmitMore, Submit, Cancel, Leave}
use Rattle.sched_rules.specs.Runs.{tenant_of}
use Rattle.jamboree_core.specs.jamboree_rules.declared.leaf.LeafAnswer.{LeafAnswer}
use Rattle.jamboree_core.specs.Replies.{IsSearch}
use Rattle.hall.specs.Entries.{serial_in, is_long_step, long_steps}

-- a tenant's number, how many steps its journal has places for, and how many of them it has places for in long
-- entries, and the steps
pub record JournalOf : Type 0 where
  pub tenant : ℕ
  pub places : ℕ
  pub longs : ℕ
  pub steps : List (StepOf LeafAnswer)

-- the number of the tenant whose journal it is
abbrev pub owner_of_journal : JournalOf → ℕ
owner_of_journal journal = journal.tenant

-- the steps in a tenant's journal; none where it has no journal
abbrev pub journal_in : List JournalOf → ℕ → List (StepOf LeafAnswer)
journal_in journals number = read_by_number owner_of_journal (λ journal. journal.steps) [] number journals

-- how many places a tenant's journal has; 0 where it has no journal
abbrev pub places_in : List JournalOf → ℕ → ℕ
places_in journals number = read_by_number owner_of_journal (λ journal. journal.places) 0 number journals

-- how many long entries a tenant's journal has places for; 0 where it has no journal
abbrev pub longs_in : List JournalOf → ℕ → ℕ
longs_in journals number = read_by_number owner_of_journal (λ journal. journal.longs) 0 number journals

-- whether a tenant has a journal
abbrev pub has_journal : ℕ → List JournalOf → Bool
has_journal number journals = has_by_number owner_of_journal number journals

-- what a step makes of its tenant's reservation: an Admit begins it, and an AdmitMore raises it to this; None for
-- any other step, which doesn't change it
abbrev pub reserve_in : {A : Type 0} → StepOf A → Option ReserveOf
reserve_in (Admit number quota) = Some quota
reserve_in (AdmitMore number quota) = Some quota
reserve_in _ = None

-- what a step raises its tenant's reservation to; None where it isn't an AdmitMore
abbrev pub raise_in : {A : Type 0} → StepOf A → Option ReserveOf
raise_in (AdmitMore number quota) = Some quota
raise_in _ = None

-- the new reservation, if there is one, else the old
abbrev pub newer : ReserveOf → Option ReserveOf → ReserveOf
newer now None = now
newer now (Some quota) = quota

-- what a tenant reserves after these steps of it, where it reserved this before them
abbrev pub reserved_after : {A : Type 0} → ReserveOf → List (StepOf A) → ReserveOf
reserved_after now [] = now
reserved_after now (step ∷ steps) = reserved_after (newer now (reserve_in step)) steps

-- what the tenant of these steps reserves: what the last Admit or AdmitMore among them says
abbrev pub reserved_in : {A : Type 0} → List (StepOf A) → ReserveOf
reserved_in steps = reserved_after (record { segments = 0; nodes = 0 }) steps

-- 1 where a step raised its tenant's reservation, 0 where it didn't
abbrev pub one_for : Option ReserveOf → ℕ
one_for None = 0
one_for (Some quota) = 1

-- how many of these steps raise what their tenant reserves
abbrev pub raise_count : {A : Type 0} → List (StepOf A) → ℕ
raise_count [] = 0
raise_count (step ∷ steps) = one_for (raise_in step) + raise_count steps

-- how many places a journal has for such a reservation, beside one for each raise: 16 for each node, as that
-- allows 16 counted steps; one each for Admit and Leave; and 256 each for the Submits, the Spends and the Cancels
-- of at most 256 jobs
abbrev pub places_for : ReserveOf → ℕ
places_for quota = 16 * quota.nodes + 770

-- how many places a journal has for long entries for such a reservation, beside one for each raise: one for each
-- node, as a frame is given at most one Answer; one for the Admit; and 256 each for the Submits and the Cancels
abbrev pub longs_for : ReserveOf → ℕ
longs_for quota = quota.nodes + 513

-- how many places a journal has after a step: an AdmitMore makes those of the new reservation, and one for each
-- raise so far, this one included
abbrev pub places_with : Option ReserveOf → JournalOf → ℕ
places_with None journal = journal.places
places_with (Some quota) journal = places_for quota + (raise_count journal.steps + 1)

-- how many places for long entries a journal has after a step: an AdmitMore makes those of the new reservation, and
-- one for each raise so far, this one included
abbrev pub longs_with : Option ReserveOf → JournalOf → ℕ
longs_with None journal = journal.longs
longs_with (Some quota) journal = longs_for quota + (raise_count journal.steps + 1)

-- a tenant's journal with one more step, which may bring it more places
abbrev pub longer : StepOf LeafAnswer → JournalOf → JournalOf
longer step journal = record { tenant = journal.tenant; places = places_with (raise_in step) journal; longs = longs_with (raise_in step) journal; steps = journal.steps ++ step ∷ [] }

-- the journals, with one step added to a tenant's
abbrev pub with_step : ℕ → StepOf LeafAnswer → List JournalOf → List JournalOf
with_step number step journals = change_by_number owner_of_journal number (longer step) journals

-- the hall's journals without that of the tenant with this number
abbrev pub without_journal : ℕ → List JournalOf → List JournalOf
without_journal number journals = remove_by_number owner_of_journal number journals

-- how many steps all journals have together
abbrev pub total_length : List JournalOf → ℕ
total_length [] = 0
total_length (journal ∷ journals) = length journal.steps + total_length journals

-- the journal of a tenant that was just admitted
abbrev pub admitted_journal : ℕ → ReserveOf → JournalOf
admitted_journal number quota = record { tenant = number; places = places_for quota; longs = longs_for quota; steps = Admit number quota ∷ [] }

-- the journals after a taken step: an Admit begins one, a Leave ends one, and any other step is added to its tenant's
abbrev pub journals_after : StepOf LeafAnswer → List JournalOf → List JournalOf
journals_after (Admit number quota) journals = journals ++ admitted_journal number quota ∷ []
journals_after (Leave number) journals = without_journal number journals
journals_after step journals = with_step (tenant_of step) step journals

-- how many steps go out of the journals by a taken step: at a Leave those of its tenant's journal, and the Leave
-- itself; else none
abbrev pub gone_by : StepOf LeafAnswer → List JournalOf → ℕ
gone_by (Leave number) journals = length (journal_in journals number) + 1
gone_by _ journals = 0

-- whether a taken step is appended to its tenant's journal: all are but an Admit, which begins the journal, and a Leave,
-- which takes it away
abbrev pub is_appended : {A : Type 0} → StepOf A → Bool
is_appended (Admit number quota) = false
is_appended (Leave number) = false
is_appended _ = true

-- whether a step is a worker's or a Spend: its tenant itself makes its Admit, AdmitMore, Submit, Cancel and Leave
abbrev pub is_worker_step : {A : Type 0} → StepOf A → Bool
is_worker_step (Admit number quota) = false
is_worker_step (AdmitMore number quota) = false
is_worker_step (Submit number words size) = false
is_worker_step (Cancel number job) = false
is_worker_step (Leave number) = false
is_worker_step _ = true

-- the tenant's number of each of these journals is at most this
abbrev pub AreUpTo : ℕ → List JournalOf → Type 0
AreUpTo number journals = AllByRecursion (λ journal. journal.tenant ≤ number) journals

-- of a journal: it begins with its tenant's Admit; it has the places for what is reserved, and one for each
-- raise; it has no more steps than places; and each raise has added a segment or a node
pub record IsBegun (journal : JournalOf) : Type 0 where
  pub quota : ReserveOf
  pub later : List (StepOf LeafAnswer)
  pub begins : journal.steps ≡ Admit journal.tenant quota ∷ later
  pub places : journal.places ≡ places_for (reserved_in journal.steps) + raise_count journal.steps
  pub longs : journal.longs ≡ longs_for (reserved_in journal.steps) + raise_count journal.steps
  pub segments : (reserved_in journal.steps).segments ≤ 4096
  pub nodes : (reserved_in journal.steps).nodes ≤ 65536
  pub raised : raise_count journal.steps ≤ (reserved_in journal.steps).segments + (reserved_in journal.steps).nodes
  pub within : length journal.steps ≤ journal.places

-- each of these journals begins with its tenant's Admit, and has the places for what is reserved (`IsBegun`)
abbrev pub AreBegun : List JournalOf → Type 0
AreBegun journals = AllByRecursion IsBegun journals

-- a step may be written in a journal without taking memory: it is its tenant's; it is neither an Admit, an
-- AdmitMore nor a Leave; a Submit asks for a search; a frame's serial has 32 bits; and there is a free place, also a long
-- one where the step needs it
pub record IsWritable (step : StepOf LeafAnswer) (journal : JournalOf) : Type 0 where
  pub own : tenant_of step ≡ journal.tenant
  pub serial : serial_in step < 2 ^ 32
  pub place : length journal.steps < journal.places
  pub long : is_long_step step ≡ true → long_steps journal.steps < journal.longs
  pub going : is_appended step ≡ true
  pub search : IsSearch step
  pub raises_not : raise_in step ≡ None
