-- Meaning: the history of a desk, which are the steps taken since it was made, each with the number of its maker, and what a
-- call says of it to the maker who made the call.
use Rattle.std.specs.Prelude.{◌≡◌, ℕ, ◌≤◌, ◌==◌, ◌&&◌, Bool, not, true, false, List, [], ◌∷◌, ◌++◌, filter, Option, Some, None, Result, Ok, Err, if◌then◌else◌}
use mathlib.Core.List.{IsPrefix}
use Rattle.tenant_quota.specs.Reserves.{ReserveOf}
use Rattle.sched_rules.specs.declared.refusal.Refusal.{Refusal}
use Rattle.sched_rules.specs.declared.step.StepOf.{StepOf}
use Rattle.sched_rules.specs.declared.step.StepOf.TheVariants.{Admit, Leave}
use Rattle.sched_rules.specs.Functions.{Functions}
use Rattle.sched_rules.specs.Trees.{Tenant}
use Rattle.sched_rules.specs.Runs.{tenant_of, only, alone}
use Rattle.sched_rules.specs.Cores.{CoreState, tenant_in, step_result, shared_refusal, shared_after, shared_run}
use Rattle.sched_rules.specs.Headline.{IsAnswerTo, AreNumbersGiven}
use Rattle.hall.specs.jamboree_rules.declared.leaf.LeafAnswer.{LeafAnswer}
use Rattle.hall.specs.jamboree_rules.Procedure.{jamboree}
use Rattle.hall.specs.Journals.{is_worker_step}
use Rattle.hall.specs.Halls.{HallOf}
use Rattle.desk.specs.Traces.{own, Known}
use Rattle.sched_rules.specs.Views.{job_of}
use Rattle.hall.specs.jamboree_core.declared.outcomes.Outcome.{Outcome}
use Rattle.hall.specs.jamboree_core.Outcomes.{IsOutcomeIn}
use Rattle.desk.specs.Seats.{SeatOf, seeing}
use Rattle.hall.specs.desk_rules.Asked.{seat_asked_at, IsToldBy}

-- the steps of a desk's history, in order, without who made them
abbrev pub steps_of : List (ℕ × StepOf LeafAnswer) → List (StepOf LeafAnswer)
steps_of [] = []
steps_of (entry ∷ entries) = entry.1 ∷ steps_of entries

-- the core at the end of a history of the desk that was made with this hall
abbrev pub core_at : HallOf → List (ℕ × StepOf LeafAnswer) → CoreState
core_at begun history = shared_run (jamboree begun.grain) begun.shared (steps_of history)

-- what a tenant, which wasn't there before, is after its own steps of a history, run as if no other tenant were there
abbrev pub lone_tenant : HallOf → List (ℕ × StepOf LeafAnswer) → ℕ → Option Tenant
lone_tenant begun history number = alone (jamboree begun.grain) (only number (steps_of history))

-- each of these steps is taken by the core to which the ones before it lead
abbrev pub AreTaken : {I A : Type 0} → Functions I A → CoreState → List (StepOf A) → Type 0
AreTaken functions shared [] = Unit {0}
AreTaken functions shared (step ∷ steps) =
    (shared_refusal functions shared step ≡ None) × AreTaken functions (shared_after shared step (step_result functions shared step)) steps

-- whether a step is one that a tenant's seat makes: its Admit, AdmitMore, Submit, Cancel or Leave
abbrev pub is_seat_step : {A : Type 0} → StepOf A → Bool
is_seat_step step = not (is_worker_step step)

-- whether a step admits a new tenant
abbrev pub is_admit : {A : Type 0} → StepOf A → Bool
is_admit (Admit number quota) = true
is_admit _ = false

-- whether a step is its tenant's Leave
abbrev pub is_leave : {A : Type 0} → StepOf A → Bool
is_leave (Leave number) = true
is_leave _ = false

-- the steps that a tenant's seat made, in order, among those of all tenants
abbrev pub seat_steps : {A : Type 0} → ℕ → List (StepOf A) → List (StepOf A)
seat_steps number steps = filter (λ step. is_seat_step step && (tenant_of step == number)) steps

-- a step of a maker was taken: the history goes on from what it had seen, without a step of it, and ends with this one,
-- which is the last of its own
abbrev pub Took : {S : Type 0} → Known S → S → Known S → Type 0
Took {S = S} before step now =
    (between : List (ℕ × S))
    × (now.seen ≡ (before.seen ++ between) ++ (before.maker, step) ∷ [])
    × (own before.maker (before.seen ++ between) ≡ before.mine)
    × (now.mine ≡ before.mine ++ step ∷ [])
    × (now.maker ≡ before.maker)

-- a maker has seen the history go on, without a step of its own
abbrev pub Saw : {S : Type 0} → Known S → Known S → Type 0
Saw before now = IsPrefix before.seen now.seen × (own now.maker now.seen ≡ now.mine) × (now.mine ≡ before.mine) × (now.maker ≡ before.maker)

-- how a maker's step was answered: it was taken, and the history that the maker has then seen ends with it; or it was
-- refused as the core at the end of the history that it has then seen refuses it
abbrev pub IsToldOf : {X : Type 0} → HallOf → Known (StepOf LeafAnswer) → StepOf LeafAnswer → Result X Refusal → Known (StepOf LeafAnswer) → Type 0
IsToldOf begun before step (Ok value) now = Took before step now
IsToldOf begun before step (Err refusal) now = Saw before now × IsAnswerTo (jamboree begun.grain) (core_at begun now.seen) step (Err refusal)

-- a new seat: the history that it has seen ends with its tenant's Admit; no step before that is of this tenant or by
-- this maker; and the Admit is the maker's only step
pub record IsSeated (reserve : ReserveOf) (seat : SeatOf) : Type 0 where
  pub before : List (ℕ × StepOf LeafAnswer)
  pub seen : seat.known.seen ≡ before ++ (seat.known.maker, Admit seat.tenant reserve) ∷ []
  pub unused : only seat.tenant (steps_of before) ≡ []
  pub unmade : own seat.known.maker before ≡ []
  pub mine : seat.known.mine ≡ Admit seat.tenant reserve ∷ []

-- what a maker has seen of the history: each step of it was taken, and those of this tenant that workers didn't make are just
-- the maker's own
abbrev pub IsTrueTo : HallOf → ℕ → Known (StepOf LeafAnswer) → Type 0
IsTrueTo begun number known = AreTaken (jamboree begun.grain) begun.shared (steps_of known.seen) × (seat_steps number (steps_of known.seen) ≡ known.mine)

-- a seat has seen the history go on: nothing else of it has changed; each step of the history was taken, those of the
-- seat's tenant that workers didn't make are just the seat's own, and the tenant is at its end what the tenant's own
-- steps make of it alone
pub record IsLook (begun : HallOf) (before now : SeatOf) : Type 0 where
  pub kept : now ≡ seeing now.known before
  pub saw : Saw before.known now.known
  pub legal : AreTaken (jamboree begun.grain) begun.shared (steps_of now.known.seen)
  pub mine : seat_steps now.tenant (steps_of now.known.seen) ≡ now.known.mine
  pub alone : tenant_in (core_at begun now.known.seen).tenants now.tenant ≡ lone_tenant begun now.known.seen now.tenant

-- a seat's answer about a job at the end of the history that the seat has seen: what the tenant's job has come to
-- there, as a seat is told it
abbrev pub IsShownAt : HallOf → SeatOf → ℕ → Result Outcome Refusal → Type 0
IsShownAt begun seat job answer =
    (told : Option Outcome) × IsOutcomeIn (job_of (core_at begun seat.known.seen) seat.tenant job) told × IsToldBy (seat_asked_at seat.asked job) told answer

-- the seat steps of each tenant are by one maker, its owner
abbrev pub Owned : (ℕ → ℕ) → List (ℕ × StepOf LeafAnswer) → Type 0
Owned owner [] = Unit {0}
Owned owner (entry ∷ entries) = (is_seat_step entry.1 ≡ true → entry.0 ≡ owner (tenant_of entry.1)) × Owned owner entries

-- the seat steps of each tenant are by one maker
abbrev pub HasOwners : List (ℕ × StepOf LeafAnswer) → Type 0
HasOwners history = (owner : ℕ → ℕ) × Owned owner history

-- each of these steps is a seat step (no worker's) of this tenant
abbrev pub AllOwn : ℕ → List (StepOf LeafAnswer) → Type 0
AllOwn number [] = Unit {0}
AllOwn number (step ∷ steps) = (is_seat_step step ≡ true) × (tenant_of step ≡ number) × AllOwn number steps

-- the steps of a tenant's seat, from its admission on
abbrev pub AreStepsOfSeat : ℕ → List (StepOf LeafAnswer) → Type 0
AreStepsOfSeat number steps = (reserve : ReserveOf) × (later : List (StepOf LeafAnswer)) × (steps ≡ Admit number reserve ∷ later) × AllOwn number steps

-- none of these steps is a Leave
abbrev pub HasNoLeave : {A : Type 0} → List (StepOf A) → Type 0
HasNoLeave [] = Unit {0}
HasNoLeave (step ∷ steps) = (is_leave step ≡ false) × HasNoLeave steps

-- whether a tenant is there after these steps, each of which was taken: it is after its last step, unless that is its
-- Leave; without a step of it all is as before (`was`)
abbrev pub stays_by : {A : Type 0} → Bool → ℕ → List (StepOf A) → Bool
stays_by was number [] = was
stays_by was number (step ∷ steps) = stays_by (if tenant_of step == number then not (is_leave step) else was) number steps

-- the tenant that was looked for in a hall is there
abbrev pub IsThere : Option Tenant → Type 0
IsThere None = ⊥
IsThere (Some tenant) = Unit {0}

-- no step of the history is of a tenant above this number
abbrev pub AreStepsUpTo : ℕ → List (ℕ × StepOf LeafAnswer) → Type 0
AreStepsUpTo newest [] = Unit {0}
AreStepsUpTo newest (entry ∷ entries) = (tenant_of entry.1 ≤ newest) × AreStepsUpTo newest entries

-- a hall with this grain, whose tenants share this core, has come by the steps of this history from the hall that the
-- desk was made with
pub record IsComeBy (begun : HallOf) (grain : ℕ) (shared : CoreState) (history : List (ℕ × StepOf LeafAnswer)) : Type 0 where
  pub same : grain ≡ begun.grain
  pub core : shared ≡ core_at begun history
  pub legal : AreTaken (jamboree begun.grain) begun.shared (steps_of history)
  pub owners : HasOwners history
  pub upto : AreStepsUpTo shared.newest history
  pub later : begun.shared.newest ≤ shared.newest
  pub first : AreNumbersGiven begun.shared
  pub given : AreNumbersGiven shared
  pub there : (number : ℕ) → stays_by false number (steps_of history) ≡ true → IsThere (tenant_in shared.tenants number)

-- a history with one more step, if it was taken
abbrev pub with_taken : {X S : Type 0} → List S → S → Result X Refusal → List S
with_taken before step (Ok value) = before ++ step ∷ []
with_taken before step (Err refusal) = before

-- a hall is what the history of a desk has come to, which was made with another hall: it has that one's grain, its
-- core is the one to which the history's steps lead, and each of them was taken
pub record IsAtEndOf (begun : HallOf) (history : List (ℕ × StepOf LeafAnswer)) (hall : HallOf) : Type 0 where
  pub grain : hall.grain ≡ begun.grain
  pub core : hall.shared ≡ core_at begun history
  pub legal : AreTaken (jamboree begun.grain) begun.shared (steps_of history)
