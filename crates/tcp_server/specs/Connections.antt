-- Meaning: what passed on a connection.
use Rattle.std.specs.Prelude.{◌≡◌, ℕ, ℤ, List, Option, Some, None, Result, All}
use mathlib.Core.List.{IsPrefix}
use Rattle.sched_rules.specs.declared.step.StepOf.{StepOf}
use Rattle.line_io.specs.Leads.{between}
use Rattle.hall.specs.Halls.{HallOf}
use Rattle.hall.specs.jamboree_rules.declared.leaf.LeafAnswer.{LeafAnswer}
use Rattle.desk.specs.Traces.{own, Known}
use Rattle.desk.specs.Histories.{IsAtEndOf}
use Rattle.session.specs.declared.faults.End.{End}
use Rattle.session.specs.declared.faults.SessionFault.{SessionFault}
use Rattle.desk_office.specs.Answers.{SeenSession}
use Rattle.tcp_server.specs.Tapes.{TapeOf, blank_tape, Hears, Sends}

-- what passed on the socket with this descriptor, by the tapes of all its reads and of all its writes, is a session at a desk that was
-- made with this hall (`SeenSession`), with this end, and by what its tenant's seat knew of the desk's history when it left
abbrev pub IsSessionOn : HallOf → ℤ → TapeOf → TapeOf → Result End SessionFault → Option (Known (StepOf LeafAnswer)) → Type 0
IsSessionOn begun socket read written ended knew = SeenSession begun (between Hears (blank_tape socket) read) (between Sends (blank_tape socket) written) ended knew

-- what passed on a connection: what each read gave and each write took, how the session ended, and what its tenant's seat knows of the
-- desk's history; None where no tenant came
pub record PassedOf : Type 0 where
  pub read : TapeOf
  pub written : TapeOf
  pub ended : Result End SessionFault
  pub knew : Option (Known (StepOf LeafAnswer))

-- what passed on a connection, but for what is known of the history
abbrev pub but_knew : PassedOf → PassedOf
but_knew passed = record { read = passed.read; written = passed.written; ended = passed.ended; knew = None }

-- what a seat knows goes on from what it knew when it left: more of the history was shown to it, without a step of its own
abbrev pub KnowsMore : {S : Type 0} → Option (Known S) → Option (Known S) → Type 0
KnowsMore None None = Unit {0}
KnowsMore (Some left) (Some now) = IsPrefix left.seen now.seen × (now.mine ≡ left.mine) × (now.maker ≡ left.maker)
KnowsMore _ _ = ⊥

-- what a seat knew when it left is a part of this history: what it had seen is a beginning of it, and all its steps in it are those that
-- it knew
abbrev pub IsPartOf : {S : Type 0} → List (ℕ × S) → Option (Known S) → Type 0
IsPartOf history None = Unit {0}
IsPartOf history (Some left) = IsPrefix left.seen history × (own left.maker history ≡ left.mine)

-- what passed is a session on the socket of its tapes, at a desk that was made with this hall, by what its tenant's seat knew when it
-- left; and what is known now goes on from that
pub record IsSession (begun : HallOf) (passed : PassedOf) : Type 0 where
  pub left : Option (Known (StepOf LeafAnswer))
  pub session : IsSessionOn begun passed.read.socket passed.read passed.written passed.ended left
  pub goes_on : KnowsMore left passed.knew

-- what passed is a session on the socket of its tapes, by what its tenant's seat knew when it left, and that is a part of this history
pub record IsSessionIn (begun : HallOf) (history : List (ℕ × StepOf LeafAnswer)) (passed : PassedOf) : Type 0 where
  pub left : Option (Known (StepOf LeafAnswer))
  pub session : IsSessionOn begun passed.read.socket passed.read passed.written passed.ended left
  pub part : IsPartOf history left

-- a desk that was made with the first hall leaves the other one, by one history: each step of it was taken, by these the hall has
-- come, and each of these sessions is one, of which what its tenant's seat knew is a part of that history
pub record IsLeftBy (begun hall : HallOf) (sessions : List PassedOf) : Type 0 where
  pub history : List (ℕ × StepOf LeafAnswer)
  pub come : IsAtEndOf begun history hall
  pub parts : All (IsSessionIn begun history) sessions
