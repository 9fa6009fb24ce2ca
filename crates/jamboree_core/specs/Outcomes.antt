-- Meaning: what has become of a tenant's job that is a search.
use Rattle.std.specs.Prelude.{◌≡◌, ℕ, List, Option, Some, None, slice_index}
use Rattle.sched_rules.specs.declared.job.Job.{Job}
use Rattle.sched_rules.specs.declared.job.Job.TheVariants.{Live, Done, Spent as SpentJob, Cancelled as CancelledJob}
use Rattle.jamboree_rules.specs.Fits.{IsKeptRoot}
use Rattle.jamboree.specs.declared.reply.Reply.{Reply}
use Rattle.jamboree_rules.specs.Places.{frame_of}
use Rattle.jamboree_rules.specs.Entries.{bounds_of}
use Rattle.jamboree.specs.Replies.{board_of, depth_of, table_of}
use Rattle.jamboree_core.specs.declared.outcomes.Outcome.{Outcome}
use Rattle.jamboree_core.specs.declared.outcomes.Outcome.TheVariants.{Pending, Done as DoneWith, Spent, Cancelled}

-- a job, if it is done, kept the words of a search's root that had returned
abbrev pub IsOfSearch : Job → Type 0
IsOfSearch (Live root) = Unit {0}
IsOfSearch (Done words) = IsKeptRoot words
IsOfSearch SpentJob = Unit {0}
IsOfSearch CancelledJob = Unit {0}

-- a reply is to the board and the depth in these words
pub record IsReplyOn (words : List ℕ) (reply : Reply) : Type 0 where
  pub own : (board_of reply).own ≡ slice_index words 0
  pub opp : (board_of reply).opp ≡ slice_index words 1
  pub depth : depth_of reply ≡ slice_index words 2

-- a reply is the one in the words that a job kept: it is to the board and the depth there, and has the table
-- there
pub record IsReplyOf (words : List ℕ) (reply : Reply) : Type 0 where
  pub on : IsReplyOn words reply
  pub table : table_of reply ≡ bounds_of (frame_of words)

-- what has become of a job: a live one is pending, a done one has the reply in its words, and a spent or a
-- cancelled one is so
abbrev pub IsOutcomeOf : Job → Outcome → Type 0
IsOutcomeOf (Live root) outcome = outcome ≡ Pending
IsOutcomeOf (Done words) outcome = (reply : Reply) × (outcome ≡ DoneWith reply) × IsReplyOf words reply
IsOutcomeOf SpentJob outcome = outcome ≡ Spent
IsOutcomeOf CancelledJob outcome = outcome ≡ Cancelled

-- what has become of a job that may not be there: there is an outcome exactly where there is a job, and it is
-- that job's
abbrev pub IsOutcomeIn : Option Job → Option Outcome → Type 0
IsOutcomeIn None outcome = outcome ≡ None
IsOutcomeIn (Some job) None = ⊥
IsOutcomeIn (Some job) (Some outcome) = IsOutcomeOf job outcome

-- an outcome, if it is a reply, is to the board and the depth in the words that were submitted
abbrev pub IsTo : List ℕ → Outcome → Type 0
IsTo origin Pending = Unit {0}
IsTo origin (DoneWith reply) = IsReplyOn origin reply
IsTo origin Spent = Unit {0}
IsTo origin Cancelled = Unit {0}

-- there is an outcome exactly where a job was submitted, and if it is a reply, it is to the submitted board and
-- depth
abbrev pub AnswersTo : Option (List ℕ) → Option Outcome → Type 0
AnswersTo None None = Unit {0}
AnswersTo None (Some outcome) = ⊥
AnswersTo (Some origin) None = ⊥
AnswersTo (Some origin) (Some outcome) = IsTo origin outcome
