-- Meaning: what a session asks of its office (the tenant's side of the desk), and what the office replies.
use Rattle.std.specs.Prelude.{ℕ, List, Result, Ok, Err}
use Rattle.othello_board.specs.declared.cells.Cell.{Cell}
use Rattle.othello_board.specs.declared.position_text.positions.Side.{Side}
use Rattle.tenant_quota.specs.Reserves.{ReserveOf}
use Rattle.tenant_quota.specs.declared.account.Left.{Left}
use Rattle.sched_rules.specs.declared.refusal.Refusal.{Refusal}
use Rattle.sched_rules.specs.Refusals.{refusal_number}
use Rattle.session.specs.declared.standings.Standing.{Standing}
use Rattle.session.specs.declared.standings.Live.{Live}

-- a call that a session makes of its office
pub data Call : Type 0 where
  Hello : (quota : ReserveOf) → Call
  Reserve : (quota : ReserveOf) → Call
  Ask : (depth : ℕ) (board : List Cell) (side : Side) → Call
  Get : (job : ℕ) → Call
  Wait : (job : ℕ) → Call
  Cancel : (job : ℕ) → Call
  AskQuota : Call
  AskLive : Call
  Leave : Call

-- a reply of the office: what is reserved for a new tenant (Welcome) or for the one that is there (Reserved), the
-- number of a new job, how a job stands (Told), that a job is cancelled (Ended), what is left (Rest), how many frames
-- and words there are (Alive), that the tenant has left (Gone), or the number of a refusal
pub data OfficeReply : Type 0 where
  Welcome : (quota : ReserveOf) → OfficeReply
  Reserved : (quota : ReserveOf) → OfficeReply
  Job : (number : ℕ) → OfficeReply
  Told : (job : ℕ) (standing : Standing) → OfficeReply
  Ended : (job : ℕ) → OfficeReply
  Rest : (left : Left) → OfficeReply
  Alive : (live : Live) → OfficeReply
  Gone : OfficeReply
  Refused : (number : ℕ) → OfficeReply

-- the result of a call as a reply: at Ok what `said` makes of it, at Err the refusal's number
abbrev pub reply_of : {X : Type 0} → (X → OfficeReply) → Result X Refusal → OfficeReply
reply_of said (Ok x) = said x
reply_of said (Err refusal) = Refused (refusal_number refusal)
