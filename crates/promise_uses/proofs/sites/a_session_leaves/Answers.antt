-- A use of a site's `leave` (`a_session_leaves`): tenant 9's Leave ends its desk's history, and the session's
-- closing the history of the book.
use Rattle.promise_uses.proofs.Parts.{if-some}
use Rattle.promise_uses.proofs.SiteParts.{always-left, never-left}
use Rattle.promise_uses.proofs.sites.a_session_leaves.Goals as goal

pub returns : goal.returns
returns g c =
    let e = c.leave.ensures in
    let at = c.args.seat.at in
    record {
      here = always-left c.leave.result at c.args.desk.now e.left;
      elsewhere = never-left c.leave.result at c.args.desk.now e.left;
      told = if-some c.leave.result (λ trace told. rw (← c.requires.nine) told.1) e.told;
      closed = if-some c.leave.result (λ trace closed. rw (← c.requires.nine) closed.0) e.closed;
      granted = if-some c.leave.result (λ trace closed. closed.1.1) e.closed;
      legal = if-some c.leave.result (λ trace told. told.2.0) e.told;
      own = if-some c.leave.result (λ trace told. (told.0, rw (← c.requires.nine) told.2.1)) e.told;
    }
