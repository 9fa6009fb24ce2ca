-- A site's book of customers tests an opening (`CustomerBook::why_not_open`): where it finds no refusal, the hall has
-- room, and fewer than 64 sessions are there.
use Rattle.site_book.proofs.Common.{rules}
use Rattle.site_book.proofs.BookLemmas.{opens-room, few-seats}
use Rattle.site_book.proofs.book.CustomerBook.why_not_open.Goals as goal

pub returns-clause-room : goal.returns-clause-room
returns-clause-room c = opens-room _ _ c.args.self.now c.self.view_is c.self.invariant.0 c.args.who c.args.ask c.why_beyond.result (search rules)

pub returns-clause-few : goal.returns-clause-few
returns-clause-few c = few-seats _ _ c.args.self.now c.self.view_is c.self.invariant.0
