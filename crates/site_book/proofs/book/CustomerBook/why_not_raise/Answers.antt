-- A site's book of customers tests a raise (`CustomerBook::why_not_raise`): where it finds no refusal, the hall has
-- room.
use Rattle.site_book.proofs.Common.{rules}
use Rattle.site_book.proofs.BookLemmas.{raises-room}
use Rattle.site_book.proofs.book.CustomerBook.why_not_raise.Goals as goal

pub returns-clause-room : goal.returns-clause-room
returns-clause-room c = raises-room _ _ c.args.self.now c.self.view_is c.self.invariant.0 c.args.who c.args.session c.args.ask c.why_no_raise.result (search rules)
