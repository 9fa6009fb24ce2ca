-- A use of a site's `reserve` (`a_session_reserves`): tenant 9's raise, taken, ends the history with its AdmitMore;
-- refused by the book, it changes nothing.
use Rattle.promise_uses.proofs.Common.{◌∙◌}
use Rattle.promise_uses.proofs.SiteParts.{raised-nine, raised-by-book, raised-kept}
use Rattle.promise_uses.proofs.sites.a_session_reserves.Goals as goal

pub returns-clause-taken : goal.returns-clause-taken
returns-clause-taken g c = raised-nine (g.J.SiteNaming.begun c.args.desk.now) c.args.seat.now.seat c.reserve.new.seat.seat c.args.ask c.reserve.result c.requires.nine c.reserve.ensures.told

pub returns-clause-by_book : goal.returns-clause-by_book
returns-clause-by_book g c refusal is =
    let same = raised-by-book (g.J.SiteNaming.begun c.args.desk.now) c.args.seat.now.seat c.reserve.new.seat.seat c.args.ask c.reserve.result refusal c.reserve.ensures.told is in
    let books = rw is at c.reserve.ensures.granted in
    c.reserve.ensures.seat ∙ (λ i. record c.args.seat.now { seat = same i; books = books i })

pub returns-clause-kept : goal.returns-clause-kept
returns-clause-kept g c = raised-kept (g.J.SiteNaming.begun c.args.desk.now) c.args.seat.now.seat c.reserve.new.seat.seat c.args.ask c.reserve.result c.requires.nine c.reserve.ensures.told
