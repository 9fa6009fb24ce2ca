-- A use of a site's `come` (`a_session_comes`): who is seated is whoever came, and the history ends with its tenant's
-- Admit and the book's with its grant.
use Rattle.promise_uses.proofs.SiteParts.{entered}
use Rattle.promise_uses.proofs.sites.a_session_comes.Goals as goal

pub returns-clause-whose : goal.returns-clause-whose
returns-clause-whose g c came is =
    let named = g.J.SiteNaming in
    let at = c.args.desk.now in
    let new = entered (named.begun at) (named.plan at) at c.args.comer.now.who c.args.comer.now.ask c.come.result came c.come.ensures is in
    (new.whose, new.where_at)

pub returns-clause-asked : goal.returns-clause-asked
returns-clause-asked g c came is =
    let named = g.J.SiteNaming in
    let at = c.args.desk.now in
    let new = entered (named.begun at) (named.plan at) at c.args.comer.now.who c.args.comer.now.ask c.come.result came c.come.ensures is in
    (new.share, new.unasked)

pub returns-clause-seen : goal.returns-clause-seen
returns-clause-seen g c came is =
    let named = g.J.SiteNaming in
    let at = c.args.desk.now in
    let seated = (entered (named.begun at) (named.plan at) at c.args.comer.now.who c.args.comer.now.ask c.come.result came c.come.ensures is).admitted in
    (seated.before, seated.seen, seated.unused, seated.unmade, seated.mine)

pub returns-clause-opened : goal.returns-clause-opened
returns-clause-opened g c came is =
    let named = g.J.SiteNaming in
    let at = c.args.desk.now in
    let opened = (entered (named.begun at) (named.plan at) at c.args.comer.now.who c.args.comer.now.ask c.come.result came c.come.ensures is).opened in
    (opened.before, opened.seen, opened.unmade, opened.mine)

pub returns-clause-granted : goal.returns-clause-granted
returns-clause-granted g c came is =
    let named = g.J.SiteNaming in
    let at = c.args.desk.now in
    (entered (named.begun at) (named.plan at) at c.args.comer.now.who c.args.comer.now.ask c.come.result came c.come.ensures is).opened.granted.1

pub returns-clause-new : goal.returns-clause-new
returns-clause-new g c came is =
    let named = g.J.SiteNaming in
    let at = c.args.desk.now in
    (entered (named.begun at) (named.plan at) at c.args.comer.now.who c.args.comer.now.ask c.come.result came c.come.ensures is).new
