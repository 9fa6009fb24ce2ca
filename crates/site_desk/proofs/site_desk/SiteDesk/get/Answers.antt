-- A session asks a site's desk how a job stands (`SiteDesk::get`): what it is told is of the desk that its seat is of.
use Rattle.site_desk.proofs.Common.{◌≡◌, subst, IsShownAt}
use Rattle.site_desk.proofs.site_desk.SiteDesk.get.Goals as goal

pub returns-clause-told : goal.returns-clause-told
returns-clause-told g c = λ own.
    let at : c.deref_mut.result.now.value.at ≡ c.args.self.now = rw c.deref_mut.ensures.value c.enter.ensures in
    subst (λ n. IsShownAt (g.J.SiteNaming.begun n) c.get.new.seat.seat c.args.job c.get.result) at c.get.ensures.told
