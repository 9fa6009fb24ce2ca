-- A session waits at a site's desk for a job (`SiteDesk::wait`): what it is told is of the desk that its seat is of.
use Rattle.site_desk.proofs.Common.{◌≡◌, subst, IsShownAt}
use Rattle.site_desk.proofs.site_desk.SiteDesk.wait.Goals as goal

pub returns-clause-told : goal.returns-clause-told
returns-clause-told g c = λ own.
    let at : c.deref_mut-2.result.now.value.at ≡ c.args.self.now = rw c.deref_mut-2.ensures.value c.own-kept.ensures in
    subst (λ n. IsShownAt (g.J.SiteNaming.begun n) c.get.new.seat.seat c.args.job c.get.result) at c.get.ensures.told
