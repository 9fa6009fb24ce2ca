-- Two sessions that left a site's desk are compared (`SiteDesk::compare`): each step of the one history that both see
-- was taken.
use Rattle.site_desk.proofs.Common.{◌≡◌, subst, jamboree, AreTaken, steps_of}
use Rattle.site_desk.proofs.site_desk.SiteDesk.compare.Goals as goal

pub returns-clause-legal : goal.returns-clause-legal
returns-clause-legal g c = λ both.
    let at : c.deref_mut.result.now.value.at ≡ c.args.self.now = rw c.deref_mut.ensures.value c.enter.ensures in
    subst (λ n. AreTaken (jamboree (g.J.SiteNaming.begun n).grain) (g.J.SiteNaming.begun n).shared (steps_of c.compare.new.one.known.seen)) at c.compare.ensures.legal
