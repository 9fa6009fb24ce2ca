-- A worker offers a step under the lock of a site's desk (`offer` of `LockedSite`): what lies there stays sound.
use Rattle.site_desk.proofs.Common.{◌∙◌}
use Rattle.site_desk.proofs.HallSteps.{worker-within}
use Rattle.site_desk.proofs.Keepings.{booked-step}
use Rattle.site_desk.proofs.locked_site.LockedSiteUnderLock.offer.Goals as goal

pub invariant_of-self : goal.invariant_of-self
invariant_of-self g c =
    let i = c.self.invariant in
    let r = c.offer-answer.ensures in
    let was = c.self.inside in (
      booked-step was.noted.hall c.offer-answer.new.self.hall was.book c.args.step.now c.offer-answer.result i.0 (worker-within c.args.step.now c.requires.worker) r.step,
      i.1,
      r.come (g.J.SiteNaming.begun was.at) i.2,
      r.id.0 ∙ i.3,
      r.id.1 ∙ i.3,
      i.5,
      i.6,
      i.7,
    )
