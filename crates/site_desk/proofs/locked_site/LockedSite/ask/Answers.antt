-- A session asks under the lock of a site's desk (`LockedSite::ask`): what lies there stays sound, with the hall, the
-- book and the list of sessions in step.
use Rattle.site_desk.proofs.Common.{refl, ◌∙◌}
use Rattle.site_desk.proofs.Keepings.{booked-ask}
use Rattle.site_desk.proofs.locked_site.LockedSite.ask.Goals as goal

pub invariant_of-self : goal.invariant_of-self
invariant_of-self g c =
    let i = c.self.invariant in
    let r = c.ask.ensures in
    let was = c.self.inside in (
      booked-ask _ c.seat.inside.core.seat c.ask.new.seat.seat was.noted c.ask.new.self was.book _ c.ask.result i.0 refl r.asked r.step r.same,
      i.1,
      r.come (g.J.SiteNaming.begun was.at) i.2,
      r.id.0 ∙ i.3,
      i.4,
      i.5,
      i.6,
      i.7,
    )
