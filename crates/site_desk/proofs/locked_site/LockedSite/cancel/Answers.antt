-- A session cancels under the lock of a site's desk (`LockedSite::cancel`): what lies there stays sound, with the
-- hall, the book and the list of sessions in step.
use Rattle.site_desk.proofs.Common.{refl, ◌∙◌}
use Rattle.site_desk.proofs.Keepings.{booked-cancel}
use Rattle.site_desk.proofs.locked_site.LockedSite.cancel.Goals as goal

pub invariant_of-self : goal.invariant_of-self
invariant_of-self g c =
    let i = c.self.invariant in
    let r = c.cancel.ensures in
    let was = c.self.inside in (
      booked-cancel _ was.noted c.cancel.new.self was.book _ c.cancel.result i.0 refl (λ none. (r.none none).0) r.step r.same,
      i.1,
      r.come (g.J.SiteNaming.begun was.at) i.2,
      r.id.0 ∙ i.3,
      i.4,
      i.5,
      i.6,
      i.7,
    )
