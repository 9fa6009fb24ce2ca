-- A session asks a site's desk what it has left (`SiteDesk::quota`): what it is told is of the desk that its seat is
-- of.
use Rattle.site_desk.proofs.Common.{◌≡◌, ℕ, refl, ◌∙◌, subst, CoreState, core_at, left_in_core, found_or_no_tenant}
use Rattle.site_desk.proofs.site_desk.SiteDesk.quota.Goals as goal

pub returns-clause-left : goal.returns-clause-left
returns-clause-left g c = λ own.
    let begun = g.J.SiteNaming.begun in
    let site = c.deref_mut.result.now.value in
    let seen = c.show.new.seat.seat.known.seen in
    let at : site.at ≡ c.args.self.now = rw c.deref_mut.ensures.value c.enter-kept.ensures in
    let core = subst (λ n. site.booked.hall.shared ≡ core_at (begun n) seen) at c.show.ensures.core in
    let hall : c.hall.result.now.shared ≡ site.booked.hall.shared = rw (c.hall.ensures, c.deref.ensures, c.show.ensures.same) refl in
    subst (λ (x : CoreState × ℕ). c.left_of.result ≡ found_or_no_tenant (left_in_core x.0 x.1)) (λ i. ((hall ∙ core) i, c.number.ensures i)) c.left_of.ensures
