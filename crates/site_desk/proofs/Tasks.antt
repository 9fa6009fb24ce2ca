-- At a site's desk: what a worker that has waited is given, where nobody who shares has a ready frame.
use Rattle.site_desk.proofs.Common.{inr, Option, Some, None, subst, Task, SiteOf, IsNextReady, IsNextTask, IsSitePick}

pub next_by : (before after : SiteOf) (found : Option Task) → IsSitePick before None after → IsNextReady after.booked.hall.shared found → IsNextTask before found after
next_by before after None picked h = (picked, subst (λ (s : SiteOf). IsNextReady s.booked.hall.shared None) picked.0 h)
next_by before after (Some task) picked h = inr (picked, subst (λ (s : SiteOf). IsNextReady s.booked.hall.shared (Some task)) picked.0 h)
