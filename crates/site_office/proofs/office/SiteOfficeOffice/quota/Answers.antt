-- A site's session asks what it has left (`quota` of `SiteOffice`): what it is told is what its desk's history says.
use Rattle.site_office.proofs.Common.{refl, ap, Some, AskQuota, Rest, reply_of, at_site, office_of}
use Rattle.site_office.proofs.TurnLemmas.{heard, placed, quota-turn, seat-was, stayed, stays-of}
use Rattle.site_office.proofs.office.SiteOfficeOffice.quota.Goals as goal

pub returns-in-Some : goal.returns-in-Some
returns-in-Some g c =
    let told = c.quota.ensures in
    let was = c.args.self.now in
    let now = c.hear_any.new.self in
    let same = c.hear_any.ensures in
    let here = c.in-Some.seat in
    let own = placed now.desk.now now.seat here c.in-Some.is now.placed in
    heard g.J.SiteNaming.begun was.desk.now now.desk.now was.seat now.seat was.knew now.knew AskQuota (reply_of Rest c.quota.result) (at_site now.desk.now (Some c.quota.new.seat) now.knew) (ap (λ d. d.now) same.same_desk.0) same.same_seat same.same_desk.1
    (stayed g.J.SiteNaming.begun now.desk.now now.seat now.knew here c.quota.new.seat c.in-Some.is AskQuota (reply_of Rest c.quota.result) (stays-of Rest c.quota.result (λ x. refl))
    (quota-turn (g.J.SiteNaming.begun now.desk.now) (office_of (at_site now.desk.now now.seat now.knew)) here.seat c.quota.new.seat.seat c.quota.result (seat-was now.seat here c.in-Some.is) (told.look own) (told.left own) told.refused))
