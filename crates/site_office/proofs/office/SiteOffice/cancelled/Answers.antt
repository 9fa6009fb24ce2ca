-- A site's session cancels a job (`SiteOffice::cancelled`): what it is told is what its desk's history says.
use Rattle.site_office.proofs.Common.{refl, ap, SiteSeatOf, Cancel, Ended, reply_of, at_site, cancel-turn, office_of}
use Rattle.site_office.proofs.TurnLemmas.{placed, seat-was, stayed, stays-of}
use Rattle.site_office.proofs.office.SiteOffice.cancelled.Goals as goal

pub returns-in-Some-clause-turn : goal.returns-in-Some-clause-turn
returns-in-Some-clause-turn g c =
    let told = c.cancel.ensures in
    let at = c.args.self.now.desk.now in
    let seat = c.args.self.now.seat in
    let knew = c.args.self.now.knew in
    let here = c.in-Some.seat in
    stayed g.J.SiteNaming.begun at seat knew here c.cancel.new.seat c.in-Some.is (Cancel c.args.job) (reply_of (λ _. Ended c.args.job) c.cancel.result) (stays-of (λ _. Ended c.args.job) c.cancel.result (λ x. refl))
    (cancel-turn (g.J.SiteNaming.begun at) (office_of (at_site at seat knew)) here.seat c.cancel.new.seat.seat c.args.job c.cancel.result (seat-was seat here c.in-Some.is) told.share (λ h. let n = told.none h in (n.0, ap (λ (s : SiteSeatOf). s.seat) n.1)) (told.told (placed at seat here c.in-Some.is c.args.self.now.placed)) told.refused)
