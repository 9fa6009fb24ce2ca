-- A site's session waits for a job (`SiteOffice::waited`): what it is told is what its desk's history says.
use Rattle.site_office.proofs.Common.{refl, Wait, Told, reply_of, at_site, wait-turn, office_of}
use Rattle.site_office.proofs.TurnLemmas.{placed, seat-was, stayed, stays-of}
use Rattle.site_office.proofs.office.SiteOffice.waited.Goals as goal

pub returns-in-Some-clause-turn : goal.returns-in-Some-clause-turn
returns-in-Some-clause-turn g c =
    let told = c.wait.ensures in
    let at = c.args.self.now.desk.now in
    let seat = c.args.self.now.seat in
    let knew = c.args.self.now.knew in
    let here = c.in-Some.seat in
    let own = placed at seat here c.in-Some.is c.args.self.now.placed in
    stayed g.J.SiteNaming.begun at seat knew here c.wait.new.seat c.in-Some.is (Wait c.args.job) (reply_of (Told c.args.job) c.told_answer.result) (stays-of (Told c.args.job) c.told_answer.result (λ x. refl))
    (wait-turn (g.J.SiteNaming.begun at) (office_of (at_site at seat knew)) here.seat c.wait.new.seat.seat c.args.job c.wait.result c.told_answer.result (seat-was seat here c.in-Some.is) (told.look own) told.shown (told.told own) c.told_answer.ensures)
