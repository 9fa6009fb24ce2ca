-- A site's session asks how many frames it has (`live` of `SiteOffice`): what it is told is what its desk's history
-- says.
use Rattle.site_office.proofs.Common.{refl, ap, Some, Alive, AskLive, reply_of, live_answer, at_site, office_of}
use Rattle.site_office.proofs.TurnLemmas.{heard, live-turn, noted, placed, seat-was, stayed, stays-of}
use Rattle.site_office.proofs.office.SiteOfficeOffice.live.Goals as goal

pub returns-in-Some : goal.returns-in-Some
returns-in-Some g c =
    let told = c.live.ensures in
    let was = c.args.self.now in
    let now = c.hear_any.new.self in
    let same = c.hear_any.ensures in
    let here = c.in-Some.seat in
    let own = placed now.desk.now now.seat here c.in-Some.is now.placed in
    let said = reply_of Alive (live_answer c.live.result) in
    heard g.J.SiteNaming.begun was.desk.now now.desk.now was.seat now.seat was.knew now.knew AskLive (reply_of Alive c.live_answer.result) (at_site now.desk.now (Some c.live.new.seat) now.knew) (ap (λ d. d.now) same.same_desk.0) same.same_seat same.same_desk.1
    (noted g.J.SiteNaming.begun (at_site now.desk.now now.seat now.knew) AskLive said (reply_of Alive c.live_answer.result) now.desk.now now.desk.now (Some c.live.new.seat) (Some c.live.new.seat) now.knew now.knew (ap (reply_of Alive) c.live_answer.ensures) refl refl refl
    (stayed g.J.SiteNaming.begun now.desk.now now.seat now.knew here c.live.new.seat c.in-Some.is AskLive said (stays-of Alive (live_answer c.live.result) (λ x. refl))
    (live-turn (g.J.SiteNaming.begun now.desk.now) (office_of (at_site now.desk.now now.seat now.knew)) here.seat c.live.new.seat.seat c.live.result (seat-was now.seat here c.in-Some.is) (told.look own) (told.live own) told.refused)))
