-- A site's session asks for a search (`ask` of `SiteOffice`): the call is one turn of it at its desk, by the question
-- of its line.
use Rattle.site_office.proofs.Common.{refl, ap, Some, Job, reply_of, SiteSeatOf, at_site, office_of, ask-turn}
use Rattle.site_office.proofs.TurnLemmas.{heard, placed, seat-was, stayed, stays-of}
use Rattle.site_office.proofs.office.SiteOfficeOffice.ask.Goals as goal

pub returns-in-Some : goal.returns-in-Some
returns-in-Some g c =
    let asked = c.args.question.now in
    let told = c.ask.ensures in
    let was = c.args.self.now in
    let now = c.hear_any.new.self in
    let same = c.hear_any.ensures in
    let here = c.in-Some.seat in
    let own = placed now.desk.now now.seat here c.in-Some.is now.placed in
    heard g.J.SiteNaming.begun was.desk.now now.desk.now was.seat now.seat was.knew now.knew _ (reply_of Job c.ask.result) (at_site now.desk.now (Some c.ask.new.seat) now.knew) (ap (λ d. d.now) same.same_desk.0) same.same_seat same.same_desk.1
    (stayed g.J.SiteNaming.begun now.desk.now now.seat now.knew here c.ask.new.seat c.in-Some.is _ (reply_of Job c.ask.result) (stays-of Job c.ask.result (λ x. refl))
    (ask-turn (g.J.SiteNaming.begun now.desk.now) (office_of (at_site now.desk.now now.seat now.knew)) here.seat c.ask.new.seat.seat asked.position.board asked.depth asked.position.side c.ask.result (seat-was now.seat here c.in-Some.is)
    asked.shallow told.asked (λ h. ap (λ (s : SiteSeatOf). s.seat) (told.full h)) (told.told own) told.refused))
