-- Answers for serve_office: the lines of a connection are a session at the office's desk, and lines beside it.
use Rattle.site_office.proofs.Common.{ap, false, refl, ◌∙◌, is_some, at_site, handler_of}
use Rattle.site_office.proofs.SeatLemmas.{none-of, same-stays}
use Rattle.site_office.proofs.SessionLemmas.{seen-site}
use Rattle.site_office.proofs.serving.serve_office.Goals as goal

pub returns-clause-nobody : goal.returns-clause-nobody
returns-clause-nobody g c =
    let served = c.serve_talk-end in
    let e = served.ensures in
    none-of served.new.office.seat (c.nobody_stays.ensures (λ office. is_some office.seat)
    (λ from call reply to h. h.there) (λ from token greeted to h. h.there) (λ from paid to h. h.0.there) (λ from info to h. (same-stays from.desk.now to.desk.now from.seat to.seat from.knew to.knew h.0 (ap (λ d. d.now) h.2) h.3).there)
    (handler_of c.args.office.now false) e.0 c.args.source.now served.new.source c.args.sink.now served.new.sink served.new.office served.result
    (ap is_some c.requires) refl e.1 e.2)

pub returns-clause-seen : goal.returns-clause-seen
returns-clause-seen g c = λ new.
    let served = c.serve_talk-end in
    let e = served.ensures in
    seen-site g.J.SiteNaming.begun (λ office. at_site office.desk.now office.seat office.knew) _ _ _ _ (λ from call reply to h. h) (λ from token greeted to h. h) (λ from paid to h. h.0) (λ from info to h. same-stays from.desk.now to.desk.now from.seat to.seat from.knew to.knew h.0 (ap (λ d. d.now) h.2) h.3)
    (λ handler. handler.office) (λ handler. handler.seated) _ (λ from line text to h. h) _ _ c.args.source.now served.new.source c.args.sink.now served.new.sink (handler_of c.args.office.now false) e.0 served.new.office served.result
    c.requires new refl e.1 e.2
