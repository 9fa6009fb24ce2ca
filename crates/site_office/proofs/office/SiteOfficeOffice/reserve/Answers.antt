-- A site's session reserves more (`reserve` of `SiteOffice`): raised or refused, the call is one turn of it at its
-- desk.
use Rattle.site_office.proofs.Common.{refl, sym, ap, ◌∙◌, Some, Reserve, Reserved, Refused, reply_of, refusal_number, at_site}
use Rattle.site_office.proofs.TurnLemmas.{heard, noted, raised, raised_answer}
use Rattle.site_office.proofs.office.SiteOfficeOffice.reserve.Goals as goal

pub returns-in-Ok : goal.returns-in-Ok
returns-in-Ok g c =
    let told = c.reserve.ensures in
    let was = c.args.self.now in
    let now = c.hear_any.new.self in
    let same = c.hear_any.ensures in
    let q = c.args.reserve in
    let after = c.reserve.new.seat in
    let said = reply_of (λ _. Reserved q) (raised_answer c.reserve.result) in
    heard g.J.SiteNaming.begun was.desk.now now.desk.now was.seat now.seat was.knew now.knew (Reserve q) (Reserved q) (at_site now.desk.now (Some after) now.knew) (ap (λ d. d.now) same.same_desk.0) same.same_seat same.same_desk.1
    (noted g.J.SiteNaming.begun (at_site now.desk.now now.seat now.knew) (Reserve q) said (Reserved q) now.desk.now now.desk.now (Some after) (Some after) now.knew now.knew (sym (ap (λ a. reply_of (λ _. Reserved q) (raised_answer a)) c.in-Ok.is)) refl refl refl
    (raised g.J.SiteNaming.begun now.desk.now now.seat now.knew c.in-Some.seat after c.in-Some.is q c.reserve.result told.told told.seat _ told.granted))

pub returns-in-Err : goal.returns-in-Err
returns-in-Err g c =
    let told = c.reserve.ensures in
    let was = c.args.self.now in
    let now = c.hear_any.new.self in
    let end = c.count.new.self in
    let same = c.hear_any.ensures in
    let kept = c.count.ensures in
    let q = c.args.reserve in
    let after = c.reserve.new.seat in
    let said = reply_of (λ _. Reserved q) (raised_answer c.reserve.result) in
    let refused = Refused (refusal_number c.raise_refusal.result) in
    heard g.J.SiteNaming.begun was.desk.now now.desk.now was.seat now.seat was.knew now.knew (Reserve q) refused (at_site end.desk.now end.seat end.knew) (ap (λ d. d.now) same.same_desk.0) same.same_seat same.same_desk.1
    (noted g.J.SiteNaming.begun (at_site now.desk.now now.seat now.knew) (Reserve q) said refused now.desk.now end.desk.now (Some after) end.seat now.knew end.knew
    (ap (λ r. Refused (refusal_number r)) c.raise_refusal.ensures ∙ sym (ap (λ a. reply_of (λ _. Reserved q) (raised_answer a)) c.in-Err.is)) (ap (λ d. d.now) kept.same_desk.0) kept.same_seat kept.same_desk.1
    (raised g.J.SiteNaming.begun now.desk.now now.seat now.knew c.in-Some.seat after c.in-Some.is q c.reserve.result told.told told.seat _ told.granted))
