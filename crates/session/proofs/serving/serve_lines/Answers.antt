-- A session is served line by line (`serve_lines`): each call that it makes of the office is one that its lines ask
-- for, and its end is that of the talk.
use Rattle.session.proofs.Common.{false, refl, request, Turned, handler_of}
use Rattle.session.proofs.Served.{talk-session}
use Rattle.session.proofs.serving.serve_lines.Goals as goal

pub returns : goal.returns
returns g c =
    let does = g.O.Office.does in
    let talk = c.serve_talk.ensures in
    let ended = rw (← c.session_end.ensures) at talk.1 in
    talk-session does (λ a. a.office) (λ a. a.seated) (λ from line text to. Turned does (request from.seated line) from text to) (λ a line text b h. h) (handler_of c.args.office.now false) talk.0 c.args.office.now
    c.serve_talk.new.office c.session_end.result refl refl ended talk.2
