-- The lines of a session are answered one after another (`serve_talk`), and its tenant has left at the end.
use Rattle.session.proofs.Common.{◌≡◌, ℕ, List, false, sym, ap₂, subst, rules, ◌∙◌, LineText, Handler, HandlerOf, Ghosts, LineGhosts, LeavesIf, handler_of}
use Rattle.session.proofs.Served.{chain-keeps, talk-seen}
use Rattle.session.proofs.serving.serve_talk.Goals as goal

-- how a handler answers
abbrev Answers-line : {O T : Type 0} (office : Ghosts O) (lines : LineGhosts T O) → Handler O T office lines → LineText → List ℕ → Handler O T office lines → Type 0
Answers-line office lines s line text t = (t.office.ghost_name ≡ s.office.ghost_name) × lines.comes (handler_of s.office.now s.seated) line text (handler_of t.office.now t.seated)

-- what a handler has
abbrev see : {O T : Type 0} (office : Ghosts O) (lines : LineGhosts T O) → Handler O T office lines → HandlerOf O
see office lines a = handler_of a.office.now a.seated

pub returns : goal.returns
returns g c =
    let does = g.O.Office.does in
    let comes = g.T.LineProtocol.comes in
    let talk = c.talk_lines-talk in
    let handler = c.new-handler in
    let y = talk.ensures.lines in
    let answers = Answers-line g.O.Office g.T.LineProtocol in
    let name = chain-keeps answers (λ a. a.office.ghost_name) (λ a line text b h. h.0) handler.result y.answered y.texts talk.new.answerer y.answers_lead in
    let sees = see g.O.Office g.T.LineProtocol in
    let start = ap₂ handler_of handler.ensures.office handler.ensures.seated in (
      sees talk.new.answerer,
      talk-seen answers comes sees (λ a line text b h. h.1) handler.result talk.new.answerer (handler_of c.args.office.now false) start talk.ensures,
      subst (λ o. LeavesIf does talk.new.answerer.seated talk.new.answerer.office.now o) (sym (search (rules, sym (name ∙ handler.ensures.same_office)))) c.leave_if_seated.ensures,
    )
