-- A use of a site's `ask` (`a_session_asks`): tenant 9's fifth ask, taken, ends its desk's history with its Submit;
-- refused, it leaves list and share.
use Rattle.promise_uses.proofs.Common.{ℕ, arith, ◌∙◌, Submit, root_words, frame_size, SearchStep}
use Rattle.promise_uses.proofs.Parts.{taken-nine, refused-nine, list-of, asked-share, asked-tenant}
use Rattle.promise_uses.proofs.sites.a_session_asks.Goals as goal

pub returns-clause-taken : goal.returns-clause-taken
returns-clause-taken g c =
    let board = c.args.position.now.board in
    let four = c.requires.four in
    let step : ℕ → SearchStep = λ n. Submit n (root_words board.own board.opp c.args.depth) frame_size in
    taken-nine (g.J.SiteNaming.begun c.args.desk.now) _ _ step _ _ c.requires.nine (c.ask.ensures.told c.requires.here (λ full. omega (arith, four, full)))

pub returns-clause-refused : goal.returns-clause-refused
returns-clause-refused g c =
    let board = c.args.position.now.board in
    let four = c.requires.four in
    let step : ℕ → SearchStep = λ n. Submit n (root_words board.own board.opp c.args.depth) frame_size in
    refused-nine (g.J.SiteNaming.begun c.args.desk.now) _ _ step _ _ c.requires.nine (c.ask.ensures.told c.requires.here (λ full. omega (arith, four, full)))

pub returns-clause-list : goal.returns-clause-list
returns-clause-list g c = list-of c.args.seat.now.seat c.ask.new.seat.seat _ c.ask.result c.ask.ensures.asked

pub returns-clause-share : goal.returns-clause-share
returns-clause-share g c = asked-share c.args.seat.now.seat c.ask.new.seat.seat _ c.ask.result c.ask.ensures.asked

pub returns-clause-kept : goal.returns-clause-kept
returns-clause-kept g c = asked-tenant c.args.seat.now.seat c.ask.new.seat.seat _ c.ask.result c.ask.ensures.asked ∙ c.requires.nine
