-- The search of a line of `solve` is submitted (`job::ask`): right after the admission it can't be refused.
use Rattle.solve_engine.proofs.Working.{submits-on}
use Rattle.solve_engine.proofs.job.ask.Goals as goal

pub returns : goal.returns
returns g c grain quota limits begun =
    let board = c.args.position.now.board in
    let e = c.step_search.ensures in
    let same = c.submit.ensures.step in
    submits-on grain quota board.own board.opp c.args.depth limits c.args.core.now c.step_search.new.core e.known_before e.procedure
    (rw same at c.submit.ensures.search) begun c.step_search.result (rw same at e.one) (rw same at e.searching)
