-- A line of `solve` has a core of its own (`job::admit`): the core's one tenant is there, with all that the core has.
use Rattle.solve_engine.proofs.Working.{begins}
use Rattle.solve_engine.proofs.job.admit.Goals as goal

pub returns-in-Ok : goal.returns-in-Ok
returns-in-Ok g c =
    let e = c.in-Ok.ensures in
    begins c.args.reserve c.args.core.now c.step_search.new.core c.in-Ok.field-0 c.requires e.known_before e.procedure e.one e.searching
