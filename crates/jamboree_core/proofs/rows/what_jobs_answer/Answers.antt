-- Rows of jobs: of four Submits and their jobs in order, the one that is done has the reply to its own; the others
-- (live, spent, cancelled) need none.
use Rattle.jamboree_core.proofs.Replying.{answered}
use Rattle.jamboree_core.proofs.rows.what_jobs_answer.Goals as goal

pub returns-clause-in_order : goal.returns-clause-in_order
returns-clause-in_order c = (answered, (tt, (tt, (tt, tt))))
