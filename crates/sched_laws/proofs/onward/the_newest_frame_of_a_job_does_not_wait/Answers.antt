-- Of the newest frame of a job that lives: it doesn't wait, so the law `the_newest_frame_of_a_job_does_not_wait`.
use Rattle.sched_laws.proofs.NotStuck.{newest-goes}
use Rattle.sched_laws.proofs.onward.the_newest_frame_of_a_job_does_not_wait.Goals as goal

pub returns : goal.returns
returns c = newest-goes
