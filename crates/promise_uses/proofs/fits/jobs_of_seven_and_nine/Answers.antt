-- A use of the law on what jobs hold (`jobs_of_seven_and_nine`): tenant 9's fifth, which is done, and tenant 7's third,
-- which lives, hold what their Submits asked.
use Rattle.promise_uses.proofs.Common.{only, taken_steps}
use Rattle.sched_rules.specs.declared.job.Job.TheVariants.{Live, Done}
use Rattle.sched_laws.specs.Fitted.{origins_of}
use Rattle.promise_uses.proofs.Fitting.{job-fits}
use Rattle.promise_uses.proofs.fits.jobs_of_seven_and_nine.Goals as goal

pub returns-clause-nine : goal.returns-clause-nine
returns-clause-nine g c procedure totals steps answers tenant words right roots there done =
    job-fits (g.P.Procedure.fits procedure) (g.P.Procedure.rooted procedure) tenant.frames (origins_of (only 9 (taken_steps steps answers))) tenant.jobs 5 (Done words)
    (c.each_job_holds_what_it_was_asked.ensures procedure totals steps answers 9 tenant right roots there).jobs done

pub returns-clause-seven : goal.returns-clause-seven
returns-clause-seven g c procedure totals steps answers tenant root right roots there lives =
    job-fits (g.P.Procedure.fits procedure) (g.P.Procedure.rooted procedure) tenant.frames (origins_of (only 7 (taken_steps steps answers))) tenant.jobs 3 (Live root)
    (c.each_job_holds_what_it_was_asked.ensures procedure totals steps answers 7 tenant right roots there).jobs lives
