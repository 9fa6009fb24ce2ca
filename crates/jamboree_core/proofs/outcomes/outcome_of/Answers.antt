-- What became of a tenant's search (`outcomes::outcome_of`): the job of this number, whose reply is to what its Submit
-- asked for; None where it isn't there.
use Rattle.jamboree_core.proofs.Common.{sym}
use Rattle.jamboree_core.proofs.Serving.{served-job, answers-asked, none-asked}
use Rattle.jamboree_core.proofs.outcomes.outcome_of.Goals as goal

pub of-requires : goal.of-requires
of-requires g c = served-job c.args.core.now.shared c.args.tenant c.args.job c.in-Some.job.now c.requires (sym c.in-Some.ensures)

pub returns-in-Some-clause-asked : goal.returns-in-Some-clause-asked
returns-in-Some-clause-asked g c origins owner there searches =
    answers-asked c.args.core.now.shared c.args.tenant c.args.job searches c.in-Some.job.now c.of.result there (sym c.in-Some.ensures) c.of.ensures

pub returns-in-None-clause-asked : goal.returns-in-None-clause-asked
returns-in-None-clause-asked g c origins owner there searches = none-asked c.args.core.now.shared c.args.tenant c.args.job searches there (sym c.in-None.ensures)
