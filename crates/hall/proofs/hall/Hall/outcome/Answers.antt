-- The hall tells what became of a job (`Hall::outcome`): its reply is to what the tenant's journal says was asked for.
use Rattle.hall.proofs.Halls.{served, answered}
use Rattle.hall.proofs.hall.Hall.outcome.Goals as goal

pub outcome_of-requires : goal.outcome_of-requires
outcome_of-requires g c =
    served c.self.inside.core.procedure.grain _ _ (c.self.invariant.explained.tenants c.args.tenant) (c.self.invariant.explained.searches c.args.tenant)

pub returns-clause-asked : goal.returns-clause-asked
returns-clause-asked g c =
    let explained = c.self.invariant.explained in
    rw (← c.self.view_is)
    (answered _ c.self.inside.core.shared _ c.args.job _ _ (explained.tenants c.args.tenant) (explained.searches c.args.tenant) c.outcome_of.ensures.is c.outcome_of.ensures.asked)
