-- The promise on journals (`same_journals`): a tenant with the same journal in two halls is in the same state in both.
use Rattle.promises.proofs.HallLemmas.{same-journals}
use Rattle.promises.proofs.same_journals.Goals as goal

pub returns : goal.returns
returns g c grain number journal =
    same-journals c.args.one.now c.args.other.now number c.count-one.ensures.explained c.count-other.ensures.explained grain journal
