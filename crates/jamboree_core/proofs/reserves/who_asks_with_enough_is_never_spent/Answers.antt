-- Of a tenant that asks for each search with enough left and no other that lives: none of its jobs can be spent, so
-- the law `who_asks_with_enough_is_never_spent`.
use Rattle.jamboree_core.proofs.EnoughBounds.{positions-enough, root-nodes, positions-roomy, root-segments, any-nodes, any-segments}
use Rattle.jamboree_core.proofs.NeverSpent.{asks-refused}
use Rattle.jamboree_core.proofs.reserves.who_asks_with_enough_is_never_spent.Goals as goal

pub returns-clause-never : goal.returns-clause-never
returns-clause-never c grain journal tenant number serial frame is searches each at = asks-refused grain (positions-enough grain) (positions-roomy grain) journal tenant is searches number serial frame at (root-nodes grain) (root-segments grain) each

pub returns-clause-any : goal.returns-clause-any
returns-clause-any c depth grain b = (any-nodes grain depth b, any-segments grain depth b)
