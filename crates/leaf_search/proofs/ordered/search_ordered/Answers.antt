-- The ordered serial search (`search_ordered`): the choice that it returns is one of the board's.
use Rattle.leaf_search.proofs.Common.{subst, IfSome, Contains, cells, choices}
use Rattle.leaf_search.proofs.ordered.search_ordered.Goals as goal

pub returns-clause-chosen : goal.returns-clause-chosen
returns-clause-chosen c =
    subst (λ b. IfSome c.best_ranked.result.choice (Contains (choices (cells b)))) c.of.ensures c.best_ranked.ensures.chosen
