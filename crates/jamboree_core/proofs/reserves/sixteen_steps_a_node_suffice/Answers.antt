-- Of a tenant's steps: sixteen for each opened node are enough in any order, so the law
-- `sixteen_steps_a_node_suffice`.
use Rattle.std.proofs.lemmas.Bool.{eqb-false}
use Rattle.jamboree_core.proofs.SearchTurns.{journal-counts, journal-left}
use Rattle.jamboree_core.proofs.reserves.sixteen_steps_a_node_suffice.Goals as goal

pub returns-clause-taken : goal.returns-clause-taken
returns-clause-taken c grain journal tenant is searches = (journal-counts grain journal tenant is searches).2

pub returns-clause-suffices : goal.returns-clause-suffices
returns-clause-suffices c grain journal tenant serial frame is searches at = eqb-false _ _ (journal-left grain journal tenant is searches serial frame at)
