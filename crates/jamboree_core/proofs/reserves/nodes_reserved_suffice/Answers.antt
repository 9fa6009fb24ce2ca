-- Of the nodes that a tenant of searches reserved: once enough, they stay so after each step, if each further Submit
-- finds room too; the law `nodes_reserved_suffice`.
use Rattle.jamboree_core.proofs.NeverSpent.{begins, more-nodes, never-without-nodes}
use Rattle.jamboree_core.proofs.Needs.{search-uses}
use Rattle.jamboree_core.proofs.Weights.{step-room}
use Rattle.jamboree_core.proofs.reserves.nodes_reserved_suffice.Goals as goal

pub returns-clause-begins : goal.returns-clause-begins
returns-clause-begins c cost tenant number own opp depth shape idle room = begins cost tenant shape idle number own opp depth room

pub returns-clause-step : goal.returns-clause-step
returns-clause-step c grain cost origins tenant step outcome enough shape searches has too is = step-room (search-uses grain cost enough) shape searches.fits more-nodes has step outcome too is

pub returns-clause-suffices : goal.returns-clause-suffices
returns-clause-suffices c grain cost origins tenant worker name enough shape searches has = never-without-nodes enough shape searches has worker name
