-- Of a search's root that has returned: it holds a table of its board, each entry a true bound, so the law
-- `a_returned_root_holds_a_table`.
use Rattle.jamboree_rules.proofs.Rooted.{root-whole}
use Rattle.jamboree_rules.proofs.laws.a_returned_root_holds_a_table.Goals as goal

pub returns-clause-kinds : goal.returns-clause-kinds
returns-clause-kinds c origin words fits root = (root-whole origin words fits root).1

pub returns-clause-table : goal.returns-clause-table
returns-clause-table c origin words fits root = (root-whole origin words fits root).2
