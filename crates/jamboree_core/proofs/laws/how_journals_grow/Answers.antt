-- Of tenants' journals: how each taken step lengthens its own tenant's and no other's, so the law `how_journals_grow`.
use Rattle.jamboree_core.proofs.Common.{jamboree}
use Rattle.jamboree_core.proofs.JournalLemmas.{journal-begins, journal-goes-on, others-stay}
use Rattle.jamboree_core.proofs.laws.how_journals_grow.Goals as goal

pub returns-clause-begins : goal.returns-clause-begins
returns-clause-begins c grain before number quota did after known one = journal-begins (jamboree grain) before number quota did after known one

pub returns-clause-goes_on : goal.returns-clause-goes_on
returns-clause-goes_on c grain before step did after journal tenant next known one at at_after is = journal-goes-on (jamboree grain) before step did after journal tenant next known one at at_after is

pub returns-clause-others : goal.returns-clause-others
returns-clause-others c grain before step answer after number known one other = others-stay (jamboree grain) before step answer after number known one other
