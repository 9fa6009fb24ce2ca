-- Of a tenant's journal of searches: its jobs are searches, and those done hold the minimax value, so the law
-- `a_journal_of_searches`.
use Rattle.jamboree_core.proofs.Common.{origins_of}
use Rattle.jamboree_core.proofs.Serving.{tenant-replies}
use Rattle.jamboree_core.proofs.JournalLemmas.{journal-searches}
use Rattle.jamboree_core.proofs.laws.a_journal_of_searches.Goals as goal

pub returns-clause-searches : goal.returns-clause-searches
returns-clause-searches c grain journal tenant is searches = journal-searches grain journal tenant is searches

pub returns-clause-replies : goal.returns-clause-replies
returns-clause-replies c grain journal tenant is searches = tenant-replies (origins_of journal) tenant (journal-searches grain journal tenant is searches)
