-- A test of a pool that can't begin (`faults::tried`): the names that the clauses use for its new desk, ledger,
-- history and hall.
use Rattle.thread_tests.proofs.tests.pools.faults.tried.Given as goal

abbrev pub ghosts-found_at-L-Ledger : goal.ghosts-found_at-L-Ledger
ghosts-found_at-L-Ledger g a = record { name = a.blank.name; parts = a.blank.parts }

abbrev pub ghosts-found_at-L-Naming : goal.ghosts-found_at-L-Naming
ghosts-found_at-L-Naming g a = record { table = a.opened }

abbrev pub ghosts-found_at-L-DeskLedger : goal.ghosts-found_at-L-DeskLedger
ghosts-found_at-L-DeskLedger g a = record { all = a.blank.parts; begun = a.hall }
