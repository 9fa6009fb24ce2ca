-- A test at a desk (`desks::try_out`): the names that the clauses use for its new desk, ledger, history and hall.
use Rattle.thread_tests.proofs.tests.desks.try_out.Given as goal

abbrev pub ghosts-try_at-L-Ledger : goal.ghosts-try_at-L-Ledger
ghosts-try_at-L-Ledger g a = record { name = a.blank.name; parts = a.blank.parts }

abbrev pub ghosts-try_at-L-Naming : goal.ghosts-try_at-L-Naming
ghosts-try_at-L-Naming g a = record { table = a.opened }

abbrev pub ghosts-try_at-L-DeskLedger : goal.ghosts-try_at-L-DeskLedger
ghosts-try_at-L-DeskLedger g a = record { all = a.blank.parts; begun = a.hall }
