-- A test of a server (`servers::is_well`): the names that the clauses use for its new desk, ledger, history and hall.
use Rattle.server_tests.proofs.tests.servers.is_well.Given as goal

abbrev pub ghosts-is_well_at-L-Ledger : goal.ghosts-is_well_at-L-Ledger
ghosts-is_well_at-L-Ledger g a = record { name = a.blank.name; parts = a.blank.parts }

abbrev pub ghosts-is_well_at-L-Naming : goal.ghosts-is_well_at-L-Naming
ghosts-is_well_at-L-Naming g a = record { table = a.opened }

abbrev pub ghosts-is_well_at-L-DeskLedger : goal.ghosts-is_well_at-L-DeskLedger
ghosts-is_well_at-L-DeskLedger g a = record { all = a.blank.parts; begun = a.hall }
