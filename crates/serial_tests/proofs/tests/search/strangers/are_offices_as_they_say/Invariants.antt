-- A test of an office that nobody knows (`strangers`): the names that the clauses use for its new desk, ledger,
-- history and hall.
use Rattle.serial_tests.proofs.tests.search.strangers.are_offices_as_they_say.Given as goal

abbrev pub ghosts-is_new_desk_as_it_says-L-Ledger : goal.ghosts-is_new_desk_as_it_says-L-Ledger
ghosts-is_new_desk_as_it_says-L-Ledger g a = record { name = a.blank.name; parts = a.blank.parts }

abbrev pub ghosts-is_new_desk_as_it_says-L-Naming : goal.ghosts-is_new_desk_as_it_says-L-Naming
ghosts-is_new_desk_as_it_says-L-Naming g a = record { table = a.opened }

abbrev pub ghosts-is_new_desk_as_it_says-L-DeskLedger : goal.ghosts-is_new_desk_as_it_says-L-DeskLedger
ghosts-is_new_desk_as_it_says-L-DeskLedger g a = record { all = a.blank.parts; begun = a.hall }
