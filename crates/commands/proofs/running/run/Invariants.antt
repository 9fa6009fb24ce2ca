-- The program runs a command (`running::run`): the names that the server's clauses use for a new desk, its ledger,
-- history and first hall.
use Rattle.hall.specs.Halls.{empty_hall}
use Rattle.commands.proofs.running.run.Given as goal

abbrev pub ghosts-serve_as_asked-L-Ledger : goal.ghosts-serve_as_asked-L-Ledger
ghosts-serve_as_asked-L-Ledger g a = record { name = a.blank.name; parts = a.blank.parts }

abbrev pub ghosts-serve_as_asked-L-Naming : goal.ghosts-serve_as_asked-L-Naming
ghosts-serve_as_asked-L-Naming g a = record { table = a.opened }

abbrev pub ghosts-serve_as_asked-L-DeskLedger : goal.ghosts-serve_as_asked-L-DeskLedger
ghosts-serve_as_asked-L-DeskLedger g a = record { all = a.blank.parts; begun = empty_hall a.asked.grain a.asked.config }
