-- A test of a running pool (`pools::play`): the names that the clauses use for its new desk, ledger, history and hall.
use Rattle.thread_tests.proofs.tests.pools.play.Given as goal

abbrev pub ghosts-play_on-L-Ledger : goal.ghosts-play_on-L-Ledger
ghosts-play_on-L-Ledger g a = record { name = a.blank.name; parts = a.blank.parts }

abbrev pub ghosts-play_on-L-Naming : goal.ghosts-play_on-L-Naming
ghosts-play_on-L-Naming g a = record { table = a.opened }

abbrev pub ghosts-play_on-L-DeskLedger : goal.ghosts-play_on-L-DeskLedger
ghosts-play_on-L-DeskLedger g a = record { all = a.blank.parts; begun = a.hall }
