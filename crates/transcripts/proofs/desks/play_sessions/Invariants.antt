-- A text of sessions is played (`desks::play_sessions`): the names that the clauses use for its new desk, ledger,
-- history and hall.
use Rattle.transcripts.proofs.desks.play_sessions.Given as goal

abbrev pub ghosts-play_at-L-Ledger : goal.ghosts-play_at-L-Ledger
ghosts-play_at-L-Ledger g a = record { name = a.blank.name; parts = a.blank.parts }

abbrev pub ghosts-play_at-L-Naming : goal.ghosts-play_at-L-Naming
ghosts-play_at-L-Naming g a = record { table = a.opened }

abbrev pub ghosts-play_at-L-DeskLedger : goal.ghosts-play_at-L-DeskLedger
ghosts-play_at-L-DeskLedger g a = record { all = a.blank.parts; begun = a.hall }
