-- For Tape::note: the call that its note stands for.
use Rattle.std.proofs.Common.{Some}
use Rattle.tcp_server.proofs.taped.Tape.note.Given as goal

abbrev pub ghosts-note_call : goal.ghosts-note_call
ghosts-note_call a = record { call = Some a._bytes.now }
