-- Answers for a row: a read and a write stand on their tapes, and nothing else does.
use Rattle.tcp_server.proofs.TapeLemmas.{heard-in-order, sent-in-order}
use Rattle.tcp_server.proofs.taped.rows.each_call_is_on_its_tape.Goals as goal

pub returns : goal.returns
returns c = record { reads = λ from to answers led. heard-in-order from to answers led; writes = λ from to answers led. sent-in-order from to answers led }
