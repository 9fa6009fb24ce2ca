-- Answers for a row: what a socket hands on, and what its writes moved.
use Rattle.tcp_server.proofs.TapeLemmas.{handed-in-order, moved-in-order, nothing-made-up}
use Rattle.tcp_server.proofs.taped.rows.each_byte_is_handed_on.Goals as goal

pub returns : goal.returns
returns c = record { reads = λ from to answers led. handed-in-order from to answers led; writes = λ from to answers led. moved-in-order from to answers led; nothing = λ socket fills. nothing-made-up socket 7 fills }
