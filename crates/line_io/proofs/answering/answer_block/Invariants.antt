-- A block of input is answered (`answering::answer_block`): at each turn, the lines that the bytes so far ended are
-- answered.
use Rattle.line_io.proofs.Blocks.{BlockSoFar}
use Rattle.line_io.proofs.answering.answer_block.Given as goal

abbrev pub invariant-loop-byte : goal.invariant-loop-byte
invariant-loop-byte g l =
    BlockSoFar g.K.Sink.takes g.A.LineAnswerer.answers l.initial.sink l.initial.answerer l.initial.cutter l.block l.byte-index l.sink l.answerer l.cutter
