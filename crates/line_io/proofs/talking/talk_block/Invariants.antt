-- A block of a talk is answered (`talking::talk_block`): at each turn, the lines that the bytes so far ended are
-- answered, and none of them ends the talk.
use Rattle.line_io.proofs.Talked.{TalkSoFar}
use Rattle.line_io.proofs.talking.talk_block.Given as goal

abbrev pub invariant-loop-byte : goal.invariant-loop-byte
invariant-loop-byte g l =
    TalkSoFar g.A.Ends.ends g.K.Sink.takes g.A.LineAnswerer.answers l.initial.sink l.initial.answerer l.initial.cutter l.block l.byte-index l.sink l.answerer l.cutter
