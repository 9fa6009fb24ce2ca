-- An input is answered line by line (`answer_lines`): at each turn, the lines of all bytes so far are answered. It
-- ends, as each read has at least one of 2^62 bytes.
use Rattle.line_io.proofs.Common.{◌-◌}
use Rattle.line_io.proofs.Whole.{RunSoFar}
use Rattle.line_io.proofs.answering.answer_lines.Given as goal

abbrev pub invariant-loop-total : goal.invariant-loop-total
invariant-loop-total g l =
    RunSoFar g.S.Source.gives g.K.Sink.takes g.A.LineAnswerer.answers l.initial.source l.initial.sink l.initial.answerer l.total l.source l.sink l.answerer l.cutter

abbrev pub decreases-loop-total : goal.decreases-loop-total
decreases-loop-total g l = 4611686018427387904 - l.total
