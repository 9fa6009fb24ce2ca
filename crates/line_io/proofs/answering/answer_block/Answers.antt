-- A block of input is answered (`answering::answer_block`): each byte either ends a line, which is answered, or
-- lengthens the line begun.
use Rattle.line_io.proofs.Common.{◌∙◌, arith, err_from_is_err_and}
use Rattle.line_io.proofs.Blocks.{Block-start, Block-byte, Block-line, Block-failed}
use Rattle.line_io.proofs.answering.answer_block.Goals as goal
use Rattle.line_io.proofs.answering.answer_block.Goals.{then-byte-eq-LF+in_ok-answer_line, else-byte-eq-LF}

pub loop-byte-init : goal.loop-byte-init
loop-byte-init g c = Block-start g.K.Sink.takes g.A.LineAnswerer.answers _ _ _ _

pub returns-in_err-answer_line-clause-lines : goal.returns-in_err-answer_line-clause-lines
returns-in_err-answer_line-clause-lines g c =
    let p = err_from_is_err_and c.from_residual.result c.from_residual.ensures.1 in
    rw p.1 (Block-failed c.loop-byte.invariant (omega arith) c.if-byte-eq-LF.true c.line.ensures c.in_err-answer_line.ensures)

pub loop-byte-preserved : goal.loop-byte-preserved
loop-byte-preserved g c =
    elim c.if-byte-eq-LF.branch [
      | then-byte-eq-LF+in_ok-answer_line w ↦
          rw (w.sink-is, w.answerer-is)
          (Block-line c.loop-byte.invariant (omega arith) w.if-byte-eq-LF.true w.line.ensures w.in_ok-answer_line.ensures (w.cutter-is ∙ w.clear.ensures))
      | else-byte-eq-LF w ↦ rw (w.sink-is, w.answerer-is) (Block-byte c.loop-byte.invariant (omega arith) w.if-byte-eq-LF.false (w.cutter-is ∙ w.push.ensures))
    ]
