-- An input is answered line by line (`answer_lines`): each way out, the end, a failed read or write, too many bytes,
-- leaves just the answers that are due.
use Rattle.line_io.proofs.Common.{err_from_is_err_and}
use Rattle.line_io.proofs.Whole.{read-gave, read-ended, length-front, Run-start, Run-more, Run-read-failed, Run-too_much, Run-ended, Run-last-failed, Run-write-failed}
use Rattle.line_io.proofs.answering.answer_lines.Goals as goal

pub loop-total-init : goal.loop-total-init
loop-total-init g c =
    Run-start g.S.Source.gives g.K.Sink.takes g.A.LineAnswerer.answers _ _ _ _ c.new-cutter.ensures

pub returns-in_err-count : goal.returns-in_err-count
returns-in_err-count g c =
    let p = err_from_is_err_and c.from_residual.result c.from_residual.ensures.1 in
    rw (p.1, p.2) (Run-read-failed c.loop-total.invariant c.in_err-count.ensures.answer)

pub returns-in_err-answer_last : goal.returns-in_err-answer_last
returns-in_err-answer_last g c =
    let p = err_from_is_err_and c.from_residual-in_err-answer_last.result c.from_residual-in_err-answer_last.ensures.1 in
    let ended = read-ended g.S.Source.gives _ _ _ _ c.if-count-eq0.true c.in_ok-count.ensures.answer in
    rw (p.1, p.2) (Run-last-failed c.loop-total.invariant ended c.in_err-answer_last.ensures)

pub returns-then-count-eq0 : goal.returns-then-count-eq0
returns-then-count-eq0 g c =
    let ended = read-ended g.S.Source.gives _ _ _ _ c.if-count-eq0.true c.in_ok-count.ensures.answer in
    Run-ended c.loop-total.invariant ended c.in_ok-answer_last.ensures

pub returns-in_err-answer_block : goal.returns-in_err-answer_block
returns-in_err-answer_block g c =
    let p = err_from_is_err_and c.from_residual-in_err-answer_block.result c.from_residual-in_err-answer_block.ensures.1 in
    let gave = read-gave g.S.Source.gives _ _ _ _ c.if-count-eq0.false c.in_ok-count.ensures.answer in
    rw (p.1, p.2) (Run-write-failed c.loop-total.invariant gave c.in_err-answer_block.ensures.lines)

pub loop-total-preserved : goal.loop-total-preserved
loop-total-preserved g c =
    let gave = read-gave g.S.Source.gives _ _ _ _ c.if-count-eq0.false c.in_ok-count.ensures.answer in
    Run-more c.loop-total.invariant gave (length-front _ _ c.in_ok-count.ensures.bound) c.in_ok-answer_block.ensures.lines c.in_ok-answer_block.ensures.cutter

pub returns : goal.returns
returns g c =
    Run-too_much c.loop-total.invariant c.loop-total-test.false
