-- A talk is answered line by line (`talk_lines`): each way out, a line that ends it, the end, a failed read or write,
-- leaves just the answers that are due.
use Rattle.line_io.proofs.Common.{◌∙◌, sym, ap, Ok, true, false, err_from_is_err_and, not-true, not-false}
use Rattle.line_io.proofs.Whole.{read-gave, read-ended}
use Rattle.line_io.proofs.Talks.{Talking-start, Talking-more, Talk-read-failed, Talk-stopped, Talk-write-failed, Talk-ended, Talk-last-failed}
use Rattle.line_io.proofs.talking.talk_lines.Goals as goal

pub loop-init : goal.loop-init
loop-init g c =
    Talking-start g.A.Ends.ends g.S.Source.gives g.K.Sink.takes g.A.LineAnswerer.answers _ _ _ _ c.new-cutter.ensures

pub returns-in_err-count : goal.returns-in_err-count
returns-in_err-count g c =
    let p = err_from_is_err_and c.from_residual.result c.from_residual.ensures.1 in
    rw (p.1, p.2) (Talk-read-failed c.loop.invariant c.in_err-count.ensures.answer)

pub returns-in_err-talk_last : goal.returns-in_err-talk_last
returns-in_err-talk_last g c =
    let p = err_from_is_err_and c.from_residual-in_err-talk_last.result c.from_residual-in_err-talk_last.ensures.1 in
    let ended = read-ended g.S.Source.gives _ _ _ _ c.if-count-eq0.true c.in_ok-count.ensures.answer in
    rw (p.1, p.2) (Talk-last-failed c.loop.invariant ended c.in_err-talk_last.ensures.lines)

pub returns-then-count-eq0 : goal.returns-then-count-eq0
returns-then-count-eq0 g c =
    let ended = read-ended g.S.Source.gives _ _ _ _ c.if-count-eq0.true c.in_ok-count.ensures.answer in
    Talk-ended c.loop.invariant ended c.in_ok-talk_last.ensures.lines c.in_ok-talk_last.ensures.end

pub returns-in_err-talk_block : goal.returns-in_err-talk_block
returns-in_err-talk_block g c =
    let p = err_from_is_err_and c.from_residual-in_err-talk_block.result c.from_residual-in_err-talk_block.ensures.1 in
    let gave = read-gave g.S.Source.gives _ _ _ _ c.if-count-eq0.false c.in_ok-count.ensures.answer in
    rw (p.1, p.2) (Talk-write-failed c.loop.invariant gave c.in_err-talk_block.ensures.lines)

pub returns-then-branch : goal.returns-then-branch
returns-then-branch g c =
    let stops = not-true _ (sym c.in_ok-talk_block.ensures.ended ∙ c.if-branch.true) in
    let gave = read-gave g.S.Source.gives _ _ _ _ c.if-count-eq0.false c.in_ok-count.ensures.answer in
    Talk-stopped c.loop.invariant gave c.in_ok-talk_block.ensures.lines stops

pub loop-preserved : goal.loop-preserved
loop-preserved g c =
    let goes_on = not-false _ (sym c.in_ok-talk_block.ensures.ended ∙ c.if-branch.false) in
    let gave = read-gave g.S.Source.gives _ _ _ _ c.if-count-eq0.false c.in_ok-count.ensures.answer in
    Talking-more c.loop.invariant gave c.in_ok-talk_block.ensures.lines goes_on (c.in_ok-talk_block.ensures.cutter (ap Ok c.if-branch.false))
