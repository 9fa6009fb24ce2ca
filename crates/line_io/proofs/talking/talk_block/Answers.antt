-- A block of a talk is answered (`talking::talk_block`): each line that ends in it, up to one that ends the talk.
use Rattle.line_io.proofs.Common.{◌∙◌, ap, sym, not, arith, rules, err_from_is_err_and}
use Rattle.line_io.proofs.Talked.{Talk-start, Talk-byte, Talk-line, Talk-stopped, Talk-failed, Talk-end}
use Rattle.line_io.proofs.talking.talk_block.Goals as goal
use Rattle.line_io.proofs.talking.talk_block.Goals.{then-byte-eq-LF+in_ok-talk_line+else-branch, else-byte-eq-LF}

pub loop-byte-init : goal.loop-byte-init
loop-byte-init g c = Talk-start g.A.Ends.ends g.K.Sink.takes g.A.LineAnswerer.answers _ _ _ _

pub returns-in_err-talk_line-clause-lines : goal.returns-in_err-talk_line-clause-lines
returns-in_err-talk_line-clause-lines g c =
    let p = err_from_is_err_and c.from_residual.result c.from_residual.ensures.1 in
    rw p.1 (Talk-failed c.loop-byte.invariant (omega arith) c.if-byte-eq-LF.true c.in_err-talk_line.ensures.lines)

pub returns-then-branch : goal.returns-then-branch
returns-then-branch g c =
    let line = c.in_ok-talk_line.ensures in
    let stopped = Talk-stopped c.loop-byte.invariant (omega arith) c.if-byte-eq-LF.true line.lines (sym line.last ∙ c.if-branch.true) in
    record { lines = stopped.0; ended = sym (ap not stopped.1); cutter = search rules }

pub loop-byte-preserved : goal.loop-byte-preserved
loop-byte-preserved g c =
    elim c.if-byte-eq-LF.branch [
      | then-byte-eq-LF+in_ok-talk_line+else-branch w ↦
          let line = w.in_ok-talk_line.ensures in
          rw (w.sink-is, w.answerer-is)
          (Talk-line c.loop-byte.invariant (omega arith) w.if-byte-eq-LF.true line.lines (sym line.last ∙ w.if-branch.false) (w.cutter-is ∙ line.cutter))
      | else-byte-eq-LF w ↦ rw (w.sink-is, w.answerer-is) (Talk-byte c.loop-byte.invariant (omega arith) w.if-byte-eq-LF.false (w.cutter-is ∙ w.push.ensures))
    ]

pub returns-clause-lines : goal.returns-clause-lines
returns-clause-lines g c = (Talk-end c.loop-byte.invariant (omega arith)).0
