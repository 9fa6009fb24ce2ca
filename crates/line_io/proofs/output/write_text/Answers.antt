-- A text is written by as many calls as it takes (`output::write_text`): at a failure only a beginning of it is
-- written.
use Rattle.line_io.proofs.Common.{arith, rules, length-drop, err_from_is_err_and}
use Rattle.line_io.proofs.Written.{Sent-more, Sent-failed, offered-all}
use Rattle.line_io.proofs.output.write_text.Goals as goal

pub returns-in_err-sent : goal.returns-in_err-sent
returns-in_err-sent g c =
    let p = err_from_is_err_and c.from_residual.result c.from_residual.ensures.1 in
    rw p.1 (Sent-failed c.loop-sent.invariant.sent c.loop-sent-test.true c.in_err-sent.ensures.answer)

pub loop-sent-preserved : goal.loop-sent-preserved
loop-sent-preserved g c =
    record {
      within = omega (arith, length-drop c.loop-sent.sent c.args.bytes.now, c.in_ok-sent.ensures.bound);
      sent = Sent-more c.loop-sent.invariant.sent _ (offered-all c.loop-sent.sent c.args.bytes.now) c.in_ok-sent.ensures.answer;
    }

pub loop-sent-init : goal.loop-sent-init
loop-sent-init g c = search rules
