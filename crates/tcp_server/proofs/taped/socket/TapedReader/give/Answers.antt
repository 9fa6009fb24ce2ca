-- Answers for give: what is given is the first of what was ahead.
use Rattle.std.proofs.Common.{◌∙◌, ap, sym, arith, length-take-le}
use Rattle.tcp_server.proofs.AheadLemmas.{first-given}
use Rattle.tcp_server.proofs.taped.socket.TapedReader.give.Goals as goal

pub returns-clause-bytes : goal.returns-clause-bytes
returns-clause-bytes c =
    let s = c.self.inside in
    sym (ap (λ r. r.ahead) c.self.view_is) ∙ first-given s.block s.start s.end c.min-count.result _ _ (omega (arith, c.min-count.ensures)) c.self.invariant.0 c.copy_from_slice.ensures.after (c.copy_from_slice.ensures.len ∙ length-take-le c.min-count.result c.args.block.now (omega (arith, c.min-count.ensures)))
