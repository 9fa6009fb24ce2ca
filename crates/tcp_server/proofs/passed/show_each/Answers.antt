-- Answers for show_each: what the history was shown to last is a session in it too.
use Rattle.std.proofs.Common.{◌≢◌, ◌<◌, length, sym, ◌∙◌, subst, arith, slice_index_or, slice_set, below_more, get_or-set_other, get_or-set_same}
use Rattle.std.proofs.Math.Seq.{map-set_same}
use Rattle.tcp_server.specs.Connections.{but_knew, IsSessionIn}
use Rattle.tcp_server.proofs.passed.show_each.Goals as goal

pub loop-passed-preserved : goal.loop-passed-preserved
loop-passed-preserved g c =
    let begun = g.L.DeskLedger.begun in
    let sessions = c.loop-passed.sessions in
    let i = c.loop-passed.passed-index in
    let one = c.show.new.self in
    let (same, history, shown) = c.loop-passed.invariant in
    let within : i < length sessions = omega arith in (
      map-set_same but_knew sessions i one c.passed-item.result c.show.ensures.same ∙ same,
      c.show.ensures.history ∙ history,
      λ k d. below_more (λ n. IsSessionIn begun c.args.history.now (slice_index_or (slice_set sessions i one) n d)) i
          (λ n below. let apart : n ≢ i = omega (arith, below) in subst (λ w. IsSessionIn begun c.args.history.now w) (sym (get_or-set_other sessions i n one d apart)) (shown n d below))
          (subst (λ w. IsSessionIn begun c.args.history.now w) (sym (get_or-set_same sessions i one d within)) (subst (λ h. IsSessionIn begun h one) history c.show.ensures.part)) k,
    )

pub returns-clause-parts : goal.returns-clause-parts
returns-clause-parts g c = λ k d within. c.loop-passed.invariant.2 k d (omega (arith, within))
