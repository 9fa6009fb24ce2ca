-- The evaluation's discs (`values::discs_value`): the sum of all weights passed fits in 32 bits, and is the defined
-- one.
use Rattle.othello_eval.proofs.Common.{◌≡◌, ◌+◌, sym, ap, ◌∙◌, drop, pos, ◌+ℤ◌, ◌*ℤ◌, get_or, to_z, w32, subst, arith, ints, cells, weights, discs_value, IsWithin, disc_difference}
use Rattle.othello_eval.proofs.ValueLemmas.{weighed-within}
use Rattle.othello_eval.proofs.MaskLemmas.{weighed_sum, weight_table, sums-more, sum-fits, sums-next, sums-end, weight-fits, weighed_sum-discs_value}
use Rattle.othello_eval.proofs.values.discs_value.Goals as goal

pub overflow_add-sum : goal.overflow_add-sum
overflow_add-sum c =
    let h = c.loop-weight.invariant in
    sum-fits (to_z w32 c.loop-weight.sum-bits) c.weighed-sum.result c.loop-weight.weight-index c.loop-weight-test.true h.low h.high c.weighed-sum.ensures.within

pub loop-weight-preserved : goal.loop-weight-preserved
loop-weight-preserved c =
    let h = c.loop-weight.invariant in
    let i = c.loop-weight.weight-index in
    let own = c.args.board.own in
    let opp = c.args.board.opp in
    let rest = weighed_sum own opp (drop (i + 1) weight_table) in
    let more = sums-more (to_z w32 c.loop-weight.sum-bits) c.weighed-sum.result i (weighed_sum own opp (drop i weight_table)) rest (weighed_sum own opp weight_table)
    c.loop-weight-test.true h.low h.high c.weighed-sum.ensures.within h.so_far
    (sums-next own opp i c.loop-weight-test.true ∙ ap (λ w. (w *ℤ disc_difference own opp (get_or weight_table i (pos 0, 0)).1) +ℤ rest) (weight-fits i) ∙ ap (λ v. v +ℤ rest) (sym c.weighed-sum.ensures.value)) in
    record { so_far = more.0; low = more.1; high = more.2 }

pub returns : goal.returns
returns c =
    let own = c.args.board.own in
    let opp = c.args.board.opp in
    let h = c.loop-weight.invariant.so_far in
    let done = sums-end own opp c.loop-weight.weight-index (omega arith) in
    let whole = weighed_sum-discs_value own opp (omega arith) (omega arith) c.args.board.disjoint in
    let is : to_z w32 c.loop-weight.sum-bits ≡ discs_value (cells c.args.board) weights = omega (arith, ints, h, done, whole) in
    record { value = is; within = subst (IsWithin 928) (sym is) (weighed-within (cells c.args.board)) }
