-- The weights of a word of squares (`weighed::word_value`): the sum of both halves'.
use Rattle.othello_eval.proofs.Common.{◌≡◌, to_z, of_z, w32, ◌+ℤ◌, sym, subst, arith, ints, cells_of, weights, discs_value, IsWithin}
use Rattle.othello_eval.proofs.MaskLemmas.{board-rows}
use Rattle.othello_eval.proofs.ValueLemmas.{weighed-within}
use Rattle.othello_eval.proofs.weighed.word_value.Goals as goal

pub returns : goal.returns
returns c =
    let a = c.half_value.ensures in let b = c.half_value-2.ensures in
    let whole : to_z w32 (of_z w32 (to_z w32 (of_z w32 c.half_value.result) +ℤ to_z w32 (of_z w32 c.half_value-2.result))) ≡ discs_value (cells_of c.args.word 0) weights =
    omega (arith, ints, board-rows c.args.word, a.value, b.value, a.within.0, a.within.1, b.within.0, b.within.1) in
    record { value = whole; within = subst (IsWithin 928) (sym whole) (weighed-within (cells_of c.args.word 0)) }
