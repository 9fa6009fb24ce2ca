-- The weights of four rows of a board (`weighed::half_value`): the sum of the four rows' weights.
use Rattle.othello_eval.proofs.Common.{arith, ints}
use Rattle.othello_eval.proofs.weighed.half_value.Goals as goal

pub returns-clause-value : goal.returns-clause-value
returns-clause-value c =
    let a = c.row_value.ensures in let b = c.row_value-2.ensures in let d = c.row_value-3.ensures in let e = c.row_value-4.ensures in
    omega (arith, ints, a.value, b.value, d.value, e.value, a.within.0, a.within.1, b.within.0, b.within.1, d.within.0, d.within.1, e.within.0, e.within.1)
