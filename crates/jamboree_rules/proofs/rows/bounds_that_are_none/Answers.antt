-- Rows of the search: scores that are no bound of a value, each shown by computing the definition.
use Rattle.jamboree_rules.proofs.Common.{◌≡◌, pos, arith, ints}
use Rattle.jamboree_rules.proofs.rows.bounds_that_are_none.Goals as goal

pub returns : goal.returns
returns c = record {
  upper = λ b. (b.upper (record { le = tt })).le;
  lower = λ b. (b.lower (record { le = tt })).le;
  exact = λ b. (let e : pos 6 ≡ pos 5 = b.exact (record { lt = tt }) (record { lt = tt }) in omega (arith, ints, e));
}
