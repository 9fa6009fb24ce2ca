-- A use of the law on a customer's rate at a site (`lines_at_a_rate`): at one moment and in so many periods, no more
-- lines pass than the rate says.
use Rattle.std.proofs.Common.{arith, subst, ◌≡◌, ◌+◌, ◌*◌, ◌<◌, ◌≤◌, ℕ}
use Rattle.std.proofs.Math.Arith.{add-le_cancel_left}
use Rattle.std.proofs.Math.Nat.{le_refl, mul_comm, le_of_mul-le-mul_right}
use Rattle.site_file.specs.Rates.{passed}
use Rattle.promise_uses.proofs.directories.lines_at_a_rate.Goals as goal

-- as many periods as lines at once are as many as lines at once periods
by-lines : (many burst period : ℕ) → many * period + period * burst ≡ (many + burst) * period
by-lines many burst period = grind (arith)

-- a bound by periods is one by lines
bounded : (from lines many burst period : ℕ) → 0 < period → from + lines * period ≤ from + many * period + period * burst → lines ≤ many + burst
bounded from lines many burst period some bound =
    le_of_mul-le-mul_right (subst (λ most. lines * period ≤ most) (by-lines many burst period) (add-le_cancel_left from (grind (arith, bound)))) some

-- the same within no period
bounded-at-once : (now lines burst period : ℕ) → 0 < period → now + lines * period ≤ now + period * burst → lines ≤ burst
bounded-at-once now lines burst period some bound =
    le_of_mul-le-mul_right (subst (λ most. lines * period ≤ most) (mul_comm period burst) (add-le_cancel_left now bound)) some

pub returns : goal.returns
returns c =
    let law = c.no_more_than_the_rate.ensures in
    record {
      at_once = λ rate paid now times some within.
          bounded-at-once now (passed rate paid times) rate.burst rate.period some (law rate paid now now times (le_refl now) within);
      in_periods = λ rate paid from many times some within.
          bounded from (passed rate paid times) many rate.burst rate.period some (law rate paid from (from + many * rate.period) times (grind (arith)) within);
    }
