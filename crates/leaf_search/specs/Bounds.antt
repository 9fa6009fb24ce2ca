-- Meaning: what a serial search through a window (alpha, beta) promises of a value: a bound.
use Rattle.std.specs.Prelude.{◌≡◌, ℤ, ◌<ℤ◌, ◌≤ℤ◌}

-- what a score s that a search with the window from a to z gave says of the value m: at most a, it is an upper bound
-- of m; at least z, a lower bound; strictly between the two, m itself (the fail-soft alpha-beta of Fishburn)
pub record IsBound (a z s m : ℤ) : Type 0 where
  pub upper : s ≤ℤ a → m ≤ℤ s
  pub lower : z ≤ℤ s → s ≤ℤ m
  pub exact : a <ℤ s → s <ℤ z → m ≡ s
