-- Meaning: how many lines of a site's customer pass in a time.
use Rattle.std.specs.Prelude.{ℕ, suc, ◌+◌, ◌*◌, ◌≤◌, nat_le, max, Bool, List, [], ◌∷◌, if◌then◌else◌}
use Rattle.site_file.specs.declared.rate.Rate.{Rate}

-- when all lines of a customer are paid off, one line a period, with one more that comes now; those before it are paid
-- off at the time `paid`
abbrev pub after_line : Rate → ℕ → ℕ → ℕ
after_line rate paid now = max paid now + rate.period

-- whether a customer's line may pass now: all lines with it are paid off within the time of so many lines as may come
-- at once
abbrev pub may_pass : Rate → ℕ → ℕ → Bool
may_pass rate paid now = nat_le (after_line rate paid now) (now + rate.period * rate.burst)

-- when all lines of a customer are paid off after one that passes or doesn't; one that doesn't costs nothing
abbrev pub paid_after : Rate → ℕ → ℕ → ℕ
paid_after rate paid now = if may_pass rate paid now then after_line rate paid now else paid

-- how many of a customer's lines pass that come at these times
abbrev pub passed : Rate → ℕ → List ℕ → ℕ
passed rate paid [] = 0
passed rate paid (now ∷ times) = if may_pass rate paid now then suc (passed rate (after_line rate paid now) times) else passed rate paid times

-- each of these times is within the span from the one time to the other
abbrev pub AreWithin : ℕ → ℕ → List ℕ → Type 0
AreWithin from to [] = Unit {0}
AreWithin from to (now ∷ times) = (from ≤ now) × (now ≤ to) × AreWithin from to times
