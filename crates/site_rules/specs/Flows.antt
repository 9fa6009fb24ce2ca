-- Meaning: how fast the lines of a site's session are answered. Each costs 2 milliseconds, and 1,000 may come at once.
use Rattle.std.specs.Prelude.{ℕ, ◌+◌, ◌-◌, ◌*◌, ◌^◌, min, max}

-- when all lines of a session are paid off, of which so many come now; no later than the clock can say
abbrev pub paid_with : ℕ → ℕ → ℕ → ℕ
paid_with paid lines now = min (max paid now + min (lines * 2000) (2 ^ 64 - 1)) (2 ^ 64 - 1)

-- how long a session sleeps before its lines are answered, which are paid off at this time
abbrev pub pause : ℕ → ℕ → ℕ
pause paid now = paid - min (now + 2000000) (2 ^ 64 - 1)
