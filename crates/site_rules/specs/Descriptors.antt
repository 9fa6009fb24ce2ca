-- Meaning: how many connections a site's process has descriptors for.
use Rattle.std.specs.Prelude.{ℕ, ◌-◌, min, nat_lt, Option, Some, None, if◌then◌else◌}

-- how many connections a site takes: as many as are wanted, and no more than there are descriptors for beside the 64
-- that are kept for all else; None where there are no more than these
abbrev pub connections_within : ℕ → ℕ → Option ℕ
connections_within descriptors wanted = if nat_lt 64 descriptors then Some (min wanted (descriptors - 64)) else None
