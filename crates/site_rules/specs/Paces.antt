-- Meaning: until when a connection to a site may be silent.
use Rattle.std.specs.Prelude.{ℕ, ◌+◌, ◌-◌, ◌^◌, nat_lt, min, Option, Some, None, if◌then◌else◌}
use Rattle.site_rules.specs.declared.paces.Pace.{Pace}
use Rattle.site_rules.specs.declared.paces.Times.{Times}

-- until when a connection may be silent: before its HELLO is welcomed counted from its beginning, and then from its
-- last line; no later than the clock can say
abbrev pub until : Times → Pace → ℕ
until times pace = min (if pace.welcomed then pace.last + times.idle else pace.came + times.welcome) (2 ^ 64 - 1)

-- how long a connection may be silent from now on; None where it may be silent no more
abbrev pub time_left : Times → Pace → ℕ → Option ℕ
time_left times pace now = if nat_lt now (until times pace) then Some (until times pace - now) else None
