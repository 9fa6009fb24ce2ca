-- Meaning: when the client of a site's session that waits for a job is gone.
use Rattle.std.specs.Prelude.{ℕ, ◌-◌, nat_le, Bool, true, false, Option, Some, None}
use Rattle.site_rules.specs.declared.watches.ClientState.{ClientState}
use Rattle.site_rules.specs.declared.watches.ClientState.TheVariants.{Silent, Ended, Lost}
use Rattle.site_rules.specs.declared.watches.Watch.{Watch}

-- since when the input of a waiting session's client has ended, after one more look: since the first look that saw it
abbrev pub ended_since : Option ℕ → ClientState → ℕ → Option ℕ
ended_since before Silent now = None
ended_since (Some since) Ended now = Some since
ended_since (Some since) Lost now = Some since
ended_since None Ended now = Some now
ended_since None Lost now = Some now

-- what is known of a waiting session's client after one more look at its connection
abbrev pub watch_after : Watch → ClientState → ℕ → Watch
watch_after watch seen now = record { since = ended_since watch.since seen now }

-- whether so much time has passed since the time that is given; no where none is
abbrev pub has_passed : Option ℕ → ℕ → ℕ → Bool
has_passed None now hangup = false
has_passed (Some since) now hangup = nat_le hangup (now - since)

-- whether a session's client is gone: at once where the connection is lost, and else once its input has ended for so
-- long
abbrev pub is_gone : Watch → ClientState → ℕ → ℕ → Bool
is_gone watch Silent now hangup = false
is_gone watch Lost now hangup = true
is_gone watch Ended now hangup = has_passed watch.since now hangup
