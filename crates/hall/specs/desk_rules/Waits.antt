-- Meaning: how long a worker that finds a desk's lock taken waits before its next try, in pauses of the processor.
use Rattle.std.specs.Prelude.{ℕ, ◌-◌, ◌*◌, ◌/◌, nat_le, min, max, if◌then◌else◌}

-- the wait for the lock behind leaves of more than two plies, in pauses of the processor
abbrev pub deep_wait : ℕ
deep_wait = 64

-- how long a worker without a task waits before it tries the lock again, in pauses of the processor
abbrev pub idle_wait : ℕ
idle_wait = 512

-- the shortest wait that is a nap: a shorter one spins
abbrev pub nap_wait : ℕ
nap_wait = 2048

-- the shortest wait, by the depth of the last leaf that the worker was given: up to two plies a leaf is computed in less time
-- than the steps that lead to it take
abbrev pub least_wait : ℕ → ℕ
least_wait depth = if nat_le depth 2 then 256 else deep_wait

-- the longest wait for the lock after a leaf of this depth, in pauses of the processor
abbrev pub longest_wait : ℕ → ℕ
longest_wait depth = if nat_le depth 2 then 32768 else deep_wait

-- the wait after the lock was free at the first try, where no wait is shorter than `least`: shorter by a sixteenth
abbrev pub eased : ℕ → ℕ → ℕ
eased least wait = max (wait - wait / 16) least

-- the wait after the lock was taken, where no wait is longer than `most`: twice as long
abbrev pub doubled : ℕ → ℕ → ℕ
doubled most wait = min (wait * 2) most
