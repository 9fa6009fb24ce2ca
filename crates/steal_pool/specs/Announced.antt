-- Meaning: what is left of the call that says that a pool of workers has begun, where the pool didn't run.
use Rattle.std.specs.Prelude.{◌≡◌, Bool, false}
use Rattle.steal_pool.specs.declared.pool.BeginFault.{BeginFault}
use Rattle.steal_pool.specs.declared.pool.BeginFault.TheVariants.{Pool, Unsaid}

-- what has become of the announcer of a pool that didn't run: it is as before where the pool couldn't begin, and else
-- as after a call that couldn't say that the pool had begun
abbrev pub IsUnsaid : {A : Type 0} → (A → Bool → A → Type 0) → A → BeginFault → A → Type 0
IsUnsaid says before (Pool fault) after = after ≡ before
IsUnsaid says before Unsaid after = says before false after
