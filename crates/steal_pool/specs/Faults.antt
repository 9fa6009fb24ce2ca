-- Meaning: the numbers of a pool's faults: why its workers couldn't begin.
use Rattle.std.specs.Prelude.{ℕ}
use Rattle.steal_pool.specs.declared.pool.PoolFault.{PoolFault}
use Rattle.steal_pool.specs.declared.pool.PoolFault.TheVariants.{OutOfMemory, NoThread}

-- the number of each fault of a pool
abbrev pub pool_fault_number : PoolFault → ℕ
pool_fault_number OutOfMemory = 1
pool_fault_number NoThread = 2
