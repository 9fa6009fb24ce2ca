-- Meaning: when the next task of a pool's worker is a pick (of whoever was served least or waited longest): where its
-- order has picks, each 128th.
use Rattle.std.specs.Prelude.{ℕ, ◌+◌, nat_lt, Bool, false, if◌then◌else◌}
use Rattle.steal_pool.specs.declared.order.Order.{Order}
use Rattle.steal_pool.specs.declared.order.Order.TheVariants.{Specified, WithPicks}

-- whether a worker's next task is to be a pick, by how many other tasks it has begun since its last pick
abbrev pub is_due : Order → ℕ → Bool
is_due Specified since = false
is_due WithPicks since = nat_lt 126 since

-- how many tasks a worker has begun since its last pick, after one more that wasn't picked; where a pick is due the
-- number stays
abbrev pub since_after : Order → ℕ → ℕ
since_after Specified since = since
since_after WithPicks since = if nat_lt 126 since then since else since + 1
