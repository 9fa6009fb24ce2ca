-- Meaning: an amount of segments and nodes, and the limits of what one tenant may reserve.
use Rattle.std.specs.Prelude.{◌≡◌, ℕ, ◌<◌, ◌≤◌, ◌⊎◌}

-- an amount of segments and an amount of nodes
pub record ReserveOf : Type 0 where
  pub segments : ℕ
  pub nodes : ℕ

-- what one tenant may reserve: 1 to 4,096 segments and 1 to 65,536 nodes
pub record IsWithinLimits (quota : ReserveOf) : Type 0 where
  pub some_segments : 1 ≤ quota.segments
  pub segments_within : quota.segments ≤ 4096
  pub some_nodes : 1 ≤ quota.nodes
  pub nodes_within : quota.nodes ≤ 65536

-- the quota is at least `now` in both amounts, and more in one or both
pub record IsAbove (now quota : ReserveOf) : Type 0 where
  pub segments : now.segments ≤ quota.segments
  pub nodes : now.nodes ≤ quota.nodes
  pub one : (now.segments < quota.segments) ⊎ (now.nodes < quota.nodes)

-- the quota isn't above `now`: it is less in one amount, or equal in both
abbrev pub IsNotAbove : ReserveOf → ReserveOf → Type 0
IsNotAbove now quota =
    (quota.segments < now.segments) ⊎ ((quota.nodes < now.nodes) ⊎ ((quota.segments ≡ now.segments) × (quota.nodes ≡ now.nodes)))
