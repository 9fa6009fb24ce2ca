-- Meaning: the limits of a core: how many segments and nodes it may have for all tenants.
use Rattle.std.specs.Prelude.{◌≤◌}
use Rattle.tenant_quota.specs.Reserves.{ReserveOf}

-- what a core may have: 1 to 65,536 segments and 1 to 4,194,304 nodes
pub record IsWithinTotals (totals : ReserveOf) : Type 0 where
  pub some_segments : 1 ≤ totals.segments
  pub segments_within : totals.segments ≤ 65536
  pub some_nodes : 1 ≤ totals.nodes
  pub nodes_within : totals.nodes ≤ 4194304
