-- One tenant's tree in the frame table (`TenantFrames::exceeds_all`): comparing with the last slot is enough, as the
-- slots stand by rising serial.
use Rattle.frame_table.proofs.Finds.{below-last-at, last-below}
use Rattle.std.proofs.Common.{arith, length, lt-ltb, ltb-true, ◌+◌, ◌-◌, ◌≡◌}
use Rattle.frame_table.proofs.tree.TenantFrames.exceeds_all.Goals as goal

pub returns : goal.returns
returns g c =
    let long : length c.self.inside.store.slots ≡ (c.len-count.result - 1) + 1 = omega (arith, c.len-count.ensures) in
    rw (← c.self.view_is) (record {
      above = λ t. last-below c.self.invariant.sound (c.len-count.result - 1) c.args.serial c.at.result long c.at.ensures (ltb-true _ _ t);
      otherwise = λ b. lt-ltb _ _ (below-last-at c.self.invariant.sound (c.len-count.result - 1) c.args.serial c.at.result (omega (arith, long)) c.at.ensures b);
    })
