-- One tenant's tree in the frame table (`TenantFrames::find`): what is told of a frame is what its slot keeps.
use Rattle.frame_table.proofs.Finds.{kept-found}
use Rattle.std.proofs.Common.{arith}
use Rattle.frame_table.proofs.tree.TenantFrames.find.Goals as goal

pub returns-in-Some-clause-entry : goal.returns-in-Some-clause-entry
returns-in-Some-clause-entry g c =
    let f = kept-found c.self.invariant.sound c.in-Some.ensures.found.1 in
    let is = f.is in
    rw (← c.self.view_is, f.at) (grind (arith, is, c.entry.ensures))
