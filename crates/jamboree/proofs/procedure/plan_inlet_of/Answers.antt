-- The search as a procedure (`procedure::plan_inlet_of`): with or without the test of form, the plan of the inlet is
-- the definition's.
use Rattle.jamboree.proofs.Common.{entries_of}
use Rattle.jamboree.proofs.SightLemmas.{inlet-by-form}
use Rattle.jamboree.proofs.procedure.plan_inlet_of.Goals as goal

pub returns : goal.returns
returns c =
    let w = c.args.own.now in
    let d = c.args.child.now in
    let fits = c.requires c.if-not-fitting.false in
    inlet-by-form w d _ _ _ fits.0.2.formed fits.1.0.2.formed c.view.ensures.frame c.view-2.ensures.frame
    (c.plan_inlet_under.ensures (entries_of w) (entries_of d))
