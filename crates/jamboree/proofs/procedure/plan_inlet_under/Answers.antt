-- The search as a procedure (`procedure::plan_inlet_under`): what can't be a child of the frame only wakes it, as the
-- definition says.
use Rattle.jamboree.proofs.Common.{◌∙◌, may_be_child, status_of, entry_rest, frame_in, frame_with}
use Rattle.std.proofs.Common.{map}
use Rattle.jamboree.proofs.SightLemmas.{by-told, inlet-with}
use Rattle.jamboree.proofs.procedure.plan_inlet_under.Goals as goal

pub returns : goal.returns
returns c own below =
    by-told _ (may_be_child (frame_with c.args.frame.now own) (frame_with c.args.child.now below)) _ _ _ _ c.may_be_under.ensures c.if-not-may_be_under.false
    (c.takes_in.ensures ∙ inlet-with (frame_in c.args.frame.now) (frame_in c.args.child.now) (map status_of own) (map entry_rest own)
    (map status_of below) (map entry_rest below))
