-- The search as a procedure (`procedure::plan_under`): what can't be a child of the parent returns, as the definition
-- says.
use Rattle.std.proofs.Common.{Some}
use Rattle.jamboree.proofs.Common.{may_be_child, frame_in, frame_with}
use Rattle.jamboree.proofs.SightLemmas.{by-told}
use Rattle.jamboree.proofs.procedure.plan_under.Goals as goal

pub returns-in_default : goal.returns-in_default
returns-in_default c others =
    by-told _ (may_be_child (frame_with c.args.parent.now others) (frame_in c.args.frame.now)) _ _ _ _ c.may_be_under.ensures c.if-not-may_be_under.false
    (c.later.ensures c.args.grain (Some (frame_with c.args.parent.now others)))
