-- The search as a procedure (`procedure::plan_inlet_seen`): words that have no frame's form only wake the parent, as
-- the definition says.
use Rattle.jamboree.proofs.Common.{sym, ◌∙◌, entries_of}
use Rattle.jamboree.proofs.SightLemmas.{inlet-under}
use Rattle.jamboree.proofs.procedure.plan_inlet_seen.Goals as goal

pub returns : goal.returns
returns c =
    inlet-under c.args.own.now c.args.child.now _ _ (sym c.is_formed.ensures ∙ c.if-not-is_formed.false) c.view.ensures.frame
    (c.plan_inlet_below.ensures (entries_of c.args.own.now))
