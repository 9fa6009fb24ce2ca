-- The search as a procedure (`procedure::plan_below`): the plan under a parent in words is that of the definition,
-- also where the words have no frame's form.
use Rattle.jamboree.proofs.Common.{sym, ◌∙◌, may_be_child, returns as to_return, act_of, frame_in, frame_with, entries_of}
use Rattle.std.proofs.Common.{Some}
use Rattle.jamboree.proofs.SightLemmas.{by-form}
use Rattle.jamboree.proofs.procedure.plan_below.Goals as goal

pub returns : goal.returns
returns c =
    let f = frame_in c.args.frame.now in
    by-form c.args.above.now _ (λ q. may_be_child q f) (λ q. act_of c.args.grain (frame_with c.args.frame.now (entries_of c.args.own.now)) (Some q)) _ to_return
    (sym c.is_formed.ensures ∙ c.if-not-is_formed.false) c.view.ensures.frame (c.plan_under.ensures (entries_of c.args.above.now))
