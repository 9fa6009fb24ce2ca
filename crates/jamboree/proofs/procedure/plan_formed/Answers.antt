-- The search as a procedure (`procedure::plan_formed`): with and without a parent the plan is that of the definition.
use Rattle.jamboree.proofs.Common.{◌∷◌, List, ℕ, Option, sym, ◌∙◌, ap, next_act, above_of, entries_of}
use Rattle.jamboree.proofs.SightLemmas.{act-by-form}
use Rattle.jamboree.proofs.procedure.plan_formed.Goals as goal

pub returns-in-Some : goal.returns-in-Some
returns-in-Some c =
    let grain = c.args.grain in
    let own = c.args.own.now in
    let above = c.in-Some.above in
    act-by-form grain own above _ _ _ c.requires.own (rw c.in-Some.is at c.requires.parent) c.view-frame.ensures.frame c.view.ensures.frame
    (c.plan_under.ensures (entries_of above))
    ∙ ap (λ (o : Option (List ℕ)). next_act grain (own ∷ above_of o)) (sym c.in-Some.is)
