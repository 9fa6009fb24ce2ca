-- A use of the law on what suffices (`seven_asks_again`): tenant 7, whose first search is over, has enough left for
-- its second, which is never spent.
use Rattle.promise_uses.proofs.Common.{refl, arith, sym, subst, List, Option, Tenant, ◌∷◌, StepOf, Admit, Submit, None, root_words, frame_size}
use Rattle.sched_rules.specs.Trees.{admitted_with}
use Rattle.jamboree_rules.specs.declared.leaf.LeafAnswer.{LeafAnswer}
use Rattle.jamboree_core.specs.Enough.{EachFindsEnough}
use Rattle.promise_uses.proofs.Reserving.{rest-finds, finds-after, has-enough}
use Rattle.promise_uses.proofs.reserved.seven_asks_again.Goals as goal

pub returns : goal.returns
returns c quota own opp own_then opp_then serial first later between tenant frame segments nodes apart apart_then none none_then came idle segments_left nodes_left is at =
    let law = c.who_asks_with_enough_is_never_spent.ensures in
    let begun = rest-finds 4 _ first none in
    let ended = rest-finds 4 _ later none_then in
    let has = has-enough 6 4 refl (law.any 6 4) law.two_plies (admitted_with quota) own opp refl (omega (arith, segments)) (omega (arith, nodes)) in
    let again = has-enough 6 4 refl (law.any 6 4) law.two_plies between own_then opp_then idle segments_left nodes_left in
    let asks : List (StepOf LeafAnswer) = Submit 7 (root_words own_then opp_then 6) frame_size ∷ later in
    let finds = subst (λ (o : Option Tenant). EachFindsEnough 4 o asks) (sym came) (again, ended.0) in
    let both = finds-after 4 None (Admit 7 quota ∷ Submit 7 (root_words own opp 6) frame_size ∷ first) asks ((tt, (has, begun.0)), (tt, ((record { own = own; opp = opp; depth = 6; are = refl; apart = apart; shallow = omega arith }, refl), begun.1)))
    (finds, ((record { own = own_then; opp = opp_then; depth = 6; are = refl; apart = apart_then; shallow = omega arith }, refl), ended.1)) in
    law.never 4 _ tenant 7 serial frame is both.1 both.0 at
