-- A row of thieves is joined to the owners of a pool's deques (`joining::join_row`): each thief meets the owner of its
-- own deque, which takes its part back.
use Rattle.steal_pool.proofs.TaskDeques.Common.{◌≡◌, [], List, subst, arith, nil_from_length, into_iter_items, Thief, DequeSeatIn, owner_seats, thief_seats, with_row}
use Rattle.steal_pool.proofs.TaskDeques.JoinLemmas.{IsTurn, turn-inside, joins-here, joined-here, joined-all}
use Rattle.steal_pool.proofs.task_deques.joining.join_row.Goals as goal

pub index_mut-requires : goal.index_mut-requires
index_mut-requires g c =
    let inside = turn-inside c.loop-thief.owners.items c.loop-thief.place c.in-Some.thief _ _ _ c.in-Some.ensures.steps.0 c.loop-thief.invariant in
    omega (arith, inside, c.loop-thief.owners.ok.0)

pub join-requires-clause-deque : goal.join-requires-clause-deque
join-requires-clause-deque g c =
    (joins-here _ _ c.in-Some.thief _ _ _ c.in-Some.ensures.steps.0 c.loop-thief.invariant _ c.index_mut.ensures.value).1

pub join-requires-clause-parts : goal.join-requires-clause-parts
join-requires-clause-parts g c =
    (joins-here _ _ c.in-Some.thief _ _ _ c.in-Some.ensures.steps.0 c.loop-thief.invariant _ c.index_mut.ensures.value).2

pub loop-thief-preserved : goal.loop-thief-preserved
loop-thief-preserved g c =
    joined-here _ _ c.in-Some.thief _ _ _ c.in-Some.ensures.steps.0 c.loop-thief.invariant _ c.index_mut.ensures.value _ c.join.ensures.seat

pub returns : goal.returns
returns g c =
    let at = c.loop-thief in
    let owners : List (DequeSeatIn g.row.A.Denot) = owner_seats at.owners.items in
    let total : List (DequeSeatIn g.row.A.Denot) = with_row (owner_seats c.args.owners.now.items) (thief_seats c.args.row.items) in
    let none : into_iter_items at.thief-iterator ≡ [] = nil_from_length (into_iter_items at.thief-iterator) (omega (arith, c.in-None.ensures.steps.0, at.thief-iterator.rest.ok.0)) in
    joined-all owners at.place total (subst (λ (l : List (Thief g.row.A.Denot)). IsTurn owners at.place (thief_seats l) total) none c.loop-thief.invariant)
