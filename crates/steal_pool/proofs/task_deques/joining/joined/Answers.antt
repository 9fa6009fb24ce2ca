-- All thieves are joined to the owners of a pool's deques (`joining::joined`): the next row has a thief at each deque.
use Rattle.steal_pool.proofs.TaskDeques.Common.{◌≡◌, List, map, length, ap, sym, subst, ◌∙◌, refl, arith, length-map, All-map, into_iter_items, DequeSeatIn, owner_seat, owner_seats, thief_seats, with_rows, deques}
use Rattle.steal_pool.proofs.TaskDeques.JoinLemmas.{AreTurns, one-part, length-with_row, next-row, row-room, rows-turn}
use Rattle.steal_pool.proofs.task_deques.joining.joined.Goals as goal

pub loop-row-init : goal.loop-row-init
loop-row-init g c =
    let owners : List (DequeSeatIn g.row.A.Denot) = owner_seats c.args.owners.items in
    let rows : List (List (DequeSeatIn g.row.A.Denot)) = map (λ row. thief_seats row.items) c.args.rows.items in
    let same : rows ≡ map (λ row. thief_seats row.items) (into_iter_items c.into_iter-row-iterator.result) = ap (λ l. map (λ row. thief_seats row.items) l) (sym c.into_iter-row-iterator.ensures.into_iter_gives.0) in
    let count : length rows ≡ length c.args.rows.items = length-map c.args.rows.items (λ row. thief_seats row.items) in (
      subst (λ (l : List (List (DequeSeatIn g.row.A.Denot))). AreTurns owners l (with_rows owners rows)) same (record {
        come_to = refl;
        same = All-map (λ (row : List (DequeSeatIn g.row.A.Denot)). deques row ≡ deques owners) (λ row. thief_seats row.items) c.args.rows.items c.requires.rows;
        parts = λ k d inside. let sum = c.requires.parts k d inside in omega (arith, c.args.rows.ok.0);
      }),
      refl,
    )

pub join_row-requires-clause-deques : goal.join_row-requires-clause-deques
join_row-requires-clause-deques g c = (row-room _ _ _ _ (next-row _ _ _ _ _ _ c.in-Some.ensures.steps.0 c.loop-row.invariant.0)).0

pub loop-row-preserved : goal.loop-row-preserved
loop-row-preserved g c =
    let at = c.loop-row in
    let row = c.in-Some.row in
    let owners : List (DequeSeatIn g.row.A.Denot) = owner_seats at.owners.items in
    let after = c.join_row.new.owners in
    let count : length (owner_seats after.items) ≡ length owners = ap length c.join_row.ensures ∙ length-with_row owners (thief_seats row.items) in (
      rows-turn owners (owner_seats after.items) _ _ _ (one-part row.items) c.join_row.ensures (next-row _ _ _ _ _ _ c.in-Some.ensures.steps.0 at.invariant.0),
      omega (arith, length-map after.items owner_seat, length-map at.owners.items owner_seat, after.ok.0, at.owners.ok.0, at.invariant.1),
    )
