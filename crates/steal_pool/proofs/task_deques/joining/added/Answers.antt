-- A pool's tasks are summed up (`joining::added`): the sums over the deques passed grow by the next deque's tasks;
-- pushed are those taken and left.
use Rattle.steal_pool.proofs.TaskDeques.Common.{◌≡◌, ℕ, get_or, ◌+◌, ◌<◌, List, All, length, take, sum_by, ap, sym, subst, ◌∙◌, arith, rules, take_all, length-map, sum_by_more, All-more, DequeSeatIn, owner_seat, owner_seats, IsAccounted}
use Rattle.steal_pool.proofs.TaskDeques.SeatLemmas.{seat-at, seats-same}
use Rattle.steal_pool.proofs.task_deques.joining.added.Goals as goal

-- what the seats up to a place have in all, and one more
sums-more : {A : Type 0} (h : DequeSeatIn A → ℕ) (seats : List (DequeSeatIn A)) (place : ℕ) (s : DequeSeatIn A) →
    place < length seats → get_or seats place s ≡ s → sum_by h (take (place + 1) seats) ≡ sum_by h (take place seats) + h s
sums-more {A} h seats place s within here = sum_by_more h seats place s within ∙ ap (λ (d : DequeSeatIn A). sum_by h (take place seats) + h d) here

pub sums-sums-requires : goal.sums-sums-requires
sums-sums-requires g c =
    let at = c.loop-place in
    let seats : List (DequeSeatIn g.row.A.Denot) = owner_seats c.args.owners.items in
    let inside : at.place < length at.owners.items = omega (arith, at.owners.ok.0, c.loop-place.invariant.6) in
    let here = seat-at at.owners.items seats at.place c.index_mut.result.now inside c.index_mut.ensures.value c.loop-place.invariant.0 in
    let within : at.place < length seats = omega (arith, ap length c.loop-place.invariant.0, length-map at.owners.items owner_seat) in
    subst (λ (s : DequeSeatIn g.row.A.Denot). s.tally.parts ≡ 64) here (c.requires.parts at.place (owner_seat c.index_mut.result.now) within)

pub loop-place-preserved : goal.loop-place-preserved
loop-place-preserved g c =
    let at = c.loop-place in
    let x = c.index_mut.result.now in
    let seats : List (DequeSeatIn g.row.A.Denot) = owner_seats c.args.owners.items in
    let inside : at.place < length at.owners.items = omega (arith, at.owners.ok.0, c.loop-place.invariant.6) in
    let here = seat-at at.owners.items seats at.place x inside c.index_mut.ensures.value c.loop-place.invariant.0 in
    let within : at.place < length seats = omega (arith, ap length c.loop-place.invariant.0, length-map at.owners.items owner_seat) in
    let pushed = sums-more (λ (deque : DequeSeatIn g.row.A.Denot). length deque.tally.pushed) seats at.place (owner_seat x) within here in
    let taken = sums-more (λ (deque : DequeSeatIn g.row.A.Denot). length deque.tally.taken) seats at.place (owner_seat x) within here in
    let mine : IsAccounted (owner_seat x) = (c.sums-sums.ensures.each_once.0, c.sums-sums.ensures.each_once.2) in (
      seats-same at.owners.items at.place x c.sums-sums.new.self c.index_mut.ensures.value c.sums-sums.ensures.unchanged ∙ c.loop-place.invariant.0,
      omega (arith, pushed, c.sums-sums.ensures.pushed, c.loop-place.invariant.1),
      omega (arith, taken, c.sums-sums.ensures.taken, c.loop-place.invariant.2),
      All-more IsAccounted seats at.place (owner_seat x) within c.loop-place.invariant.3 (subst IsAccounted (sym here) mine),
      omega (arith, c.sums-sums.result.sum, c.loop-place.invariant.4),
      omega (arith, c.sums-sums.ensures.counted, c.loop-place.invariant.5),
      search rules,
      search rules,
    )

pub returns-clause-each_once : goal.returns-clause-each_once
returns-clause-each_once g c =
    let at = c.loop-place in
    let seats : List (DequeSeatIn g.row.A.Denot) = owner_seats c.args.owners.items in
    let same = ap length c.loop-place.invariant.0 in
    let all = take_all at.place seats (omega (arith, same, length-map at.owners.items owner_seat, at.owners.ok.0, c.loop-place.invariant.6)) in
    subst (All IsAccounted) all c.loop-place.invariant.3
