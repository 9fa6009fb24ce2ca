-- The rows of thieves of all workers (`dealing::rows`): one row more takes one part of each owner, of which enough are
-- left.
use Rattle.steal_pool.proofs.TaskDeques.Common.{◌≡◌, ◌-◌, ◌+◌, ◌<◌, [], List, length, map, refl, sym, ap, ◌∙◌, arith, rules, All-map, All-same, All-push, tally, DequeSeatIn, owner_seat, with_part_cut, new_thief, owner_seats, thief_seats, fresh_with}
use Rattle.steal_pool.proofs.TaskDeques.SeatLemmas.{fresh-same, cut-again, new_of_fresh}
use Rattle.steal_pool.proofs.task_deques.dealing.rows.Goals as goal

pub loop-made-init : goal.loop-made-init
loop-made-init g c = (
  sym (fresh-same _ (All-map (λ (seat : DequeSeatIn g.row.A.Denot). seat.tally ≡ tally 64 [] []) owner_seat c.args.owners.now.items c.requires.fresh)),
  λ k d inside. absurd (omega (arith, ap length c.in_ok-rows.ensures.items)),
  search rules,
  search rules,
  search rules,
  refl,
)

pub row-requires : goal.row-requires
row-requires g c =
    let before : List (DequeSeatIn g.row.A.Denot) = owner_seats c.args.owners.now.items in
    let left = 64 - c.loop-made._made in
    let P : DequeSeatIn g.row.A.Denot → Type 0 = λ (seat : DequeSeatIn g.row.A.Denot). (1 < seat.tally.parts) × (seat.tally.taken ≡ []) in
    let enough : 1 < left = omega (arith, c.loop-made.invariant.4) in
    All-same P (owner_seats c.loop-made.owners.items) (map (fresh_with left) before) c.loop-made.invariant.0 (All-map P (fresh_with left) before (λ k d inside. (enough, refl)))

pub loop-made-preserved : goal.loop-made-preserved
loop-made-preserved g c =
    let before : List (DequeSeatIn g.row.A.Denot) = owner_seats c.args.owners.now.items in
    let made = c.loop-made._made in
    let less : (64 - made) - 1 ≡ 64 - (made + 1) = omega arith in
    let row = c.in_ok-row.field-0 in
    let new : thief_seats row.items ≡ map new_thief before = c.in_ok-row.ensures.thieves ∙ ap (λ (l : List (DequeSeatIn g.row.A.Denot)). map new_thief l) c.loop-made.invariant.0 ∙ new_of_fresh (64 - made) before in (
      c.in_ok-row.ensures.owners ∙ ap (λ (l : List (DequeSeatIn g.row.A.Denot)). map with_part_cut l) c.loop-made.invariant.0 ∙ cut-again (64 - made) before ∙ ap (λ n. map (fresh_with n) before) less,
      rw c.push_reserved.ensures.items (All-push (λ r. thief_seats r.items ≡ map new_thief before) c.loop-made.rows.items row c.loop-made.invariant.1 new),
      omega (arith, c.push_reserved.ensures.len),
      omega (arith, c.push_reserved.ensures.capacity),
      search rules,
      c.in_ok-row.ensures.room ∙ c.loop-made.invariant.5,
    )
