-- The names that the proofs of the pool's task deques use, imported in one place.
pub use Rattle.std.proofs.Common.{All, IfNone, IfSome, List, None, Option, Some, [], add-one, ap, append_assoc, arith, drop, get_or, inl, inr, length, map}
pub use Rattle.std.proofs.Common.{refl, rules, set, subst, suc, sum_by, sym, take, vec_capacity, vec_len, zero, ℕ, ◌*◌, ◌++◌, ◌+◌, ◌-◌, ◌<◌, ◌∙◌, ◌∷◌, ◌≡◌, ◌≤◌}
pub use Rattle.std.proofs.Math.Seq.{map-set_same}
pub use Rattle.std.proofs.lemmas.List.{drop-set-lt, drop_more, get_or-map, length-map, map-set, map_more, map_push, nil_from_length, take-append-drop, take_all}
pub use Rattle.std.proofs.lemmas.List.Edits.{map_over_more}
pub use Rattle.std.proofs.lemmas.List.Elements.{All-cons, All-from_recursion, All-head, All-map, All-more, All-pop, All-push, All-same, All-tail}
pub use Rattle.std.proofs.lemmas.List.Sums.{sum_by_more}
pub use Rattle.std.proofs.lemmas.Result.{IfOk-weaker}
pub use Rattle.std.specs.Vec.Iter.{into_iter_items, into_iter_len}
pub use lib.ListN.{get_elem?}
pub use mathlib.Core.Option.{some, some-injective, some-ne-none}
pub use Rattle.crossbeam_deque.proofs.Lists.{at_set, at_snoc}
pub use Rattle.crossbeam_deque.specs.Handles.{worker_view}
pub use Rattle.crossbeam_deque.specs.Tasks.{Finds, Forks, Learns, Merges, Pops, Pushes, Takes}
pub use Rattle.jamboree_rules.specs.declared.pool_rules.task.Task.{Task}
pub use Rattle.steal_pool.specs.task_deques.Deals.{IsAccounted, IsDealt, IsStolen, IsTaken, IsWhole, Posts, PostsIn, WorkerSeats, WorkerSeatsIn, beside, deques}
pub use Rattle.steal_pool.specs.task_deques.Deals.{fresh_with, owner_seats, posts, posts_of, returned, thief_seats, whole_deques, with_row, with_rows, worker_room}
pub use Rattle.steal_pool.specs.task_deques.Deals.{worker_seats, zip_seats}
pub use Rattle.steal_pool.specs.task_deques.Rows.{new_worker, played_seats, seat, two_thieves, two_workers, worker_task}
pub use Rattle.steal_pool.specs.task_deques.Seats.{Deque, DequeIn, DequeSeatIn, joined, new_thief, owner_room, owner_seat, thief_seat, with_part_cut, with_taken}
pub use Rattle.steal_pool.specs.task_deques.Tallies.{IdleIsEmpty, IsEachOnce, IsEmptied, tally, total, weigh}
pub use Rattle.steal_pool.specs.declared.task_deques.ends.DequeEnds.{DequeEnds}
pub use Rattle.steal_pool.specs.declared.task_deques.owner.Owner.{Owner}
pub use Rattle.steal_pool.specs.declared.task_deques.returned.Returned.{Returned}
pub use Rattle.steal_pool.specs.declared.task_deques.rule.Tally.{Tally}
pub use Rattle.steal_pool.specs.declared.task_deques.thief.Thief.{Thief}
