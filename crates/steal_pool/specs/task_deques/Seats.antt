-- Meaning: what contracts see of the owner and of a thief of a pool's deque: which deque it is, and the tally of the
-- seat (what it pushed and took).
use Rattle.std.specs.Prelude.{ℕ, ◌+◌, ◌-◌, [], ◌∷◌, ◌++◌}
use Rattle.std.specs.declared.alloc.Global.{Global}
use Rattle.atomic_blocks.specs.Lent.{RowsId}
use Rattle.crossbeam_deque.specs.Handles.{view, worker_deque, stealer_deque, worker_view}
use Rattle.jamboree_rules.specs.declared.pool_rules.task.Task.{Task}
use Rattle.steal_pool.specs.declared.task_deques.rule.Tally.{Tally}
use Rattle.steal_pool.specs.declared.task_deques.owner.Owner.{Owner}
use Rattle.steal_pool.specs.declared.task_deques.thief.Thief.{Thief}
use Rattle.steal_pool.specs.task_deques.Tallies.{tally}

-- a deque: which one it is, and the allocator of its memory
abbrev pub DequeIn : Type 0 → Type 0
DequeIn A = RowsId × A

-- a seat at a deque: which deque, and the seat's tally
pub record DequeSeatIn (A : Type 0) : Type 0 where
  pub deque : DequeIn A
  pub tally : Tally

-- a deque whose memory is of the allocator `Global`, as in the worked examples (Rows.antt)
abbrev pub Deque : Type 0
Deque = DequeIn Global

-- a seat (the owner's or a thief's) at a pool's deque
abbrev pub DequeSeat : Type 0
DequeSeat = DequeSeatIn Global

module _ {A : Type 0} where
  -- the seat of a deque's owner
  abbrev pub owner_seat : Owner A → DequeSeatIn A
  owner_seat owner = record { deque = worker_deque owner.worker; tally = worker_view owner.worker }

  -- how many tasks there is room for in an owner's deque
  abbrev pub owner_room : Owner A → ℕ
  owner_room owner = owner.room

  -- the seat of a thief
  abbrev pub thief_seat : Thief A → DequeSeatIn A
  thief_seat thief = record { deque = stealer_deque thief.stealer; tally = view thief.pass }

  -- a seat after it pushed one task more
  abbrev pub with_pushed : Task → DequeSeatIn A → DequeSeatIn A
  with_pushed task seat = record seat { tally = tally seat.tally.parts (seat.tally.pushed ++ task ∷ []) seat.tally.taken }

  -- a seat after it took one task more
  abbrev pub with_taken : Task → DequeSeatIn A → DequeSeatIn A
  with_taken task seat = record seat { tally = tally seat.tally.parts seat.tally.pushed (seat.tally.taken ++ task ∷ []) }

  -- a seat after one of its parts was given to a new seat
  abbrev pub with_part_cut : DequeSeatIn A → DequeSeatIn A
  with_part_cut seat = record seat { tally = tally (seat.tally.parts - 1) seat.tally.pushed seat.tally.taken }

  -- the new seat of a thief at the same deque: one part, and no task pushed or taken
  abbrev pub new_thief : DequeSeatIn A → DequeSeatIn A
  new_thief seat = record seat { tally = tally 1 [] [] }

  -- a seat after another was joined to it: it has the parts and the tasks of both
  abbrev pub joined : DequeSeatIn A → DequeSeatIn A → DequeSeatIn A
  joined seat other = record seat { tally = tally (seat.tally.parts + other.tally.parts) (seat.tally.pushed ++ other.tally.pushed) (seat.tally.taken ++ other.tally.taken) }
