-- Meaning: what contracts see of the ends of a pool's deques that workers have: the seats that each has, and when all
-- seats of all deques are there.
use Rattle.std.specs.Prelude.{◌≡◌, ℕ, ◌+◌, ◌-◌, ◌⊎◌, List, [], ◌∷◌, ◌++◌, length, map, All}
use Rattle.std.specs.declared.alloc.Global.{Global}
use Rattle.jamboree_rules.specs.declared.pool_rules.task.Task.{Task}
use Rattle.steal_pool.specs.declared.task_deques.owner.Owner.{Owner}
use Rattle.steal_pool.specs.declared.task_deques.thief.Thief.{Thief}
use Rattle.steal_pool.specs.declared.task_deques.ends.DequeEnds.{DequeEnds}
use Rattle.steal_pool.specs.declared.task_deques.returned.Returned.{Returned}
use Rattle.steal_pool.specs.task_deques.Tallies.{tally, weigh}
use Rattle.steal_pool.specs.task_deques.Seats.{DequeIn, DequeSeatIn, owner_seat, owner_room, thief_seat, with_taken, new_thief, joined}

-- a worker's seats: the owner's at its own deque, and a thief's at each worker's deque, in the order of the workers' numbers
pub record WorkerSeatsIn (A : Type 0) : Type 0 where
  pub own : DequeSeatIn A
  pub thieves : List (DequeSeatIn A)

-- which deques a worker's seats are at, and how many parts the owner's seat has: no push, pop or steal changes these
pub record PostsIn (A : Type 0) : Type 0 where
  pub own : DequeIn A
  pub parts : ℕ
  pub thieves : List (DequeIn A)

-- a worker's seats at deques whose memory is of the allocator `Global`
abbrev pub WorkerSeats : Type 0
WorkerSeats = WorkerSeatsIn Global

-- the posts of a worker's seats at such deques
abbrev pub Posts : Type 0
Posts = PostsIn Global

module _ {A : Type 0} where
  -- the seats of these owners
  abbrev pub owner_seats : List (Owner A) → List (DequeSeatIn A)
  owner_seats owners = map owner_seat owners

  -- the seats of these thieves
  abbrev pub thief_seats : List (Thief A) → List (DequeSeatIn A)
  thief_seats thieves = map thief_seat thieves

  -- which deque each of these seats is at
  abbrev pub deques : List (DequeSeatIn A) → List (DequeIn A)
  deques seats = map (λ seat. seat.deque) seats

  -- the seats of a worker's ends
  abbrev pub worker_seats : DequeEnds A → WorkerSeatsIn A
  worker_seats ends = record { own = owner_seat ends.own; thieves = thief_seats ends.thieves.items }

  -- how many tasks there is room for in a worker's own deque
  abbrev pub worker_room : DequeEnds A → ℕ
  worker_room ends = owner_room ends.own

  -- which deques these seats of a worker are at, and how many parts the owner's has
  abbrev pub posts_of : WorkerSeatsIn A → PostsIn A
  posts_of seats = record { own = seats.own.deque; parts = seats.own.tally.parts; thieves = deques seats.thieves }

  -- which deques a worker's ends are at, and how many parts the owner's seat has
  abbrev pub posts : DequeEnds A → PostsIn A
  posts ends = posts_of (worker_seats ends)

  -- just one of these thieves' seats has taken this one task more, and the others are unchanged
  abbrev pub IsStolen : Task → List (DequeSeatIn A) → List (DequeSeatIn A) → Type 0
  IsStolen task before after = (front : List (DequeSeatIn A)) × (seat : DequeSeatIn A) × (back : List (DequeSeatIn A)) × (before ≡ front ++ seat ∷ back) × (after ≡ front ++ with_taken task seat ∷ back)

  -- just one of a worker's seats, its own or a thief's, has taken this one task more
  abbrev pub IsTaken : Task → WorkerSeatsIn A → WorkerSeatsIn A → Type 0
  IsTaken task before after =
      (after ≡ record before { own = with_taken task before.own }) ⊎ ((after.own ≡ before.own) × IsStolen task before.thieves after.thieves)

  -- each worker has a new deque of its own, and a new thief's seat at each worker's deque
  abbrev pub IsDealt : List (WorkerSeatsIn A) → Type 0
  IsDealt all = All (λ seats. (seats.own.tally ≡ tally (64 - length all) [] []) × (seats.thieves ≡ map (λ other. new_thief other.own) all)) all

  -- a seat at this one's deque with so many parts, which has pushed and taken nothing
  abbrev pub fresh_with : ℕ → DequeSeatIn A → DequeSeatIn A
  fresh_with parts seat = record seat { tally = tally parts [] [] }

  -- a worker's seats: this owner's, and these thieves'
  abbrev pub beside : List (DequeSeatIn A) → DequeSeatIn A → WorkerSeatsIn A
  beside thieves own = record { own = own; thieves = thieves }

  -- all seats of all deques are there: each worker has a thief at each worker's deque, and the parts of each owner and
  -- those of its deque's thieves, one each, are all 64
  abbrev pub IsWhole : List (PostsIn A) → Type 0
  IsWhole all = All (λ its. (its.thieves ≡ map (λ other. other.own) all) × (its.parts + length all ≡ 64)) all

  -- these owners' seats, each joined by the seat of the thief at the same place of the row
  abbrev pub with_row : List (DequeSeatIn A) → List (DequeSeatIn A) → List (DequeSeatIn A)
  with_row [] row = []
  with_row (owner ∷ owners) [] = owner ∷ owners
  with_row (owner ∷ owners) (thief ∷ row) = joined owner thief ∷ with_row owners row

  -- these owners' seats, each joined by the seats of the thieves at the same place of all rows
  abbrev pub with_rows : List (DequeSeatIn A) → List (List (DequeSeatIn A)) → List (DequeSeatIn A)
  with_rows owners [] = owners
  with_rows owners (row ∷ rows) = with_rows (with_row owners row) rows

  -- each deque as one seat: the owner's, joined by those of all workers' thieves there
  abbrev pub whole_deques : List (WorkerSeatsIn A) → List (DequeSeatIn A)
  whole_deques all = with_rows (map (λ seats. seats.own) all) (map (λ seats. seats.thieves) all)

  -- what was pushed on a deque is what was taken and what is left, each task as often
  abbrev pub IsAccounted : DequeSeatIn A → Type 0
  IsAccounted seat = (left : List Task) × ((h : Task → ℕ) → weigh h seat.tally.pushed ≡ weigh h seat.tally.taken + weigh h left)

  -- each owner's seat with the row of thieves' seats at the same place, as a worker's seats
  abbrev pub zip_seats : List (DequeSeatIn A) → List (List (DequeSeatIn A)) → List (WorkerSeatsIn A)
  zip_seats [] rows = []
  zip_seats (own ∷ owners) [] = []
  zip_seats (own ∷ owners) (row ∷ rows) = record { own = own; thieves = row } ∷ zip_seats owners rows

  -- the seats of all ends that came back, in the order in which they came
  abbrev pub returned : Returned A → List (WorkerSeatsIn A)
  returned back = zip_seats (owner_seats back.owners.items) (map (λ row. thief_seats row.items) back.rows.items)

  -- how many workers' ends there is room for
  abbrev pub returned_room : Returned A → ℕ
  returned_room back = back.room
