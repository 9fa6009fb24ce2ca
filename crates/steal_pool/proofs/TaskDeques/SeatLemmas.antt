-- The pool's task deques: seats in lists, of which one steals, a part of each is cut off, and they are dealt to
-- workers.
use Rattle.steal_pool.proofs.TaskDeques.Common.{◌≡◌, ℕ, zero, suc, ◌+◌, ◌-◌, ◌<◌, List, [], ◌∷◌, ◌++◌, length, map, take, drop, set, get_or, All, Option, Some, None, IfSome, IfNone, sym, refl, ap, ◌∙◌, subst, arith, append_assoc, map-set, get_or-map, length-map, map_push, map_more, map_over_more, map-set_same, All-head, All-tail, All-map, Task, Owner, Thief, DequeEnds, tally, DequeIn, DequeSeatIn, owner_seat, owner_room, thief_seat, with_taken, with_part_cut, new_thief, WorkerSeatsIn, PostsIn, owner_seats, thief_seats, deques, worker_seats, worker_room, posts_of, posts, IsStolen, IsDealt, IsWhole, fresh_with, beside}
use Rattle.steal_pool.proofs.TaskDeques.JoinLemmas.{Seats, all-unmapped}

module _ {A : Type 0} where
  -- the seat at a place steals
  stolen-at : (task : Task) (seats : Seats A) (place : ℕ) (d : DequeSeatIn A) → place < length seats →
      IsStolen task seats (set seats place (with_taken task (get_or seats place d)))
  stolen-at task [] place d inside = absurd (omega arith)
  stolen-at task (s ∷ ss) zero d inside = ([], s, ss, refl, refl)
  stolen-at task (s ∷ ss) (suc place) d inside =
      let rest = stolen-at task ss place d (omega arith) in
      (s ∷ rest.0, rest.1, rest.2, ap (λ (l : Seats A). s ∷ l) rest.3, ap (λ (l : Seats A). s ∷ l) rest.4)

  -- the thief at a place steals
  pub thief-stole : (thieves : List (Thief A)) (place : ℕ) (before after : Thief A) (result : Option Task) → place < length thieves →
      before ≡ get_or thieves place before → IfSome result (λ task. thief_seat after ≡ with_taken task (thief_seat before)) → IfSome result (λ task. IsStolen task (thief_seats thieves) (thief_seats (set thieves place after)))
  thief-stole thieves place before after None inside at stole = tt
  thief-stole thieves place before after (Some task) inside at stole =
      let seats = thief_seats thieves in
      let d = thief_seat before in
      let same : get_or seats place d ≡ d = get_or-map thief_seat thieves place before d inside ∙ ap thief_seat (sym at) in
      let changed = map-set thief_seat thieves place after ∙ ap (λ (s : DequeSeatIn A). set seats place s) (stole ∙ ap (with_taken task) (sym same)) in
      subst (λ (l : Seats A). IsStolen task seats l) (sym changed) (stolen-at task seats place d (omega (arith, length-map thieves thief_seat)))

  -- the thief at a place finds nothing
  pub thief_waited : (thieves : List (Thief A)) (place : ℕ) (before after : Thief A) (result : Option Task) → before ≡ get_or thieves place before →
      IfNone result (thief_seat after ≡ thief_seat before) → IfNone result (thief_seats (set thieves place after) ≡ thief_seats thieves)
  thief_waited thieves place before after result at same = grind (arith, map-set_same)

  -- where a loop that goes up is, nothing was changed yet
  pub same-at : (f : DequeSeatIn A → DequeSeatIn A) (seats : Seats A) (place : ℕ) (d : DequeSeatIn A) →
      get_or (map f (take place seats) ++ drop place seats) place d ≡ get_or seats place d
  same-at f [] zero d = refl
  same-at f [] (suc place) d = refl
  same-at f (s ∷ ss) zero d = refl
  same-at f (s ∷ ss) (suc place) d = same-at f ss place d

  -- the seat of the owner there
  pub owner-at : (f : DequeSeatIn A → DequeSeatIn A) (owners : List (Owner A)) (before : Seats A) (place : ℕ) (x : Owner A) → place < length owners →
      x ≡ get_or owners place x → owner_seats owners ≡ map f (take place before) ++ drop place before → owner_seat x ≡ get_or before place (owner_seat x)
  owner-at f owners before place x inside at so_far = grind (arith, get_or-map, same-at)

  -- a loop that has each owner give a part, at a place
  module _ (owners : List (Owner A)) (before : Seats A) (place : ℕ) (x : Owner A) (inside : place < length owners) (within : place < length before)
      (at : x ≡ get_or owners place x) (so_far : owner_seats owners ≡ map with_part_cut (take place before) ++ drop place before) where
    -- the owner there can give a part
    pub owner_gives : All (λ seat. (1 < seat.tally.parts) × (seat.tally.taken ≡ [])) before → (1 < (owner_seat x).tally.parts) × ((owner_seat x).tally.taken ≡ [])
    owner_gives can =
        let here = owner-at with_part_cut owners before place x inside at so_far in
        subst (λ (s : DequeSeatIn A). (1 < s.tally.parts) × (s.tally.taken ≡ [])) (sym here) (can place (owner_seat x) within)

    -- and gives it
    pub cut-at : (y : Owner A) → owner_seat y ≡ with_part_cut (owner_seat x) → owner_seats (set owners place y) ≡ map with_part_cut (take (place + 1) before) ++ drop (place + 1) before
    cut-at y cut =
        let here = sym (get_or-map owner_seat owners place x (owner_seat x) inside ∙ ap owner_seat (sym at)) in
        map-set owner_seat owners place y ∙ ap (λ (s : DequeSeatIn A). set (owner_seats owners) place s) cut
        ∙ map_over_more with_part_cut before (owner_seats owners) place (owner_seat x) within so_far here

  -- and a thief has it
  pub row-push : (row : List (Thief A)) (before : Seats A) (place : ℕ) (thief : Thief A) (d : DequeSeatIn A) → place < length before →
      thief_seats row ≡ map new_thief (take place before) → thief_seat thief ≡ new_thief (get_or before place d) → thief_seats (row ++ thief ∷ []) ≡ map new_thief (take (place + 1) before)
  row-push row before place thief d inside so_far new =
      map_push thief_seat row thief ∙ ap (λ (l : Seats A). l ++ thief_seat thief ∷ []) so_far
      ∙ ap (λ (s : DequeSeatIn A). map new_thief (take place before) ++ s ∷ []) new ∙ sym (map_more new_thief before place d inside)

  -- the next owner has its ends
  pub gives : (all : List (DequeEnds A)) (ends : DequeEnds A) (own : Owner A) (old rest : List (Owner A)) (thieves owners : Seats A) →
      worker_seats ends ≡ beside thieves (owner_seat own) → old ≡ own ∷ rest → map worker_seats all ++ map (beside thieves) (owner_seats old) ≡ map (beside thieves) owners →
      map worker_seats (all ++ ends ∷ []) ++ map (beside thieves) (owner_seats rest) ≡ map (beside thieves) owners
  gives all ends own old rest thieves owners its steps so_far =
      let left : List (WorkerSeatsIn A) = map (beside thieves) (owner_seats rest) in
      ap (λ (l : List (WorkerSeatsIn A)). l ++ left) (map_push worker_seats all ends)
      ∙ append_assoc (map worker_seats all) (worker_seats ends ∷ []) left
      ∙ ap (λ (w : WorkerSeatsIn A). map worker_seats all ++ (w ∷ left)) its
      ∙ ap (λ (l : List (Owner A)). map worker_seats all ++ map (beside thieves) (owner_seats l)) (sym steps)
      ∙ so_far

  -- and its room
  pub gives-room : (all : List (DequeEnds A)) (ends : DequeEnds A) (old rest : List (Owner A)) (rooms : List ℕ) → old ≡ ends.own ∷ rest →
      map worker_room all ++ map owner_room old ≡ rooms → map worker_room (all ++ ends ∷ []) ++ map owner_room rest ≡ rooms
  gives-room all ends old rest rooms steps so_far =
      ap (λ (l : List ℕ). l ++ map owner_room rest) (map_push worker_room all ends)
      ∙ append_assoc (map worker_room all) (worker_room ends ∷ []) (map owner_room rest)
      ∙ ap (λ (l : List (Owner A)). map worker_room all ++ map owner_room l) (sym steps)
      ∙ so_far

  -- the seats of new deques have all parts
  pub fresh-same : (seats : Seats A) → All (λ seat. seat.tally ≡ tally 64 [] []) seats → map (fresh_with 64) seats ≡ seats
  fresh-same [] fresh = refl
  fresh-same (s ∷ ss) fresh =
      let IsNew : DequeSeatIn A → Type 0 = λ seat. seat.tally ≡ tally 64 [] [] in
      let here : s.tally ≡ tally 64 [] [] = All-head IsNew s ss fresh in
      let first : fresh_with 64 s ≡ s = ap (λ t. record s { tally = t }) (sym here) in
      let rest = fresh-same ss (All-tail IsNew s ss fresh) in
      cc

  -- one part less
  pub cut-again : (parts : ℕ) (seats : Seats A) → map with_part_cut (map (fresh_with parts) seats) ≡ map (fresh_with (parts - 1)) seats
  cut-again parts [] = refl
  cut-again parts (s ∷ ss) = ap (λ (l : Seats A). fresh_with (parts - 1) s ∷ l) (cut-again parts ss)

  -- a new thief's seat knows nothing of the owner's parts
  pub new_of_fresh : (parts : ℕ) (seats : Seats A) → map new_thief (map (fresh_with parts) seats) ≡ map new_thief seats
  new_of_fresh parts [] = refl
  new_of_fresh parts (s ∷ ss) = ap (λ (l : Seats A). new_thief s ∷ l) (new_of_fresh parts ss)

  -- the new thieves of the owners beside the same seats
  new-of-own : (thieves seats : Seats A) → map (λ (other : WorkerSeatsIn A). new_thief other.own) (map (beside thieves) seats) ≡ map new_thief seats
  new-of-own thieves [] = refl
  new-of-own thieves (s ∷ ss) = ap (λ (l : Seats A). new_thief s ∷ l) (new-of-own thieves ss)

  -- the deques of the owners beside the same seats
  own-of-posts : (thieves seats : Seats A) → map (λ (other : PostsIn A). other.own) (map posts_of (map (beside thieves) seats)) ≡ deques seats
  own-of-posts thieves [] = refl
  own-of-posts thieves (s ∷ ss) = ap (λ (l : List (DequeIn A)). s.deque ∷ l) (own-of-posts thieves ss)

  -- new thieves are at the owners' deques
  deques-of-new : (seats : Seats A) → deques (map new_thief seats) ≡ deques seats
  deques-of-new [] = refl
  deques-of-new (s ∷ ss) = ap (λ (l : List (DequeIn A)). s.deque ∷ l) (deques-of-new ss)

  -- the posts of ends, by their seats
  pub posts-by-seats : (all : List (DequeEnds A)) → map posts all ≡ map posts_of (map worker_seats all)
  posts-by-seats [] = refl
  posts-by-seats (ends ∷ all) = ap (λ (l : List (PostsIn A)). posts ends ∷ l) (posts-by-seats all)

  module _ (parts : ℕ) (owners : Seats A) where
    -- owners of new deques, each beside a new thief's seat at each deque, are dealt
    pub dealt : parts ≡ 64 - length owners → let seats = map (fresh_with parts) owners in IsDealt (map (beside (map new_thief seats)) seats)
    dealt are =
        let seats = map (fresh_with parts) owners in
        let thieves = map new_thief seats in
        let all = map (beside thieves) seats in
        let count : length all ≡ length owners = length-map seats (beside thieves) ∙ length-map owners (fresh_with parts) in
        let P : WorkerSeatsIn A → Type 0 = λ its. (its.own.tally ≡ tally (64 - length all) [] []) × (its.thieves ≡ map (λ (other : WorkerSeatsIn A). new_thief other.own) all) in
        let same : tally parts [] [] ≡ tally (64 - length all) [] [] = ap (λ n. tally n [] []) (are ∙ ap (λ n. 64 - n) (sym count)) in
        let rows = sym (new-of-own thieves seats) in
        All-map P (beside thieves) seats (All-map (λ (s : DequeSeatIn A). P (beside thieves s)) (fresh_with parts) owners (λ k d inside. (same, rows)))

    -- and all their seats are there
    pub whole : parts + length owners ≡ 64 → let seats = map (fresh_with parts) owners in IsWhole (map posts_of (map (beside (map new_thief seats)) seats))
    whole are =
        let seats = map (fresh_with parts) owners in
        let thieves = map new_thief seats in
        let all = map posts_of (map (beside thieves) seats) in
        let count : length all ≡ length owners = length-map (map (beside thieves) seats) posts_of ∙ length-map seats (beside thieves) ∙ length-map owners (fresh_with parts) in
        let P : PostsIn A → Type 0 = λ its. (its.thieves ≡ map (λ (other : PostsIn A). other.own) all) × (its.parts + length all ≡ 64) in
        let rows = deques-of-new seats ∙ sym (own-of-posts thieves seats) in
        let sum : parts + length all ≡ 64 = omega arith in
        let each = All-map (λ (s : DequeSeatIn A). P (posts_of (beside thieves s))) (fresh_with parts) owners (λ k d inside. (rows, sum)) in
        All-map P posts_of (map (beside thieves) seats) (All-map (λ (its : WorkerSeatsIn A). P (posts_of its)) (beside thieves) seats each)

  -- so ends are dealt where each of the owners of new deques has given a part to each worker
  pub ends_dealt : (count : ℕ) (made owners : List (Owner A)) (all : List (DequeEnds A)) →
      count ≡ length made → count < 64 → owner_seats owners ≡ map (fresh_with (64 - count)) (owner_seats made) →
      map worker_seats all ≡ map (beside (map new_thief (owner_seats owners))) (owner_seats owners) → IsDealt (map worker_seats all) × IsWhole (map posts all)
  ends_dealt count made owners all len few are is = grind (arith, length-map, dealt, posts-by-seats, whole)

  -- with the room of the owners of new deques
  pub room-dealt : (room : ℕ) (made owners : List (Owner A)) (all : List (DequeEnds A)) → All (λ owner. owner_room owner ≡ room) made →
      map owner_room owners ≡ map owner_room made → map worker_room all ≡ map owner_room owners → All (λ ends. worker_room ends ≡ room) all
  room-dealt room made owners all each are is =
      let IsRoom : ℕ → Type 0 = λ n. n ≡ room in
      all-unmapped IsRoom worker_room all (subst (All IsRoom) (sym (is ∙ are)) (All-map IsRoom owner_room made each))

  -- the seat of an owner in a list whose seats are known
  pub seat-at : (owners : List (Owner A)) (seats : Seats A) (place : ℕ) (x : Owner A) → place < length owners →
      x ≡ get_or owners place x → owner_seats owners ≡ seats → get_or seats place (owner_seat x) ≡ owner_seat x
  seat-at owners seats place x inside at are = grind (arith, get_or-map)

  -- an owner changes in place, and its seat doesn't
  pub seats-same : (owners : List (Owner A)) (place : ℕ) (x y : Owner A) → x ≡ get_or owners place x → owner_seat y ≡ owner_seat x → owner_seats (set owners place y) ≡ owner_seats owners
  seats-same owners place x y at same = map-set_same owner_seat owners place y x (same ∙ ap owner_seat at)

  -- ends change in place, and their posts don't
  pub posts-same : (all : List (DequeEnds A)) (place : ℕ) (x y : DequeEnds A) → x ≡ get_or all place x → posts y ≡ posts x → map posts (set all place y) ≡ map posts all
  posts-same all place x y at same = map-set_same posts all place y x (same ∙ ap posts at)
