-- The pool's task deques: the seats of thieves are joined to the owners' at the end.
use Rattle.steal_pool.proofs.TaskDeques.Common.{◌≡◌, ℕ, zero, suc, ◌+◌, ◌<◌, ◌≤◌, List, [], ◌∷◌, ◌++◌, length, map, take, drop, set, get_or, All, sym, refl, ap, ◌∙◌, subst, arith, add-one, vec_len, length-map, map-set, drop_more, drop-set-lt, get_or-map, take-append-drop, All-head, All-tail, All-cons, All-map, Owner, Thief, Returned, DequeIn, DequeSeatIn, owner_seat, thief_seat, joined, WorkerSeatsIn, PostsIn, owner_seats, thief_seats, deques, posts_of, with_row, with_rows, zip_seats, whole_deques, returned, IsWhole}

-- seats at deques
abbrev pub Seats : Type 0 → Type 0
Seats A = List (DequeSeatIn A)

-- what holds of each mapped element
pub all-unmapped : {X Y : Type 0} (P : Y → Type 0) (f : X → Y) (xs : List X) → All P (map f xs) → All (λ x. P (f x)) xs
all-unmapped P f xs all k d inside = subst P (get_or-map f xs k d (f d) inside) (all k (f d) (omega (arith, length-map xs f)))

module _ {A : Type 0} where
  -- a thief has one part
  pub one-part : (row : List (Thief A)) → All (λ seat. seat.tally.parts ≡ 1) (thief_seats row)
  one-part row = All-map (λ (seat : DequeSeatIn A). seat.tally.parts ≡ 1) thief_seat row (λ k d inside. (get_or row k d).part)

  -- a loop over a row, at a place: the thieves that are left are at the deques of the owners that are left, and joined to these they come to the whole
  pub record IsTurn (owners : Seats A) (place : ℕ) (left total : Seats A) : Type 0 where
    pub comes_to : take place owners ++ with_row (drop place owners) left ≡ total
    pub same : deques left ≡ deques (drop place owners)
    pub parts : All (λ seat. seat.tally.parts < 64) (drop place owners)

  abbrev HasRoom : DequeSeatIn A → Type 0
  HasRoom seat = seat.tally.parts < 64

  -- the deques of the first two are one, and the next place
  turn-same : (owners : Seats A) (place : ℕ) (thief : DequeSeatIn A) (left : Seats A) (d : DequeSeatIn A) → deques (thief ∷ left) ≡ deques (drop place owners) →
      (place < length owners) × (thief.deque ≡ (get_or owners place d).deque) × (deques left ≡ deques (drop (suc place) owners))
  turn-same [] zero thief left d same = absurd cc
  turn-same [] (suc place) thief left d same = absurd cc
  turn-same (o ∷ os) zero thief left d same = (omega arith, cc, cc)
  turn-same (o ∷ os) (suc place) thief left d same =
      let rest = turn-same os place thief left d same in
      (let inside = rest.0 in omega arith, rest.1, rest.2)

  -- one more is joined
  turn-joins : (owners : Seats A) (place : ℕ) (thief : DequeSeatIn A) (left : Seats A) (d : DequeSeatIn A) → place < length owners →
      let after = set owners place (joined (get_or owners place d) thief) in
      take (suc place) after ++ with_row (drop (suc place) after) left ≡ take place owners ++ with_row (drop place owners) (thief ∷ left)
  turn-joins (o ∷ os) (suc place) thief left d inside = ap (λ (l : Seats A). o ∷ l) (turn-joins os place thief left d (omega arith))
  turn-joins owners place thief left d inside = grind arith

  -- at the place of the next thief
  module _ (owners : List (Owner A)) (place : ℕ) (thief : Thief A) (old left : List (Thief A)) (total : Seats A) (steps : old ≡ thief ∷ left)
      (turn : IsTurn (owner_seats owners) place (thief_seats old) total) where
    next-same : (d : DequeSeatIn A) → (place < length (owner_seats owners)) × ((thief_seat thief).deque ≡ (get_or (owner_seats owners) place d).deque)
        × (deques (thief_seats left) ≡ deques (drop (suc place) (owner_seats owners)))
    next-same d = turn-same (owner_seats owners) place (thief_seat thief) (thief_seats left) d (ap (λ (l : List (Thief A)). deques (thief_seats l)) (sym steps) ∙ turn.same)

    -- there is an owner
    pub turn-inside : place < length owners
    turn-inside = omega (arith, (next-same (thief_seat thief)).0, length-map owners owner_seat)

    module _ (x : Owner A) (at : x ≡ get_or owners place x) where
      seat-here : get_or (owner_seats owners) place (owner_seat x) ≡ owner_seat x
      seat-here = get_or-map owner_seat owners place x (owner_seat x) turn-inside ∙ ap owner_seat (sym at)

      -- what the join of its thief asks for
      pub joins-here : (place < length owners) × ((thief_seat thief).deque ≡ (owner_seat x).deque) × ((owner_seat x).tally.parts < 64)
      joins-here =
          let seats = owner_seats owners in
          let d = owner_seat x in
          let same = next-same d in
          let room = All-head HasRoom (get_or seats place d) (drop (place + 1) seats) (subst (All HasRoom) (drop_more seats place d same.0) turn.parts) in
          (turn-inside, same.1 ∙ ap (λ (s : DequeSeatIn A). s.deque) seat-here, subst HasRoom seat-here room)

      -- the turn after it
      pub joined-here : (y : Owner A) → owner_seat y ≡ joined (owner_seat x) (thief_seat thief) → IsTurn (owner_seats (set owners place y)) (place + 1) (thief_seats left) total
      joined-here y is =
          let seats = owner_seats owners in
          let d = owner_seat x in
          let t = thief_seat thief in
          let rest = thief_seats left in
          let same = next-same d in
          let after = set seats place (joined (get_or seats place d) t) in
          let its = is ∙ ap (λ (s : DequeSeatIn A). joined s t) (sym seat-here) in
          let changed : owner_seats (set owners place y) ≡ after = map-set owner_seat owners place y ∙ ap (λ (s : DequeSeatIn A). set seats place s) its in
          let dropped = drop-set-lt (place + 1) seats place (joined (get_or seats place d) t) (omega arith) in
          let left_is = ap (λ (l : List (Thief A)). take place seats ++ with_row (drop place seats) (thief_seats l)) (sym steps) in
          let all : take (place + 1) after ++ with_row (drop (place + 1) after) rest ≡ total = rw add-one (turn-joins seats place t rest d same.0 ∙ left_is ∙ turn.comes_to) in
          let more : deques rest ≡ deques (drop (place + 1) after) = same.2 ∙ ap (λ (n : ℕ). deques (drop n seats)) (sym (add-one place)) ∙ ap deques (sym dropped) in
          let room = All-tail HasRoom (get_or seats place d) (drop (place + 1) seats) (subst (All HasRoom) (drop_more seats place d same.0) turn.parts) in
          subst (λ (l : Seats A). IsTurn l (place + 1) rest total) (sym changed) (record { comes_to = all; same = more; parts = subst (All HasRoom) (sym dropped) room })

  -- at the end all is joined
  pub with-no-row : (owners : Seats A) → with_row owners [] ≡ owners
  with-no-row [] = refl
  with-no-row (o ∷ os) = refl

  pub joined-all : (owners : Seats A) (place : ℕ) (total : Seats A) → IsTurn owners place [] total → owners ≡ total
  joined-all owners place total turn = sym (ap (λ (l : Seats A). take place owners ++ l) (with-no-row (drop place owners)) ∙ take-append-drop place owners) ∙ turn.comes_to

  -- joining changes no deque
  pub deques-with_row : (owners row : Seats A) → deques (with_row owners row) ≡ deques owners
  deques-with_row (o ∷ os) (t ∷ row) = ap (λ (l : List (DequeIn A)). o.deque ∷ l) (deques-with_row os row)
  deques-with_row owners row = grind arith

  pub length-with_row : (owners row : Seats A) → length (with_row owners row) ≡ length owners
  length-with_row (o ∷ os) (t ∷ row) = ap suc (length-with_row os row)
  length-with_row owners row = grind arith

  -- a loop over rows: what is left comes to the whole
  pub record AreTurns (owners : Seats A) (rows : List (Seats A)) (total : Seats A) : Type 0 where
    pub come_to : with_rows owners rows ≡ total
    pub same : All (λ row. deques row ≡ deques owners) rows
    pub parts : All (λ seat. seat.tally.parts + length rows ≡ 64) owners

  -- and each owner has one part more
  pub parts-with_row : (owners row : Seats A) (left : ℕ) → deques row ≡ deques owners → All (λ seat. seat.tally.parts ≡ 1) row →
      All (λ seat. seat.tally.parts + (left + 1) ≡ 64) owners → All (λ seat. seat.tally.parts + left ≡ 64) (with_row owners row)
  parts-with_row (o ∷ os) (t ∷ row) left are one parts =
      let One : DequeSeatIn A → Type 0 = λ seat. seat.tally.parts ≡ 1 in
      let More : DequeSeatIn A → Type 0 = λ seat. seat.tally.parts + (left + 1) ≡ 64 in
      let mine : t.tally.parts ≡ 1 = All-head One t row one in
      let its : o.tally.parts + (left + 1) ≡ 64 = All-head More o os parts in
      let rest : deques row ≡ deques os = cc in
      All-cons (λ (seat : DequeSeatIn A). seat.tally.parts + left ≡ 64) (joined o t) (with_row os row) (omega arith)
      (parts-with_row os row left rest (All-tail One t row one) (All-tail More o os parts))
  parts-with_row owners row left are one parts = grind arith

  -- owners and rows come apart again
  pub own-of-zip : (owners : Seats A) (rows : List (Seats A)) → length owners ≡ length rows →
      map (λ (its : WorkerSeatsIn A). its.own) (zip_seats owners rows) ≡ owners
  own-of-zip (o ∷ os) (row ∷ rows) len = ap (λ (l : Seats A). o ∷ l) (own-of-zip os rows (omega arith))
  own-of-zip owners rows len = grind arith

  pub thieves-of-zip : (owners : Seats A) (rows : List (Seats A)) → length owners ≡ length rows →
      map (λ (its : WorkerSeatsIn A). its.thieves) (zip_seats owners rows) ≡ rows
  thieves-of-zip [] [] len = refl
  thieves-of-zip [] (row ∷ rows) len = absurd (omega arith)
  thieves-of-zip (o ∷ os) [] len = absurd (omega arith)
  thieves-of-zip (o ∷ os) (row ∷ rows) len = ap (λ (l : List (Seats A)). row ∷ l) (thieves-of-zip os rows (omega arith))

  pub length-of-zip : (owners : Seats A) (rows : List (Seats A)) → length owners ≡ length rows → length (zip_seats owners rows) ≡ length owners
  length-of-zip (o ∷ os) (row ∷ rows) len = ap suc (length-of-zip os rows (omega arith))
  length-of-zip owners rows len = grind arith

  pub zip_push : (owners : Seats A) (rows : List (Seats A)) (own : DequeSeatIn A) (row : Seats A) → length owners ≡ length rows →
      zip_seats (owners ++ own ∷ []) (rows ++ row ∷ []) ≡ zip_seats owners rows ++ record { own = own; thieves = row } ∷ []
  zip_push [] [] own row len = refl
  zip_push [] (r ∷ rows) own row len = absurd (omega arith)
  zip_push (o ∷ os) [] own row len = absurd (omega arith)
  zip_push (o ∷ os) (r ∷ rows) own row len = ap (λ (l : List (WorkerSeatsIn A)). record { own = o; thieves = r } ∷ l) (zip_push os rows own row (omega arith))

  -- a row for each owner
  pub row_each : (back : Returned A) → length (owner_seats back.owners.items) ≡ length (map (λ row. thief_seats row.items) back.rows.items)
  row_each back = omega (arith, length-map back.owners.items owner_seat, length-map back.rows.items (λ row. thief_seats row.items), back.owners.ok.0, back.rows.ok.0, back.paired)

  -- each deque, of owners and rows
  pub whole-of-zip : (owners : Seats A) (rows : List (Seats A)) → length owners ≡ length rows → whole_deques (zip_seats owners rows) ≡ with_rows owners rows
  whole-of-zip owners rows len = grind (arith, own-of-zip, thieves-of-zip)

  deques-of-posts : (all : List (WorkerSeatsIn A)) → map (λ (its : PostsIn A). its.own) (map posts_of all) ≡ deques (map (λ (its : WorkerSeatsIn A). its.own) all)
  deques-of-posts [] = refl
  deques-of-posts (its ∷ all) = ap (λ (l : List (DequeIn A)). its.own.deque ∷ l) (deques-of-posts all)

  -- where all seats are there
  module _ (owners : Seats A) (rows : List (Seats A)) (len : length owners ≡ length rows) (is : IsWhole (map posts_of (zip_seats owners rows))) where
    abbrev IsPost : PostsIn A → Type 0
    IsPost its = (its.thieves ≡ map (λ (other : PostsIn A). other.own) (map posts_of (zip_seats owners rows))) × (its.parts + length (map posts_of (zip_seats owners rows)) ≡ 64)

    -- each row is at the owners' deques
    pub rows-of-whole : All (λ row. deques row ≡ deques owners) rows
    rows-of-whole =
        let all = zip_seats owners rows in
        let each = all-unmapped IsPost posts_of all is in
        let own = deques-of-posts all ∙ ap deques (own-of-zip owners rows len) in
        let R : Seats A → Type 0 = λ (row : Seats A). deques row ≡ deques owners in
        subst (All R) (thieves-of-zip owners rows len) (All-map R (λ (its : WorkerSeatsIn A). its.thieves) all (λ k d inside. (each k d inside).0 ∙ own))

    -- and the owners lack as many parts as there are rows
    pub parts-of-whole : All (λ seat. seat.tally.parts + length owners ≡ 64) owners
    parts-of-whole =
        let all = zip_seats owners rows in
        let each = all-unmapped IsPost posts_of all is in
        let count : length (map posts_of all) ≡ length owners = length-map all posts_of ∙ length-of-zip owners rows len in
        let R : DequeSeatIn A → Type 0 = λ (seat : DequeSeatIn A). seat.tally.parts + length owners ≡ 64 in
        subst (All R) (own-of-zip owners rows len) (All-map R (λ (its : WorkerSeatsIn A). its.own) all (λ k d inside. let sum = (each k d inside).1 in omega arith))

  pub few-of-parts : (owners : Seats A) (n : ℕ) → length owners ≡ n → All (λ seat. seat.tally.parts + n ≡ 64) owners → length owners ≤ 64
  few-of-parts [] n len parts = omega arith
  few-of-parts (o ∷ os) n len parts = let its = All-head (λ (seat : DequeSeatIn A). seat.tally.parts + n ≡ 64) o os parts in omega arith

  -- of ends that came back there are as many as owners
  pub length_back : (back : Returned A) → length (returned back) ≡ vec_len back.owners
  length_back back = omega (arith, length-of-zip (owner_seats back.owners.items) _ (row_each back), length-map back.owners.items owner_seat, back.owners.ok.0)

  -- they are the owners with all rows joined
  pub whole_back : (back : Returned A) → whole_deques (returned back) ≡ with_rows (owner_seats back.owners.items) (map (λ row. thief_seats row.items) back.rows.items)
  whole_back back = whole-of-zip _ _ (row_each back)

  -- where all seats are there, each row is at the owners' deques, the owners lack as many parts as there are rows, and they are few
  pub rows_back : (back : Returned A) → IsWhole (map posts_of (returned back)) → All (λ row. deques (thief_seats row.items) ≡ deques (owner_seats back.owners.items)) back.rows.items
  rows_back back is =
      let owners : Seats A = owner_seats back.owners.items in
      all-unmapped (λ (row : Seats A). deques row ≡ deques owners) (λ row. thief_seats row.items) back.rows.items (rows-of-whole owners _ (row_each back) is)

  pub parts_back : (back : Returned A) → IsWhole (map posts_of (returned back)) → All (λ seat. seat.tally.parts + vec_len back.rows ≡ 64) (owner_seats back.owners.items)
  parts_back back is k d inside = grind (arith, parts-of-whole, row_each, length-map)

  pub few-back : (back : Returned A) → IsWhole (map posts_of (returned back)) → vec_len back.owners ≤ 64
  few-back back is = grind (arith, few-of-parts, parts-of-whole, row_each, length-map)

  -- a loop over rows, at the next one
  pub next-row : {X : Type 0} (seats : X → Seats A) (owners : Seats A) (row : X) (old rest : List X) (total : Seats A) → old ≡ row ∷ rest →
      AreTurns owners (map seats old) total → AreTurns owners (seats row ∷ map seats rest) total
  next-row seats owners row old rest total steps turns = subst (λ l. AreTurns owners (map seats l) total) steps turns

  -- what the joining of a row asks for
  pub row-room : (owners : Seats A) (rows : List (Seats A)) (row : Seats A) (total : Seats A) → AreTurns owners (row ∷ rows) total →
      (deques row ≡ deques owners) × All (λ seat. seat.tally.parts < 64) owners
  row-room owners rows row total turns = grind arith

  -- the turn after it
  pub rows-turn : (owners after : Seats A) (rows : List (Seats A)) (row : Seats A) (total : Seats A) →
      All (λ seat. seat.tally.parts ≡ 1) row → after ≡ with_row owners row → AreTurns owners (row ∷ rows) total → AreTurns after rows total
  rows-turn owners after rows row total one is turns =
      let Same : Seats A → Type 0 = λ r. deques r ≡ deques owners in
      let here : deques row ≡ deques owners = All-head Same row rows turns.same in
      let rest : All Same rows = All-tail Same row rows turns.same in
      let again : deques owners ≡ deques (with_row owners row) = sym (deques-with_row owners row) in
      let parts = parts-with_row owners row (length rows) here one (λ k d inside. let sum = turns.parts k d inside in omega arith) in
      subst (λ (l : Seats A). AreTurns l rows total) (sym is) (record { come_to = turns.come_to; same = λ k d inside. rest k d inside ∙ again; parts = parts })

  -- at the end all rows are joined
  pub rows_done : (owners : Seats A) (total : Seats A) → AreTurns owners [] total → (owners ≡ total) × All (λ seat. seat.tally.parts ≡ 64) owners
  rows_done owners total turns = (turns.come_to, λ k d inside. let sum = turns.parts k d inside in omega arith)
