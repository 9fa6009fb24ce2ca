-- Meaning: in which hall of a site a guest's next session is.
use Rattle.std.specs.Prelude.{ℕ, suc, ◌+◌, ◌-◌, ◌^◌, ◌==◌, ◌||◌, nat_lt, min, List, [], ◌∷◌, Option, Some, None, if◌then◌else◌}
use Rattle.site_rules.specs.declared.halls.HallRoom.{HallRoom}

-- how much is left in a hall: nothing where it has no room for a session, and else one more than the nodes, as far as that can be said
abbrev pub left : HallRoom → ℕ
left room = if (room.sessions == 0) || (room.segments == 0) then 0 else min (room.nodes + 1) (2 ^ 64 - 1)

-- the first of these halls, from this place on, in which more is left than so much, and in the most of them; else the best before
abbrev pub emptiest : ℕ → ℕ → ℕ → List HallRoom → ℕ
emptiest best most place [] = best
emptiest best most place (room ∷ rooms) =
    if nat_lt most (left room) then emptiest place (left room) (suc place) rooms else emptiest best most (suc place) rooms

-- the hall of a guest's next session: the one where it has sessions already, else the one where most is left
abbrev pub hall_of_guest : List HallRoom → Option ℕ → ℕ
hall_of_guest rooms None = emptiest 0 0 0 rooms
hall_of_guest rooms (Some hall) = hall
