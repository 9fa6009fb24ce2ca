-- Where a job stands in a seat's list of what it asked for at a desk.
use Rattle.std.proofs.Common.{◌≡◌, ℕ, zero, suc, ◌-◌, ◌<◌, ◌≤◌, List, [], ◌∷◌, length, get_or, Some, None, refl, arith}
use Rattle.hall.specs.declared.desk_rules.asked.SeatAsked.{SeatAsked}
use Rattle.hall.specs.desk_rules.Asked.{seat_asked_at}

pub at-zero : (asked : List SeatAsked) → seat_asked_at asked 0 ≡ None
at-zero [] = refl
at-zero (first ∷ later) = at-zero later

pub at-past : (asked : List SeatAsked) (job : ℕ) → length asked < job → seat_asked_at asked job ≡ None
at-past [] job past = refl
at-past (first ∷ later) job past = grind (arith, at-past later (job - 1))

at-there : (asked : List SeatAsked) (at : ℕ) (d : SeatAsked) → at < length asked → seat_asked_at asked (suc at) ≡ Some (get_or asked at d)
at-there [] at d within = absurd (omega arith)
at-there (first ∷ later) zero d within = refl
at-there (first ∷ later) (suc at) d within =
    let number : suc (suc at) - 1 ≡ suc at = omega arith in grind (arith, at-there later at d)

pub at-read : (asked : List SeatAsked) (job : ℕ) (d : SeatAsked) → 1 ≤ job → job - 1 < length asked → d ≡ get_or asked (job - 1) d → Some d ≡ seat_asked_at asked job
at-read asked job d some within is =
    let number : suc (job - 1) ≡ job = omega arith in grind (arith, at-there asked (job - 1) d)
