-- What the numbers of a hall, of a desk's seat and of a ledger say after a step is taken.
use Rattle.desk.proofs.Common.{◌≡◌, ℕ, ◌+◌, ◌≤◌, List, [], ◌∷◌, sym, ap, ◌∙◌, subst, arith, length, length-append, Result, Ok, Err, OnOk, OnErr, MatchResult, Refusal, Leave, DidOf, Left, Leaf, HallOf, IsDecided, IsExplained, IsLeft, IsMoved, count_of, hall_after, Known, SeatOf, IsAsked, seeing, stepped, with_taken}
use Rattle.desk.proofs.Owners.{Step}
use Rattle.hall.specs.declared.desk_rules.asked.SeatAsked.{SeatAsked}

pub moved : (before after : HallOf) (step : Step) (answer : Result (DidOf Leaf) Refusal) → OnOk answer (after ≡ hall_after before step after.shared) → OnErr answer (after ≡ before) → OnOk answer (count_of after ≡ count_of before + 1) →
    OnOk answer (before.shared.newest ≤ after.shared.newest) → IsExplained after → IsMoved before answer after
moved before after step (Ok did) taken refused count more explained = (count, ap (λ (h : HallOf). h.kept) taken, more, explained.few, explained.numbers)
moved before after step (Err refusal) taken refused count more explained =
    let newest = ap (λ (h : HallOf). h.shared.newest) refused in
    (ap count_of refused, ap (λ (h : HallOf). h.kept) refused, omega (arith, newest), explained.few, explained.numbers)

-- a seat whose share is the number of its own steps
abbrev pub seat_of : ℕ → List SeatAsked → Known Step → SeatOf
seat_of tenant asked known = record { tenant = tenant; share = length known.mine; asked = asked; known = known }

-- it counts a step that was taken
pub seat-counts : {X : Type 0} (tenant : ℕ) (asked : List SeatAsked) (was now : Known Step) (step : Step) (answer : Result X Refusal) → now.mine ≡ with_taken was.mine step answer →
    MatchResult answer (λ _. seat_of tenant asked now ≡ stepped now (seat_of tenant asked was)) (λ _. seat_of tenant asked now ≡ seeing now (seat_of tenant asked was))
seat-counts tenant asked was now step (Ok value) is = λ i. record { tenant = tenant; share = (ap length is ∙ length-append was.mine (step ∷ [])) i; asked = asked; known = now }
seat-counts tenant asked was now step (Err refusal) is = λ i. record { tenant = tenant; share = ap length is i; asked = asked; known = now }

-- so does the number beside it
pub same-share : {X : Type 0} (answer : Result X Refusal) (before after : SeatOf) (was now : ℕ) → MatchResult answer (λ _. after ≡ stepped after.known before) (λ _. after ≡ seeing after.known before) →
    MatchResult answer (λ _. now ≡ was + 1) (λ _. now ≡ was) → was ≡ before.share → now ≡ after.share
same-share (Ok value) before after was now is steps same = steps ∙ ap (λ n. n + 1) same ∙ sym (ap (λ (s : SeatOf). s.share) is)
same-share (Err refusal) before after was now is steps same = steps ∙ same ∙ sym (ap (λ (s : SeatOf). s.share) is)

pub asked-share : (asked : SeatAsked) (answer : Result ℕ Refusal) (before after : SeatOf) (was now : ℕ) → IsAsked asked before answer after →
    MatchResult answer (λ _. now ≡ was + 1) (λ _. now ≡ was) → was ≡ before.share → now ≡ after.share
asked-share asked (Ok job) before after was now is steps same = steps ∙ ap (λ n. n + 1) same ∙ sym (ap (λ (s : SeatOf). s.share) is.0)
asked-share asked (Err refusal) before after was now is steps same = steps ∙ same ∙ sym (ap (λ (s : SeatOf). s.share) is.0)

-- and the book of all steps
pub tallied : {X : Type 0} (answer : Result X Refusal) (before after : HallOf) (k was now : ℕ) → IsMoved before answer after → MatchResult answer (λ _. now ≡ was + 1) (λ _. now ≡ was) →
    count_of before ≡ k + was → count_of after ≡ k + now
tallied (Ok value) before after k was now is total same = omega (arith, is.0, total, same)
tallied (Err refusal) before after k was now is total same = omega (arith, is.0, total, same)

-- a seat has left, and the hall keeps its share, and 1 more
pub left-as : (before between after : HallOf) (seat : SeatOf) (steps : ℕ) → IsDecided before (Leave seat.tenant) (Ok Left) between → IsMoved {X = DidOf Leaf} before (Ok Left) between → steps ≡ seat.share →
    after ≡ record between { kept = between.kept + (steps + 1) } → IsLeft before seat after
left-as before between after seat steps decided moved same is =
    let number = ap (λ (h : HallOf). h.kept) is in
    record {
      step = subst (λ (h : HallOf). IsDecided before (Leave seat.tenant) (Ok Left) (record h { kept = before.kept })) (sym is)
          (subst (λ (k : ℕ). IsDecided before (Leave seat.tenant) (Ok Left) (record between { kept = k })) moved.1 decided);
      kept = omega (arith, number, moved.1, same);
    }
