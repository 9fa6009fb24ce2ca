-- The seats of a site's desk, by its book's grants and by its hall's tenants.
use Rattle.site_desk.proofs.Common.{◌≡◌, ℕ, ◌+◌, ◌<◌, ◌≤◌, inl, inr, true, false, cond, eqb, List, [], ◌∷◌, ◌++◌, length, Option, Some, None, refl, ap, sym, ◌∙◌, subst, arith, cases_Bool, eqb-true, eq-eqb, ne_eqb, and_parts, or_from, lt-leb, le-ltb, sum_by-cons, AreAbove, AreRising, ReserveOf, reserved_segments, reserved_nodes, Account, Tenant, account_in, CoreState, tenant_in, with_tenant, without_tenant, accounts_in, reservations_in, is_full, is_beyond, AreNumbersTaken, Amount, Grant, All, Who, same_who, nothing, of_one, plus, IsAmountWithin, used, is_held_as, grant_of, grants_without, grants_raised, plus-swap, BookedSeat, seats_in_book, seats_in_hall, number_of}

abbrev Entries : Type 0
Entries = List (ℕ × Tenant)

-- the seats, the first of this number having this
abbrev pub set_seat : ℕ → ReserveOf → List BookedSeat → List BookedSeat
set_seat n q [] = []
set_seat n q (s ∷ ss) = cond (eqb s.0 n) ((n, q) ∷ ss) (s ∷ set_seat n q ss)

-- the seats without those of this number
abbrev pub drop_seats : ℕ → List BookedSeat → List BookedSeat
drop_seats n [] = []
drop_seats n (s ∷ ss) = cond (eqb s.0 n) (drop_seats n ss) (s ∷ drop_seats n ss)

-- what the first seat of this number reserves
abbrev pub seat_at : ℕ → List BookedSeat → Option ReserveOf
seat_at n [] = None
seat_at n (s ∷ ss) = cond (eqb s.0 n) (Some s.1) (seat_at n ss)

-- what all seats have
abbrev pub amount_of : List BookedSeat → Amount
amount_of [] = nothing
amount_of (s ∷ ss) = plus (of_one s.1) (amount_of ss)

-- seats of a hall

pub hall-same : (n : ℕ) (old t : Tenant) (es : Entries) → tenant_in es n ≡ Some old → t.reserve ≡ old.reserve → seats_in_hall (with_tenant n t es) ≡ seats_in_hall es
hall-same n old t [] at same = absurd cc
hall-same n old t (e ∷ es) at same = elim (cases_Bool (eqb e.0 n)) [
  | inl is ↦ (let both : Some e.1 ≡ Some old = rw is at at in let own : e.1 ≡ old = cc in let number = eqb-true e.0 n is in
      rw is (λ i. (sym number i, (same ∙ ap (λ (u : Tenant). u.reserve) (sym own)) i) ∷ seats_in_hall es))
  | inr other ↦ rw other (ap (λ (ss : List BookedSeat). (e.0, e.1.reserve) ∷ ss) (hall-same n old t es (rw other at at) same))
]

pub hall-new : (n : ℕ) (t : Tenant) (es : Entries) → tenant_in es n ≡ None → seats_in_hall (with_tenant n t es) ≡ seats_in_hall es ++ (n, t.reserve) ∷ []
hall-new n t [] none = refl
hall-new n t (e ∷ es) none = elim (cases_Bool (eqb e.0 n)) [
  | inl is ↦ (let some : Some e.1 ≡ None = rw is at none in absurd cc)
  | inr other ↦ rw other (ap (λ (ss : List BookedSeat). (e.0, e.1.reserve) ∷ ss) (hall-new n t es (rw other at none)))
]

pub hall-set : (n : ℕ) (old t : Tenant) (es : Entries) → tenant_in es n ≡ Some old → seats_in_hall (with_tenant n t es) ≡ set_seat n t.reserve (seats_in_hall es)
hall-set n old t [] at = absurd cc
hall-set n old t (e ∷ es) at = elim (cases_Bool (eqb e.0 n)) [
  | inl is ↦ rw is refl
  | inr other ↦ rw other (ap (λ (ss : List BookedSeat). (e.0, e.1.reserve) ∷ ss) (hall-set n old t es (rw other at at)))
]

pub hall-drop : (n : ℕ) (es : Entries) → seats_in_hall (without_tenant n es) ≡ drop_seats n (seats_in_hall es)
hall-drop n [] = refl
hall-drop n (e ∷ es) = elim (cases_Bool (eqb e.0 n)) [
  | inl is ↦ rw is (hall-drop n es)
  | inr other ↦ rw other (ap (λ (ss : List BookedSeat). (e.0, e.1.reserve) ∷ ss) (hall-drop n es))
]

-- the tenant of a seat
pub record IsThere (es : Entries) (n : ℕ) (q : ReserveOf) : Type 0 where
  pub tenant : Tenant
  pub at : tenant_in es n ≡ Some tenant
  pub reserve : tenant.reserve ≡ q

pub hall-at : (n : ℕ) (q : ReserveOf) (es : Entries) → seat_at n (seats_in_hall es) ≡ Some q → IsThere es n q
hall-at n q [] at = absurd cc
hall-at n q (e ∷ es) at = elim (cases_Bool (eqb e.0 n)) [
  | inl is ↦ (let both : Some e.1.reserve ≡ Some q = rw is at at in let same : e.1.reserve ≡ q = cc in record { tenant = e.1; at = rw is refl; reserve = same })
  | inr other ↦ (let rest = hall-at n q es (rw other at at) in record { tenant = rest.tenant; at = rw other rest.at; reserve = rest.reserve })
]

-- seats of a book

pub book-push : (gs : List Grant) (g : Grant) → seats_in_book (gs ++ g ∷ []) ≡ seats_in_book gs ++ (g.session, g.ask) ∷ []
book-push [] g = refl
book-push (h ∷ gs) g = ap (λ (ss : List BookedSeat). (h.session, h.ask) ∷ ss) (book-push gs g)

held-number : (who : Who) (n : ℕ) (g : Grant) → is_held_as who n g ≡ true → n ≡ g.session
held-number who n g aye = eqb-true n g.session (and_parts (same_who who g.who) (eqb n g.session) aye).1

-- a session that is found isn't below all
not-above : (who : Who) (n : ℕ) (gs : List Grant) (held : Grant) → grant_of who n gs ≡ Some held → AreAbove number_of n (seats_in_book gs) → ⊥
not-above who n [] held is above = cc
not-above who n (g ∷ gs) held is above = elim (cases_Bool (is_held_as who n g)) [
  | inl aye ↦ (let number = held-number who n g aye in let more : n < g.session = above.0 in omega (arith, number, more))
  | inr nay ↦ not-above who n gs held (rw nay at is) above.1
]

-- where the first is another's its number isn't that of the session that is found behind it
other-number : (who : Who) (n : ℕ) (g : Grant) (gs : List Grant) (held : Grant) → grant_of who n gs ≡ Some held → AreAbove number_of g.session (seats_in_book gs) → eqb g.session n ≡ false
other-number who n g gs held is above = elim (cases_Bool (eqb g.session n)) [
  | inl aye ↦ absurd (not-above who n gs held is (subst (λ m. AreAbove number_of m (seats_in_book gs)) (eqb-true g.session n aye) above))
  | inr nay ↦ nay
]

pub book-set : (who : Who) (n : ℕ) (q : ReserveOf) (gs : List Grant) (held : Grant) → grant_of who n gs ≡ Some held → AreRising number_of (seats_in_book gs) → seats_in_book (grants_raised who n q gs) ≡ set_seat n q (seats_in_book gs)
book-set who n q [] held is rising = absurd cc
book-set who n q (g ∷ gs) held is rising = elim (cases_Bool (is_held_as who n g)) [
  | inl aye ↦ (let number = held-number who n g aye in
      rw (aye, eq-eqb g.session n (sym number)) (λ i. (sym number i, q) ∷ seats_in_book gs))
  | inr nay ↦ (let there = rw nay at is in
      rw (nay, other-number who n g gs held there rising.0) (ap (λ (ss : List BookedSeat). (g.session, g.ask) ∷ ss) (book-set who n q gs held there rising.1)))
]

drop-above : (n : ℕ) (ss : List BookedSeat) → AreAbove number_of n ss → drop_seats n ss ≡ ss
drop-above n [] above = refl
drop-above n (s ∷ ss) above = rw (ne_eqb s.0 n (λ e. omega (arith, e, above.0))) (ap (λ (r : List BookedSeat). s ∷ r) (drop-above n ss above.1))

pub book-drop : (who : Who) (n : ℕ) (gs : List Grant) (held : Grant) → grant_of who n gs ≡ Some held → AreRising number_of (seats_in_book gs) → seats_in_book (grants_without who n gs) ≡ drop_seats n (seats_in_book gs)
book-drop who n [] held is rising = absurd cc
book-drop who n (g ∷ gs) held is rising = elim (cases_Bool (is_held_as who n g)) [
  | inl aye ↦ (let number = held-number who n g aye in
      rw (aye, eq-eqb g.session n (sym number)) (sym (drop-above n (seats_in_book gs) (subst (λ m. AreAbove number_of m (seats_in_book gs)) (sym number) rising.0))))
  | inr nay ↦ (let there = rw nay at is in
      rw (nay, other-number who n g gs held there rising.0) (ap (λ (ss : List BookedSeat). (g.session, g.ask) ∷ ss) (book-drop who n gs held there rising.1)))
]

pub book-at : (who : Who) (n : ℕ) (gs : List Grant) (held : Grant) → grant_of who n gs ≡ Some held → AreRising number_of (seats_in_book gs) → seat_at n (seats_in_book gs) ≡ Some held.ask
book-at who n [] held is rising = absurd cc
book-at who n (g ∷ gs) held is rising = elim (cases_Bool (is_held_as who n g)) [
  | inl aye ↦ (let number = held-number who n g aye in let both : Some g ≡ Some held = rw aye at is in let same : g ≡ held = cc in
      rw (eq-eqb g.session n (sym number)) (ap (λ (h : Grant). Some h.ask) same))
  | inr nay ↦ (let there = rw nay at is in rw (other-number who n g gs held there rising.0) (book-at who n gs held there rising.1))
]

-- numbers that rise

above-push : (m n : ℕ) (q : ReserveOf) (ss : List BookedSeat) → m < n → AreAbove number_of m ss → AreAbove number_of m (ss ++ (n, q) ∷ [])
above-push m n q [] less above = (less, tt)
above-push m n q (s ∷ ss) less above = (above.0, above-push m n q ss less above.1)

-- all are at most this
abbrev pub AreUpTo : ℕ → List BookedSeat → Type 0
AreUpTo most [] = Unit {0}
AreUpTo most (s ∷ ss) = (s.0 ≤ most) × AreUpTo most ss

pub taken-upto : (newest : ℕ) (es : Entries) → AreNumbersTaken newest es → AreUpTo newest (seats_in_hall es)
taken-upto newest [] known = tt
taken-upto newest (e ∷ es) known = (known.0, taken-upto newest es known.1)

pub rising-push : (most n : ℕ) (q : ReserveOf) (ss : List BookedSeat) → most < n → AreUpTo most ss → AreRising number_of ss → AreRising number_of (ss ++ (n, q) ∷ [])
rising-push most n q [] less few rising = (tt, tt)
rising-push most n q (s ∷ ss) less few rising = (let first : s.0 ≤ most = few.0 in (above-push s.0 n q ss (omega (arith, first, less)) rising.0, rising-push most n q ss less few.1 rising.1))

above-set : (m n : ℕ) (q : ReserveOf) (ss : List BookedSeat) → AreAbove number_of m ss → AreAbove number_of m (set_seat n q ss)
above-set m n q [] above = tt
above-set m n q (s ∷ ss) above = elim (cases_Bool (eqb s.0 n)) [
  | inl is ↦ rw is (subst (λ k. m < k) (eqb-true s.0 n is) above.0, above.1)
  | inr other ↦ rw other (above.0, above-set m n q ss above.1)
]

pub rising-set : (n : ℕ) (q : ReserveOf) (ss : List BookedSeat) → AreRising number_of ss → AreRising number_of (set_seat n q ss)
rising-set n q [] rising = tt
rising-set n q (s ∷ ss) rising = elim (cases_Bool (eqb s.0 n)) [
  | inl is ↦ rw is (subst (λ k. AreAbove number_of k ss) (eqb-true s.0 n is) rising.0, rising.1)
  | inr other ↦ rw other (above-set s.0 n q ss rising.0, rising-set n q ss rising.1)
]

above-drop : (m n : ℕ) (ss : List BookedSeat) → AreAbove number_of m ss → AreAbove number_of m (drop_seats n ss)
above-drop m n [] above = tt
above-drop m n (s ∷ ss) above = elim (cases_Bool (eqb s.0 n)) [
  | inl is ↦ rw is (above-drop m n ss above.1)
  | inr other ↦ rw other (above.0, above-drop m n ss above.1)
]

pub rising-drop : (n : ℕ) (ss : List BookedSeat) → AreRising number_of ss → AreRising number_of (drop_seats n ss)
rising-drop n [] rising = tt
rising-drop n (s ∷ ss) rising = elim (cases_Bool (eqb s.0 n)) [
  | inl is ↦ rw is (rising-drop n ss rising.1)
  | inr other ↦ rw other (above-drop s.0 n ss rising.0, rising-drop n ss rising.1)
]

-- sums

pub book-amount : (gs : List Grant) → used All gs ≡ amount_of (seats_in_book gs)
book-amount [] = refl
book-amount (g ∷ gs) = ap (plus (of_one g.ask)) (book-amount gs)

pub hall-segments : (es : Entries) → reserved_segments (accounts_in es) ≡ (amount_of (seats_in_hall es)).segments
hall-segments [] = refl
hall-segments (e ∷ es) = sum_by-cons (λ (a : ℕ × Account). a.1.reserve.segments) (e.0, account_in e.1) (accounts_in es) ∙ ap (λ (n : ℕ). e.1.reserve.segments + n) (hall-segments es)

pub hall-nodes : (es : Entries) → reserved_nodes (accounts_in es) ≡ (amount_of (seats_in_hall es)).nodes
hall-nodes [] = refl
hall-nodes (e ∷ es) = sum_by-cons (λ (a : ℕ × Account). a.1.reserve.nodes) (e.0, account_in e.1) (accounts_in es) ∙ ap (λ (n : ℕ). e.1.reserve.nodes + n) (hall-nodes es)

pub hall-sessions : (es : Entries) → length (accounts_in es) ≡ (amount_of (seats_in_hall es)).sessions
hall-sessions [] = refl
hall-sessions (e ∷ es) = (let rest = hall-sessions es in omega (arith, rest))

-- all have what the session has, and the others
pub used-found : (who : Who) (n : ℕ) (gs : List Grant) (held : Grant) → grant_of who n gs ≡ Some held → used All gs ≡ plus (of_one held.ask) (used All (grants_without who n gs))
used-found who n [] held is = absurd cc
used-found who n (g ∷ gs) held is = elim (cases_Bool (is_held_as who n g)) [
  | inl aye ↦ (let both : Some g ≡ Some held = rw aye at is in let same : g ≡ held = cc in rw aye (ap (λ (h : Grant). plus (of_one h.ask) (used All gs)) same))
  | inr nay ↦ (let rest = used-found who n gs held (rw nay at is) in rw nay (ap (plus (of_one g.ask)) rest ∙ plus-swap (of_one g.ask) (of_one held.ask) (used All (grants_without who n gs))))
]

-- room

pub not-full : (shared : CoreState) (q : ReserveOf) (all totals : Amount) → all ≡ amount_of (seats_in_hall shared.tenants) → IsAmountWithin (plus (of_one q) all) totals → totals.sessions ≤ 64 → totals.segments ≤ shared.totals.segments → totals.nodes ≤ shared.totals.nodes → is_full (reservations_in shared) q ≡ false
not-full shared q all totals is room few segments nodes =
    let accounts = accounts_in shared.tenants in
    let long : length accounts ≡ all.sessions = hall-sessions shared.tenants ∙ ap (λ (a : Amount). a.sessions) (sym is) in
    let segment_sum : reserved_segments accounts ≡ all.segments = hall-segments shared.tenants ∙ ap (λ (a : Amount). a.segments) (sym is) in
    let node_sum : reserved_nodes accounts ≡ all.nodes = hall-nodes shared.tenants ∙ ap (λ (a : Amount). a.nodes) (sym is) in
    or_from _ _ (or_from _ _ (lt-leb 64 (length accounts) (omega (arith, long, room.sessions, few))) (le-ltb shared.totals.segments (reserved_segments accounts + q.segments) (omega (arith, segment_sum, room.segments, segments)))) (le-ltb shared.totals.nodes (reserved_nodes accounts + q.nodes) (omega (arith, node_sum, room.nodes, nodes)))

pub not-beyond : (shared : CoreState) (own q : ReserveOf) (all others totals : Amount) → all ≡ amount_of (seats_in_hall shared.tenants) → all ≡ plus (of_one own) others → IsAmountWithin (plus (of_one q) others) totals → totals.segments ≤ shared.totals.segments → totals.nodes ≤ shared.totals.nodes → is_beyond (reservations_in shared) own q ≡ false
not-beyond shared own q all others totals is parts room segments nodes =
    let accounts = accounts_in shared.tenants in
    let segment_sum : reserved_segments accounts ≡ own.segments + others.segments = hall-segments shared.tenants ∙ ap (λ (a : Amount). a.segments) (sym is ∙ parts) in
    let node_sum : reserved_nodes accounts ≡ own.nodes + others.nodes = hall-nodes shared.tenants ∙ ap (λ (a : Amount). a.nodes) (sym is ∙ parts) in
    or_from _ _ (le-ltb (shared.totals.segments + own.segments) (reserved_segments accounts + q.segments) (omega (arith, segment_sum, room.segments, segments))) (le-ltb (shared.totals.nodes + own.nodes) (reserved_nodes accounts + q.nodes) (omega (arith, node_sum, room.nodes, nodes)))
