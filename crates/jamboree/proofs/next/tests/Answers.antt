-- A search's next act while choices are tested (`next::tests`): search again, test the next, be done or wait, each
-- where the definition says so.
use Rattle.jamboree.proofs.Common.{◌==◌, ◌≤◌, ◌&&◌, nat_lt, nat_le, slice_index, List, Bool, true, false, subst, sym, ◌∙◌, ap, arith, and_parts, lt-ltb, le-ltb, ltb-true, le-leb, lt-leb, length-map, length-drop, status_of, Act, first_open, tests, tests_from, FrameView, Ends, Waits, act_for, frame_with, entries_of, statuses_in}
use Rattle.std.proofs.Common.{◌≡◌, ℕ, ◌+◌, ◌<◌, drop, length, refl}
use Rattle.jamboree.proofs.ActLemmas.{tests-by}
use Rattle.jamboree.proofs.next.tests.Goals as goal

-- there is a status for each choice
statuses : (w : List ℕ) (count : ℕ) → length w ≡ 12 + count → length (statuses_in w) ≡ count
statuses w count entries = omega (arith, length-map (drop 12 w) status_of, length-drop 12 w, entries)

inside : (w : List ℕ) (n count : ℕ) → length w ≡ 12 + count → n < length (statuses_in w) → n < count
inside w n count entries below = omega (arith, statuses w count entries, below)

pub returns-then-has_failed : goal.returns-then-has_failed
returns-then-has_failed c =
    let w = c.args.words.now in
    let f = frame_with c.args.frame.now (entries_of w) in
    let n = c.first_open-open.result in
    subst (λ (k : ℕ). act_for c.search_again.result ≡ tests_from f k) c.first_open-open.ensures.value
    (tests-by f n (act_for c.search_again.result) true _ _ (sym c.has_failed.ensures ∙ c.if-has_failed.true) refl refl
    (c.search_again.ensures true true (entries_of w) c.rest_at.ensures))

pub returns-then-frame-choices : goal.returns-then-frame-choices
returns-then-frame-choices c =
    let v = c.args.frame.now in
    let w = c.args.words.now in
    let f = frame_with v (entries_of w) in
    subst (λ (k : ℕ). act_for c.test.result ≡ tests_from f k) c.first_open-open.ensures.value
    (tests-by f c.first_open-open.result (act_for c.test.result) false true _ (sym c.has_failed.ensures ∙ c.if-has_failed.false)
    (lt-ltb v.spawned (length (statuses_in w)) (omega (arith, length-map (drop 12 w) status_of, length-drop 12 w, c.requires.entries, c.if-frame-choices.true)))
    refl (c.test.ensures true (entries_of w) c.first_open-open.result c.rest_at-then-frame-choices.ensures))

pub search_again-requires-clause-inside : goal.search_again-requires-clause-inside
search_again-requires-clause-inside c =
    let w = c.args.words.now in
    let n = c.first_open-open.result in
    let parts = and_parts (nat_lt n (length (statuses_in w))) (slice_index (statuses_in w) n == 3) (sym c.has_failed.ensures ∙ c.if-has_failed.true) in
    inside w n c.args.frame.now.count c.requires.entries (ltb-true n (length (statuses_in w)) parts.0)

-- what is next where no test has failed and no choice is left to be tested, by whether all are settled
untested : (v : FrameView) (w : List ℕ) (n : ℕ) (act : Act) (all : Bool) → length w ≡ 12 + v.count → n ≡ first_open (statuses_in w) →
    (nat_lt n (length (statuses_in w)) && (slice_index (statuses_in w) n == 3)) ≡ false → v.count ≤ v.spawned → nat_le v.count n ≡ all →
    act ≡ tests false false all (frame_with v (entries_of w)) n → act ≡ tests_from (frame_with v (entries_of w)) (first_open (statuses_in w))
untested v w n act all entries first quiet spawned settled next =
    let f = frame_with v (entries_of w) in
    let some : length (statuses_in w) ≡ v.count = statuses w v.count entries in
    subst (λ (k : ℕ). act ≡ tests_from f k) first
    (tests-by f n act false false all quiet (le-ltb v.spawned (length (statuses_in w)) (omega (arith, some, spawned)))
    (ap (λ (m : ℕ). nat_le m n) some ∙ settled) next)

pub returns-then-frame-open : goal.returns-then-frame-open
returns-then-frame-open c =
    let v = c.args.frame.now in
    let n = c.first_open-open.result in
    untested v c.args.words.now n (act_for Ends) true c.requires.entries c.first_open-open.ensures.value (sym c.has_failed.ensures ∙ c.if-has_failed.false)
    (omega arith) (le-leb v.count n c.if-frame-open.true) refl

pub returns : goal.returns
returns c =
    let v = c.args.frame.now in
    let n = c.first_open-open.result in
    untested v c.args.words.now n (act_for Waits) false c.requires.entries c.first_open-open.ensures.value (sym c.has_failed.ensures ∙ c.if-has_failed.false)
    (omega arith) (lt-leb v.count n c.if-frame-open.false) refl
