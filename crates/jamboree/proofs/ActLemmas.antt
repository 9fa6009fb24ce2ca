-- The search's acts on a frame, and the windows in which children are searched.
use Rattle.jamboree.proofs.Common.{◌≡◌, ℕ, ◌+◌, ◌<◌, ◌^◌, ◌==◌, ◌&&◌, nat_lt, nat_le, Bool, true, false, ℤ, pos, negsuc, neg_ℤ, ◌+ℤ◌, ◌-ℤ◌, ◌≤ℤ◌, List, [], ◌∷◌, length, slice_index, slice_index_or, slice_get, unwrap_or, Option, Some, bit_and, refl, to_z, of_z, w32, sym, ◌∙◌, ap, arith, ints, eq-eqb, unwrap_or-slice_get, Cell, cells_of, Choice, Pass, choices, after, Act, Continuation, Frame, board, choice_at, own_word, opp_word, Spawned, Status, pairs_of, spawns, opening_on, first_search, tests, tests_from, act_by, act_of, own-is, opp-is, FrameView, Role, Test, role_number, map, cond_both, Square, plies, Low, changes_by, changes_of, frame_in, int_le, int_lt, kind_by, kind_of, floor, seen}
use Rattle.std.proofs.Common.{suc}

-- what a call says of a score: whose it is, and its range
abbrev pub IsScore : (most r s : ℤ) → Type 0
IsScore most r s = record { value : r ≡ s; low : negsuc 199999 ≤ℤ r; high : r ≤ℤ most }

-- an i32 of this value
abbrev pub as_i32 : ℤ → ℤ
as_i32 x = to_z w32 (of_z w32 x)

-- a child's score, a frame's floor, its beta and its best score are themselves as i32
seen-wide : (r s : ℤ) → IsScore (pos 1000000) r s → as_i32 r ≡ s
seen-wide r s score = omega (arith, ints)

floor-wide : (r s : ℤ) → IsScore (pos 200000) r s → as_i32 r ≡ s
floor-wide r s score = omega (arith, ints)

beta-wide : (v : FrameView) → as_i32 v.goal.beta ≡ v.goal.beta
beta-wide v = omega (arith, ints)

pub best-wide : (v : FrameView) → as_i32 v.best ≡ v.best
best-wide v = omega (arith, ints)

-- and so are minus alpha, beta, the floor and one more than that
pub negated-alpha : (v : FrameView) → as_i32 (pos 0 -ℤ as_i32 v.goal.alpha) ≡ neg_ℤ v.goal.alpha
negated-alpha v = omega (arith, ints)

pub negated-beta : (v : FrameView) → as_i32 (pos 0 -ℤ as_i32 v.goal.beta) ≡ neg_ℤ v.goal.beta
negated-beta v = omega (arith, ints)

pub negated-floor : (r s : ℤ) → IsScore (pos 200000) r s → as_i32 (pos 0 -ℤ as_i32 r) ≡ neg_ℤ s
negated-floor r s score = omega (arith, ints)

pub negated-more : (r s : ℤ) → IsScore (pos 200000) r s → as_i32 (pos 0 -ℤ as_i32 (as_i32 r +ℤ pos 1)) ≡ neg_ℤ (s +ℤ pos 1)
negated-more r s score = omega (arith, ints)

-- an act by its parts
pub act-by : (stores stores' : List (ℕ × ℕ)) (after after' : Continuation) → stores ≡ stores' → after ≡ after' →
    ◌≡◌ {A = Act} (record { stores = stores; after = after }) (record { stores = stores'; after = after' })
act-by stores stores' after after' es ea = rw (es, ea) refl

pub spawns-by : (f : Frame) (role i : ℕ) (low low' high high' : ℤ) (after : Continuation) → after ≡ spawns f role i low high → low ≡ low' → high ≡ high' →
    after ≡ spawns f role i low' high'
spawns-by f role i low low' high high' after e el eh = e ∙ ap (λ (x : ℤ). spawns f role i x high) el ∙ ap (λ (x : ℤ). spawns f role i low' x) eh

pub first-by : (f : Frame) (act : Act) → f.spawned ≡ 0 → act ≡ first_search true f → act ≡ first_search (f.spawned == 0) f
first-by f act none e = e ∙ ap (λ (b : Bool). first_search b f) (sym (eq-eqb f.spawned 0 none))

-- the stores of a choice that is searched again, and of one whose first search or test starts
pub again-stores : (n j rest kept : ℕ) → n ≡ j → rest ≡ kept → pairs_of (Status n 4 rest ∷ []) ≡ pairs_of (Status j 4 kept ∷ [])
again-stores n j rest kept e same = rw (e, same) refl

pub start-stores : (n j rest kept : ℕ) → n ≡ j → rest ≡ kept →
    pairs_of (Spawned (n + 1) ∷ Status n 1 rest ∷ []) ≡ pairs_of (Spawned (j + 1) ∷ Status j 1 kept ∷ [])
start-stores n j rest kept e same = rw (e, same) refl

-- the choice that is got at a place
pub choice-got : (cs : List Choice) (i : ℕ) (c : Choice) → slice_get cs i ≡ Some c → c ≡ slice_index_or cs i Pass
choice-got cs i c e = sym (ap (λ (o : Option Choice). unwrap_or o Pass) e) ∙ unwrap_or-slice_get cs i Pass

-- a new child whose board has these words, which hold the board after its choice
pub child-opens : (grain : ℕ) (f q : Frame) (own opp : ℕ) (c : Choice) → f.phase ≡ 0 → slice_get (choices (board q)) f.number ≡ Some c →
    cells_of own opp ≡ after (board q) c → own < 2 ^ 64 → opp < 2 ^ 64 → bit_and own opp ≡ 0 → opening_on grain f own opp ≡ act_of grain f (Some q)
child-opens grain f q own opp c phase got holds own_fits opp_fits disjoint =
    let b : List Cell = after (board q) (choice_at q f.number) in
    let same : cells_of own opp ≡ b = holds ∙ ap (λ (x : Choice). after (board q) x) (choice-got (choices (board q)) f.number c got) in
    let opp_same : opp ≡ opp_word b = opp-is own opp disjoint opp_fits ∙ ap opp_word same in
    ap (λ (o : ℕ). opening_on grain f o opp) (own-is own opp own_fits ∙ ap own_word same) ∙ ap (λ (p : ℕ). opening_on grain f (own_word b) p) opp_same
    ∙ ap (λ (n : ℕ). act_by (n == 0) (n == 1) (n == 2) (n == 3) (grain, Some q) f) (sym phase)

-- the act of the tests, by their flags
pub tests-by : (f : Frame) (at : ℕ) (act : Act) (failed more all : Bool) → (nat_lt at (length f.statuses) && (slice_index f.statuses at == 3)) ≡ failed →
    nat_lt f.spawned (length f.statuses) ≡ more → nat_le (length f.statuses) at ≡ all → act ≡ tests failed more all f at → act ≡ tests_from f at
tests-by f at act failed more all a b d is = rw (a, b, d) is

-- The stores of an inlet, and the kind of a score, by the code's tests, which are of numbers in 32 bits.

-- another role than a test's
other-role : (r : Role) → (r ≡ Test → ⊥) → (role_number r == 2) ≡ false
other-role r h = grind arith

by-tests : (f c : Frame) (stores : List (ℕ × ℕ)) (cuts test low higher : Bool) → int_le f.beta (seen c) ≡ cuts → (c.role == 2) ≡ test →
    int_le (seen c) (neg_ℤ c.beta) ≡ low → int_lt (floor f) (seen c) ≡ higher → stores ≡ pairs_of (changes_by cuts test low higher f c) →
    stores ≡ pairs_of (changes_of f c)
by-tests f c stores cuts test low higher a b d e is = rw (a, b, d, e) is

module _ (v w : FrameView) (r : ℤ) (score : IsScore (pos 1000000) r (seen (frame_in w))) (stores : List (ℕ × ℕ)) where
  reaches : (t : Bool) → int_le (as_i32 v.goal.beta) (as_i32 r) ≡ t → int_le v.goal.beta (seen (frame_in w)) ≡ t
  reaches t h = rw (beta-wide v, seen-wide r _ score) at h

  -- a score of at least beta
  pub by-end : int_le (as_i32 v.goal.beta) (as_i32 r) ≡ true →
      ((test low higher : Bool) → stores ≡ pairs_of (changes_by true test low higher (frame_in v) (frame_in w))) →
      stores ≡ pairs_of (changes_of (frame_in v) (frame_in w))
  by-end ends e = by-tests (frame_in v) (frame_in w) stores true _ _ _ (reaches true ends) refl refl refl (e true true true)

  -- a test below beta: low, or failed
  pub by-test : (low : Bool) → int_le (as_i32 v.goal.beta) (as_i32 r) ≡ false → w.role ≡ Test → int_le (as_i32 r) (as_i32 (pos 0 -ℤ as_i32 w.goal.beta)) ≡ low →
      ((higher : Bool) → stores ≡ pairs_of (changes_by false true low higher (frame_in v) (frame_in w))) →
      stores ≡ pairs_of (changes_of (frame_in v) (frame_in w))
  by-test low under test h e =
      by-tests (frame_in v) (frame_in w) stores false true low _ (reaches false under) (ap (λ (role : Role). role_number role == 2) test)
      (rw (seen-wide r _ score, negated-beta w) at h) refl (e _)

  -- another child below beta: above the floor, or not
  pub by-search : (m : ℤ) (higher : Bool) → int_le (as_i32 v.goal.beta) (as_i32 r) ≡ false → (w.role ≡ Test → ⊥) → IsScore (pos 200000) m (floor (frame_in v)) →
      int_lt (as_i32 m) (as_i32 r) ≡ higher → ((low : Bool) → stores ≡ pairs_of (changes_by false false low higher (frame_in v) (frame_in w))) →
      stores ≡ pairs_of (changes_of (frame_in v) (frame_in w))
  by-search m higher under other above h e =
      by-tests (frame_in v) (frame_in w) stores false false _ higher (reaches false under) (other-role w.role other) refl
      (rw (floor-wide m _ above, seen-wide r _ score) at h) (e true)

pub is-low : (w : FrameView) (r s : ℤ) (low : Bool) → IsScore (pos 1000000) r s → int_le (as_i32 r) (as_i32 (pos 0 -ℤ as_i32 w.goal.beta)) ≡ low →
    low ≡ int_le s (neg_ℤ w.goal.beta)
is-low w r s low score h = sym (rw (seen-wide r s score, negated-beta w) at h)

pub is-high : (w : FrameView) (r s : ℤ) (high : Bool) → IsScore (pos 1000000) r s → int_le (as_i32 (pos 0 -ℤ as_i32 w.goal.alpha)) (as_i32 r) ≡ high →
    high ≡ int_le (neg_ℤ w.goal.alpha) s
is-high w r s high score h = sym (rw (seen-wide r s score, negated-alpha w) at h)

pub kind-low : (lower upper s : ℤ) → true ≡ int_le s lower → Low ≡ kind_of lower upper s
kind-low lower upper s low = ap (λ (b : Bool). kind_by b (int_le upper s)) low

pub kind-other : (lower upper s : ℤ) (high : Bool) → false ≡ int_le s lower → high ≡ int_le upper s → kind_by false high ≡ kind_of lower upper s
kind-other lower upper s high above is = ap (λ (b : Bool). kind_by b high) above ∙ ap (kind_by (int_le s lower)) is

-- The plies of the choice with a number.

one-ply : (squares : List ℕ) (i : ℕ) → i < length (map Square squares) → plies (slice_index_or (map Square squares) i Pass) ≡ 1
one-ply (s ∷ squares) (suc i) inside = one-ply squares i (omega arith)
one-ply squares i inside = grind arith

-- a pass is the one choice of its board, so where there are more each is a square
pub square_of_more : (b : List Cell) (i : ℕ) → 1 < length (choices b) → i < length (choices b) → plies (slice_index_or (choices b) i Pass) ≡ 1
square_of_more b i more inside = grind (arith, cond_both, one-ply)
