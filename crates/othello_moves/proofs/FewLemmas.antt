-- No Othello board has more than 56 choices, and each move leaves fewer empty squares.
use Rattle.othello_moves.proofs.Common.{Direction, All, suc, ◌<◌, ltb, list_all, Decides-by_and, Decides-ltb, Empty, Own, exchanged, is_among, ◌≡◌, ◌+◌, ◌*◌, ◌≤◌, false, ◌||◌, ◌&&◌, not, cond, eqb, List, [], ◌∷◌, ◌++◌, length, map, Option, Some, None, refl, sym, ap, ◌∙◌, arith, ℕ, Bool, true, if◌then◌else◌, ◌==◌, flat_map, cond_both, eqb-true, eq-eqb, cond-true, cond-false, inl, inr, and_parts, length-filter, length-map, squares, step, run, directions, flips, cell_at, is_empty_cell, is_opp_cell, is_legal, is_nil, Cell, choices, legal_squares}
use Rattle.std.specs.Prelude.{count_by}
use Rattle.std.proofs.lemmas.Bool.{cases_Bool}
use Rattle.std.proofs.Math.ListN.{get_or, get_or-map}
use Rattle.std.proofs.lemmas.List.FromFn.{get_or-map-range_with_len}
use Rattle.othello_board.specs.Rules.{exchanged_cell, is_own_cell, made_own, played}
use Rattle.othello_board.specs.Words.{cell_of, cells_of}
use Rattle.othello_board.proofs.CellLemmas.{cell_at-cells_of, map-squares-same}
use Rattle.std.proofs.lemmas.List.Sums.{sum_by-cons}
use Rattle.othello_moves.specs.Choices.{empty_squares, opposing_discs}
use Rattle.othello_moves.proofs.AllowedLemmas.{squares-length}
use Rattle.othello_moves.proofs.BitLemmas.{length-filter-in_order, is-square}
use Rattle.othello_moves.proofs.LeadLemmas.{there_is, leads, run-by}

-- ---- how many pass a test

count-cons : {X : Type 0} (p : X → Bool) (x : X) (xs : List X) → count_by p (x ∷ xs) ≡ cond (p x) 1 0 + count_by p xs
count-cons p x xs = sum_by-cons (λ y. cond (p y) 1 0) x xs

either : (a b c : Bool) → (a ≡ true → (b || c) ≡ true) → cond a 1 0 ≤ cond b 1 0 + cond c 1 0
either a b c h = grind arith

-- where one of two tests passes, at most as many as pass either
count-either : (p q r : ℕ → Bool) → ((x : ℕ) → p x ≡ true → (q x || r x) ≡ true) → (xs : List ℕ) → count_by p xs ≤ count_by q xs + count_by r xs
count-either p q r h [] = omega arith
count-either p q r h (x ∷ xs) = omega (arith, count-cons p x xs, count-cons q x xs, count-cons r x xs, either (p x) (q x) (r x) (h x), count-either p q r h xs)

neither : (a b : Bool) → (a && b) ≡ false → cond a 1 0 + cond b 1 0 ≤ 1
neither a b h = grind arith

-- where no two tests pass together, no more than there are
count-apart : (p q : ℕ → Bool) → ((x : ℕ) → (p x && q x) ≡ false) → (xs : List ℕ) → count_by p xs + count_by q xs ≤ length xs
count-apart p q h [] = omega arith
count-apart p q h (x ∷ xs) = omega (arith, count-cons p x xs, count-cons q x xs, neither (p x) (q x) (h x), count-apart p q h xs)

count-none : (xs : List ℕ) → count_by (λ _. false) xs ≡ 0
count-none [] = refl
count-none (x ∷ xs) = omega (arith, count-cons (λ _. false) x xs, count-none xs)

-- ---- the squares that are next in a direction

abbrev with_next : Option ℕ → List ℕ → List ℕ
with_next None xs = xs
with_next (Some t) xs = t ∷ xs

-- the next squares of these
abbrev nexts : Direction → List ℕ → List ℕ
nexts d [] = []
nexts d (s ∷ more) = with_next (step d s) (nexts d more)

-- whether the first list is the second with some left out
abbrev is_part : List ℕ → List ℕ → Bool
is_part [] ys = true
is_part (x ∷ xs) [] = false
is_part (x ∷ xs) (y ∷ ys) = if y == x then is_part xs ys else is_part (x ∷ xs) ys

part-fewer : (p : ℕ → Bool) (xs ys : List ℕ) → is_part xs ys ≡ true → count_by p xs ≤ count_by p ys
part-fewer p [] ys part = omega arith
part-fewer p (x ∷ xs) [] part = cc
part-fewer p (x ∷ xs) (y ∷ ys) part = elim (cases_Bool (eqb y x)) [
  | inl same ↦ (let rest = part-fewer p xs ys (sym (cond-true _ _ _ same) ∙ part) in
      omega (arith, count-cons p x xs, count-cons p y ys, ap {B = ℕ} (λ z. cond (p z) 1 0) (eqb-true y x same), rest))
  | inr other ↦ (let rest = part-fewer p (x ∷ xs) ys (sym (cond-false _ _ _ other) ∙ part) in omega (arith, count-cons p y ys, rest))
]

-- in a direction each square is next to at most one: in the order of squares their next ones are in order too
nexts-part : (d : Direction) → is_part (nexts d squares) squares ≡ true
unfolding squares
nexts-part d = grind arith

count-nexts : (p : ℕ → Bool) (d : Direction) (xs : List ℕ) → count_by (λ s. there_is p (step d s)) xs ≡ count_by p (nexts d xs)
count-nexts p d [] = refl
count-nexts p d (x ∷ xs) = count-cons (λ s. there_is p (step d s)) x xs ∙ by (step d x) (count-nexts p d xs)
  where
    by : (next : Option ℕ) → count_by (λ s. there_is p (step d s)) xs ≡ count_by p (nexts d xs)
        → cond (there_is p next) 1 0 + count_by (λ s. there_is p (step d s)) xs ≡ count_by p (with_next next (nexts d xs))
    by None rest = omega (arith, rest)
    by (Some t) rest = omega (arith, rest, count-cons p t (nexts d xs))

-- ---- the legal squares

module _ (board : List Cell) where
  abbrev opp_on : ℕ → Bool
  opp_on s = is_opp_cell (cell_at board s)

  led-opp : (d : Direction) (next : Option ℕ) → there_is (leads 5 board d) next ≡ true → there_is opp_on next ≡ true
  led-opp d None led = led
  led-opp d (Some t) led = (and_parts _ _ led).0

  -- from as many squares a run begins in a direction at most as there are opposing discs
  runs-few : (d : Direction) → count_by (λ s. not (is_nil (run board s d))) squares ≤ opposing_discs board
  runs-few d =
      let begins = count-either (λ s. not (is_nil (run board s d))) (λ s. there_is opp_on (step d s)) (λ _. false)
      (λ s runs. ap (λ b. b || false) (led-opp d (step d s) (run-by board d s (step d s) refl ∙ runs))) squares in
      omega (arith, begins, count-none squares, count-nexts opp_on d squares, part-fewer opp_on (nexts d squares) squares (nexts-part d))

  not-nil : (xs ys : List ℕ) → not (is_nil (xs ++ ys)) ≡ true → (not (is_nil xs) || not (is_nil ys)) ≡ true
  not-nil xs ys h = grind arith

  flips-few : (ds : List Direction) → count_by (λ s. not (is_nil (flat_map (run board s) ds))) squares ≤ length ds * opposing_discs board
  flips-few [] = omega (arith, count-none squares)
  flips-few (d ∷ ds) =
      let each = count-either (λ s. not (is_nil (flat_map (run board s) (d ∷ ds)))) (λ s. not (is_nil (run board s d))) (λ s. not (is_nil (flat_map (run board s) ds)))
      (λ s. not-nil (run board s d) (flat_map (run board s) ds)) squares in
      omega (arith, each, runs-few d, flips-few ds)

  legal-count : length (legal_squares board) ≡ count_by (is_legal board) squares
  legal-count = length-filter-in_order (is_legal board) ∙ length-filter (is_legal board) squares

  pub legal-empty : length (legal_squares board) ≤ empty_squares board
  legal-empty =
      let each = count-either (is_legal board) (λ s. is_empty_cell (cell_at board s)) (λ _. false) (λ s legal. ap (λ b. b || false) (and_parts (is_empty_cell (cell_at board s)) (not (is_nil (flips board s))) legal).0) squares in
      omega (arith, legal-count, each, count-none squares)

  pub legal-opposing : length (legal_squares board) ≤ 8 * opposing_discs board
  legal-opposing =
      let each = count-either (is_legal board) (λ s. not (is_nil (flat_map (run board s) directions))) (λ _. false) (λ s legal. ap (λ b. b || false) (and_parts (is_empty_cell (cell_at board s)) (not (is_nil (flips board s))) legal).1) squares in
      omega (arith, legal-count, each, count-none squares, flips-few directions)

  cell-apart : (c : Cell) → (is_empty_cell c && is_opp_cell c) ≡ false
  cell-apart c = grind arith

  legal-few : length (legal_squares board) ≤ 56
  legal-few =
      let apart = count-apart (λ s. is_empty_cell (cell_at board s)) opp_on (λ s. cell-apart (cell_at board s)) squares in
      omega (arith, legal-empty, legal-opposing, apart, squares-length)

  pub few-choices : length (choices board) ≤ 56
  few-choices = grind (arith, cond_both, length-map, legal-few)

-- ---- empty squares and discs, seen by the other player, and after a move

count-same : (p q : ℕ → Bool) → ((x : ℕ) → p x ≡ q x) → (xs : List ℕ) → count_by p xs ≡ count_by q xs
count-same p q h [] = refl
count-same p q h (x ∷ xs) = omega (arith, count-cons p x xs, count-cons q x xs, ap {B = ℕ} (λ b. cond b 1 0) (h x), count-same p q h xs)

cell-exchanged : (board : List Cell) (s : ℕ) → cell_at (exchanged board) s ≡ exchanged_cell (cell_at board s)
cell-exchanged board s = get_or-map exchanged_cell board s Empty

empty-exchanged : (c : Cell) → is_empty_cell (exchanged_cell c) ≡ is_empty_cell c
empty-exchanged c = grind arith

pub exchanged-empty : (board : List Cell) → empty_squares (exchanged board) ≡ empty_squares board
exchanged-empty board =
    count-same (λ s. is_empty_cell (cell_at (exchanged board) s)) (λ s. is_empty_cell (cell_at board s)) (λ s. ap is_empty_cell (cell-exchanged board s) ∙ empty-exchanged (cell_at board s)) squares

one-of-three : (c : Cell) → cond (is_empty_cell c) 1 0 + (cond (is_opp_cell c) 1 0 + cond (is_opp_cell (exchanged_cell c)) 1 0) ≡ 1
one-of-three c = grind arith

parts : (board : List Cell) (xs : List ℕ)
    → count_by (λ s. is_empty_cell (cell_at board s)) xs + (count_by (λ s. is_opp_cell (cell_at board s)) xs + count_by (λ s. is_opp_cell (cell_at (exchanged board) s)) xs) ≡ length xs
parts board [] = refl
parts board (x ∷ xs) =
    let one = one-of-three (cell_at board x) in
    let seen = ap {B = ℕ} (λ c. cond (is_opp_cell c) 1 0) (cell-exchanged board x) in
    omega (arith, count-cons (λ s. is_empty_cell (cell_at board s)) x xs, count-cons (λ s. is_opp_cell (cell_at board s)) x xs, count-cons (λ s. is_opp_cell (cell_at (exchanged board) s)) x xs, one, seen, parts board xs)

-- a square is empty, or an opposing disc's, or the mover's
pub board-parts : (board : List Cell) → empty_squares board + (opposing_discs board + opposing_discs (exchanged board)) ≡ 64
board-parts board = parts board squares ∙ squares-length

count-map : {X : Type 0} (p : X → Bool) (f : ℕ → X) (xs : List ℕ) → count_by (λ x. p (f x)) xs ≡ count_by p (map f xs)
count-map p f [] = refl
count-map p f (x ∷ xs) = omega (arith, count-cons (λ y. p (f y)) x xs, count-cons p (f x) (map f xs), count-map p f xs)

-- the cells of two words, counted by their squares
pub count-squares : (p : Cell → Bool) (own opp : ℕ) → count_by (λ s. p (cell_at (cells_of own opp) s)) squares ≡ count_by p (cells_of own opp)
count-squares p own opp =
    count-map p (cell_at (cells_of own opp)) squares
    ∙ ap (count_by p) (map-squares-same (cell_at (cells_of own opp)) (cell_of own opp) (λ s below. cell_at-cells_of own opp s below))

own-exchanged : (c : Cell) → is_opp_cell (exchanged_cell c) ≡ is_own_cell c
own-exchanged c = grind arith

-- the mover's discs are those that the other player sees opposing it
pub count-own : (own opp : ℕ) → opposing_discs (exchanged (cells_of own opp)) ≡ count_by is_own_cell (cells_of own opp)
count-own own opp =
    count-same (λ s. is_opp_cell (cell_at (exchanged (cells_of own opp)) s)) (λ s. is_own_cell (cell_at (cells_of own opp) s))
    (λ s. ap is_opp_cell (cell-exchanged (cells_of own opp) s) ∙ own-exchanged (cell_at (cells_of own opp) s)) squares
    ∙ count-squares is_own_cell own opp

-- where no two tests pass together, and each passes only with a third, so many pass that
count-both : (p q r : ℕ → Bool) (xs : List ℕ) → All (λ x. cond (p x) 1 0 + cond (q x) 1 0 ≤ cond (r x) 1 0) xs → count_by p xs + count_by q xs ≤ count_by r xs
count-both p q r [] each = omega arith
count-both p q r (x ∷ xs) each = omega (arith, count-cons p x xs, count-cons q x xs, count-cons r x xs, each 0 x (omega arith), count-both p q r xs (λ k d lt. each (suc k) d (omega (arith, lt))))

there-counts : (s : ℕ) (xs : List ℕ) → is_among s xs ≡ true → 1 ≤ count_by (λ t. s == t) xs
there-counts s [] among = cc
there-counts s (x ∷ xs) among = elim (cases_Bool (eqb x s)) [
  | inl same ↦ (let one = ap {B = ℕ} (λ b. cond b 1 0) (eq-eqb s x (sym (eqb-true x s same))) in omega (arith, count-cons (λ t. s == t) x xs, one))
  | inr other ↦ (let rest = there-counts s xs (ap (λ b. b || is_among s xs) (sym other) ∙ among) in omega (arith, count-cons (λ t. s == t) x xs, rest))
]

squares-below : All (λ s. s < 64) squares
unfolding squares
squares-below = (Decides-by_and (λ s. ltb s 64) (λ s. s < 64) (list_all (λ s. ltb s 64)) (λ s. Decides-ltb s 64) refl (λ _ _. refl) squares).0 refl

module _ (board : List Cell) (s : ℕ) where
  -- the cell of a square after the move
  cell-played : (t : ℕ) → t < 64 → cell_at (played board s) t ≡ exchanged_cell (if is_among t (s ∷ flips board s) then Own else cell_at board t)
  unfolding squares
  cell-played t below =
      cell-exchanged (made_own (s ∷ flips board s) board) t
      ∙ ap exchanged_cell (get_or-map-range_with_len (λ u. if is_among u (s ∷ flips board s) then Own else cell_at board u) 0 64 t t Empty below (omega arith))

  stays : (same flipped : Bool) (c : Cell) → (same ≡ true → is_empty_cell c ≡ true)
      → cond (is_empty_cell (exchanged_cell (if same || flipped then Own else c))) 1 0 + cond same 1 0 ≤ cond (is_empty_cell c) 1 0
  stays same flipped c h = grind arith

  pub played-fewer : s < 64 → is_legal board s ≡ true → suc (empty_squares (played board s)) ≤ empty_squares board
  played-fewer below legal =
      let here = (and_parts (is_empty_cell (cell_at board s)) (not (is_nil (flips board s))) legal).0 in
      let each = λ (k d : ℕ) (lt : k < length squares). at (get_or squares k d) (squares-below k d lt) here in
      let both = count-both (λ t. is_empty_cell (cell_at (played board s) t)) (λ t. s == t) (λ t. is_empty_cell (cell_at board t)) squares each in
      omega (arith, both, there-counts s squares (is-square s below))
    where
      at : (t : ℕ) → t < 64 → is_empty_cell (cell_at board s) ≡ true
          → cond (is_empty_cell (cell_at (played board s) t)) 1 0 + cond (s == t) 1 0 ≤ cond (is_empty_cell (cell_at board t)) 1 0
      at t within here = rw (cell-played t within) (stays (s == t) (is_among t (flips board s)) (cell_at board t) (λ e. ap (λ u. is_empty_cell (cell_at board u)) (sym (eqb-true s t e)) ∙ here))
