-- The search as it is specified (specs/Serial.antt): what it gives at a leaf and over the choices of a board, and what is left of it
-- between two choices.
use Rattle.leaf_search.proofs.Common.{◌≡◌, ◌<◌, ◌-◌, ℕ, zero, suc, false, cond, List, [], ◌∷◌, length, map, refl, sym, ◌∙◌, ap, ap₂, arith, ints, ℤ, neg_ℤ, ◌<ℤ◌, ◌≤ℤ◌, int_le, int_max, cond-true, cond-false, Cell, Choice, Square, Pass, exchanged, played, is_nil, choices, choices_without_move, legal_squares, after, plies, minimax, minimax-leaf, final_value}
use Rattle.leaf_search.specs.Serial.{ScoreAndCount, with_child_found, in_turn, by_choices, search_after, searched}
use Rattle.leaf_search.specs.declared.window.TheConstants.{INF}

-- a score with a count is equal to another by its parts
pub score-and-count : {s t : ℤ} {m n : ℕ} → s ≡ t → m ≡ n → ◌≡◌ {A = ScoreAndCount} (s, m) (t, n)
score-and-count same as_many = ap₂ (λ s n. (s, n)) same as_many

-- a leaf
pub searched-leaf : (board : List Cell) (alpha beta : ℤ) → searched 0 board alpha beta ≡ (minimax 0 board, 1)
unfolding searched
searched-leaf board alpha beta = ap (λ v. (v, 1)) (sym (minimax-leaf board))

-- a mover with legal squares chooses among them
squares-there : (own : List ℕ) (other : List Choice) → is_nil own ≡ false → cond (is_nil own) other (map Square own) ≡ map Square own
squares-there own other some = grind arith

-- the search of the position after a choice
abbrev pub child_search : ℕ → List Cell → Choice → ℤ → ℤ → ScoreAndCount
child_search depth board c = searched (depth - plies c) (after board c)

-- two searches that are the same after each square are the same over squares
module _ (f g : Choice → ℤ → ℤ → ScoreAndCount) (same : (s : ℕ) (a z : ℤ) → f (Square s) a z ≡ g (Square s) a z) (alpha beta : ℤ) where
  in_turn-squares : (so_far : ScoreAndCount) (own : List ℕ) → in_turn f alpha beta so_far (map Square own) ≡ in_turn g alpha beta so_far (map Square own)
  in_turn-squares so_far [] = refl
  in_turn-squares so_far (s ∷ own) =
      let turn : ScoreAndCount → ScoreAndCount = λ found. let now = with_child_found so_far found in cond (int_le beta now.0) now (in_turn f alpha beta now (map Square own)) in
      let now = with_child_found so_far (g (Square s) (neg_ℤ beta) (neg_ℤ (int_max alpha so_far.0))) in
      ap turn (same s (neg_ℤ beta) (neg_ℤ (int_max alpha so_far.0))) ∙ ap (cond (int_le beta now.0) now) (in_turn-squares now own)

  by_choices-squares : (board : List Cell) (own : List ℕ) → by_choices f board alpha beta (map Square own) ≡ by_choices g board alpha beta (map Square own)
  by_choices-squares board [] = refl
  by_choices-squares board (s ∷ own) = in_turn-squares (neg_ℤ INF, 1) (s ∷ own)

-- with one ply at least, the position after a choice is searched with what it leaves
module _ (depth : ℕ) (board : List Cell) (alpha beta : ℤ) where
  -- these choices are searched the same either way
  abbrev AreSearched : List Choice → Type 0
  AreSearched cs = by_choices (search_after (searched depth) board) board alpha beta cs ≡ by_choices (child_search (suc depth) board) board alpha beta cs

  after-pass : (a z : ℤ) → is_nil (legal_squares (exchanged board)) ≡ false → search_after (searched depth) board Pass a z ≡ child_search (suc depth) board Pass a z
  unfolding searched
  after-pass a z some =
      let other = exchanged board in
      let own = legal_squares other in
      let same : suc depth ≡ suc depth - plies Pass = omega arith in
      let there : choices other ≡ map Square own = squares-there own (choices_without_move other) some in
      ap (by_choices (λ c. searched depth (after other c)) other a z) there
      ∙ by_choices-squares (λ c. searched depth (after other c)) (search_after (searched depth) other) (λ s a z. refl) a z other own
      ∙ ap (by_choices (search_after (searched depth) other) other a z) (sym there)
      ∙ ap (λ d. searched d other a z) same

  one-pass : (theirs : List ℕ) → theirs ≡ legal_squares (exchanged board) → AreSearched (cond (is_nil theirs) [] (Pass ∷ []))
  one-pass [] same = refl
  one-pass (s ∷ theirs) same =
      ap (λ found. let now = with_child_found (neg_ℤ INF, 1) found in cond (int_le beta now.0) now now)
      (after-pass (neg_ℤ beta) (neg_ℤ (int_max alpha (neg_ℤ INF))) (ap is_nil (sym same)))

  by-squares : (own : List ℕ) → AreSearched (cond (is_nil own) (choices_without_move board) (map Square own))
  by-squares [] = one-pass (legal_squares (exchanged board)) refl
  by-squares (s ∷ own) =
      by_choices-squares (search_after (searched depth) board) (child_search (suc depth) board) (λ t a z. ap (λ d. searched d (played board t) a z) (omega arith)) alpha beta board (s ∷ own)

pub searched-deeper : (depth : ℕ) (board : List Cell) (alpha beta : ℤ) → 0 < depth →
    searched depth board alpha beta ≡ by_choices (child_search depth board) board alpha beta (choices board)
unfolding searched
searched-deeper zero board alpha beta some = absurd (omega arith)
searched-deeper (suc depth) board alpha beta some = by-squares depth board alpha beta (legal_squares board)

-- a finished game
pub searched-over : (depth : ℕ) (board : List Cell) (alpha beta : ℤ) → 0 < depth → choices board ≡ [] → searched depth board alpha beta ≡ (final_value board, 1)
searched-over depth board alpha beta deep over =
    searched-deeper depth board alpha beta deep ∙ ap (by_choices (child_search depth board) board alpha beta) over

-- what was found so far, and the choices that are left in order, give what the search gives
pub record IsInTurn (depth : ℕ) (board : List Cell) (alpha beta : ℤ) (so_far : ScoreAndCount) (left : List Choice) : Type 0 where
  pub gives : searched depth board alpha beta ≡ in_turn (child_search depth board) alpha beta so_far left

from-first : (f : Choice → ℤ → ℤ → ScoreAndCount) (board : List Cell) (alpha beta : ℤ) (cs : List Choice) → 0 < length cs →
    by_choices f board alpha beta cs ≡ in_turn f alpha beta (neg_ℤ INF, 1) cs
from-first f board alpha beta [] some = absurd (omega arith)
from-first f board alpha beta (c ∷ cs) some = refl

-- before the first turn
pub IsInTurn-start : (depth : ℕ) (board : List Cell) (alpha beta : ℤ) (so_far : ScoreAndCount) (left : List Choice) → 0 < depth → 0 < length (choices board) →
    left ≡ choices board → so_far ≡ (neg_ℤ INF, 1) → IsInTurn depth board alpha beta so_far left
IsInTurn-start depth board alpha beta so_far left deep some all none =
    let f = child_search depth board in
    record {
      gives = searched-deeper depth board alpha beta deep ∙ from-first f board alpha beta (choices board) some ∙ ap (in_turn f alpha beta (neg_ℤ INF, 1)) (sym all)
          ∙ ap (λ o. in_turn f alpha beta o left) (sym none);
    }

-- after the last turn
pub IsInTurn-end : {depth : ℕ} {board : List Cell} {alpha beta : ℤ} {so_far : ScoreAndCount} {left : List Choice} → IsInTurn depth board alpha beta so_far left → left ≡ [] →
    searched depth board alpha beta ≡ so_far
IsInTurn-end {depth} {board} {alpha} {beta} {so_far} so none = so.gives ∙ ap (in_turn (child_search depth board) alpha beta so_far) none

-- one turn: the position after the next choice was searched, and what it gave was taken in
module _ {depth : ℕ} {board : List Cell} {alpha beta : ℤ} {so_far found now : ScoreAndCount} {c : Choice} {left rest : List Choice}
    (so : IsInTurn depth board alpha beta so_far left) (next : left ≡ c ∷ rest) (is : child_search depth board c (neg_ℤ beta) (neg_ℤ (int_max alpha so_far.0)) ≡ found)
    (taken : with_child_found so_far found ≡ now) where
  one-turn : searched depth board alpha beta ≡ cond (int_le beta now.0) now (in_turn (child_search depth board) alpha beta now rest)
  one-turn =
      let f = child_search depth board in
      let turn : ScoreAndCount → ScoreAndCount = λ n. cond (int_le beta n.0) n (in_turn f alpha beta n rest) in
      so.gives ∙ ap (in_turn f alpha beta so_far) next ∙ ap (λ o. turn (with_child_found so_far o)) is ∙ ap turn taken

  -- it doesn't end the search
  pub IsInTurn-next : now.0 <ℤ beta → IsInTurn depth board alpha beta now rest
  IsInTurn-next below = record { gives = one-turn ∙ cond-false (int_le beta now.0) now _ (grind (arith, ints)) }

  -- it ends it
  pub IsInTurn-cut : beta ≤ℤ now.0 → searched depth board alpha beta ≡ now
  IsInTurn-cut high = one-turn ∙ cond-true (int_le beta now.0) now _ (grind (arith, ints))

-- the child, by the plies of the choice, the board after it and the window that it was searched with
pub child-found : {p : ℕ} {b : List Cell} {low high : ℤ} {found : ScoreAndCount} (depth : ℕ) (board : List Cell) (beta floor : ℤ) (c : Choice) → p ≡ plies c → b ≡ after board c → low ≡ neg_ℤ beta → high ≡ neg_ℤ floor →
    searched (depth - p) b low high ≡ found → child_search depth board c (neg_ℤ beta) (neg_ℤ floor) ≡ found
child-found depth board beta floor c same is low_is high_is so = rw (sym same, sym is, sym low_is, sym high_is) so
