-- Meaning: the serial window search as it is specified (fail-soft alpha-beta: Fishburn 1983): its score, which may lie outside
-- the window, and how many positions it enters, the first included.
use Rattle.std.specs.Prelude.{ℕ, zero, suc, ◌+◌, ◌-◌, ◌^◌, ◌≡◌, ℤ, neg_ℤ, List, [], ◌∷◌, min, int_le, if◌then◌else◌}
use Rattle.std.specs.Int.{int_max}
use Rattle.othello_board.specs.declared.cells.Cell.{Cell}
use Rattle.othello_board.specs.Rules.{exchanged, played}
use Rattle.othello_eval.specs.othello_moves.declared.choices.Choice.{Choice}
use Rattle.othello_eval.specs.othello_moves.declared.choices.Choice.TheVariants.{Square, Pass}
use Rattle.othello_eval.specs.othello_moves.Choices.{choices, after}
use Rattle.othello_eval.specs.Values.{final_value}
use Rattle.othello_eval.specs.Minimax.{leaf_value}
use Rattle.leaf_search.specs.declared.window.TheConstants.{INF}

-- what a search gives: the score, and how many positions it entered
abbrev pub ScoreAndCount : Type 0
ScoreAndCount = ℤ × ℕ

-- the sum of two counts of positions, which stops at the greatest u64
abbrev pub count_sum : ℕ → ℕ → ℕ
count_sum m n = min (m + n) (2 ^ 64 - 1)

-- what there is after one choice more, of which the search gave `found`, seen by the other side
abbrev pub with_child_found : ScoreAndCount → ScoreAndCount → ScoreAndCount
with_child_found so_far found = (int_max so_far.0 (neg_ℤ found.0), count_sum so_far.1 found.1)

-- the choices are taken in order: each is searched with the window from -beta to -max(alpha, best), and as soon as best is at
-- least beta the others are left out
abbrev pub in_turn : (Choice → ℤ → ℤ → ScoreAndCount) → ℤ → ℤ → ScoreAndCount → List Choice → ScoreAndCount
in_turn search_of alpha beta so_far [] = so_far
in_turn search_of alpha beta so_far (c ∷ more) =
    let now = with_child_found so_far (search_of c (neg_ℤ beta) (neg_ℤ (int_max alpha so_far.0))) in
    if int_le beta now.0 then now else in_turn search_of alpha beta now more

-- the search of a position that isn't at depth 0: the final value where there is no choice, else its choices in turn
abbrev pub by_choices : (Choice → ℤ → ℤ → ScoreAndCount) → List Cell → ℤ → ℤ → List Choice → ScoreAndCount
by_choices search_of board alpha beta [] = (final_value board, 1)
by_choices search_of board alpha beta (c ∷ more) = in_turn search_of alpha beta (neg_ℤ INF, 1) (c ∷ more)

-- the search of the position after a choice, where `below` searches with one ply less. A square uses that ply; a pass uses
-- none: the ply is used by the choices of the other side, which has a legal square after a pass
abbrev pub search_after : (List Cell → ℤ → ℤ → ScoreAndCount) → List Cell → Choice → ℤ → ℤ → ScoreAndCount
search_after below board (Square s) alpha beta = below (played board s) alpha beta
search_after below board Pass alpha beta = by_choices (λ c. below (after (exchanged board) c)) (exchanged board) alpha beta (choices (exchanged board))

-- the search of a board to a depth through the window from alpha to beta
unfoldable pub searched : ℕ → List Cell → ℤ → ℤ → ScoreAndCount
searched zero board alpha beta = (leaf_value board (choices board), 1)
searched (suc depth) board alpha beta = by_choices (search_after (searched depth) board) board alpha beta (choices board)

-- an order in which a search takes the choices of a board, of which this is the rules'
abbrev pub IsRulesOrder : (List Choice → List Choice → Type 0) → Type 0
IsRulesOrder IsTaken = (all list : List Choice) → IsTaken all list → list ≡ all
