-- Meaning: a leaf of the search (a board, depth and window that a worker computes) in a frame's words.
use Rattle.std.specs.Prelude.{◌≡◌, ℕ, ◌≤◌, Bool, true, false, ◌==◌, ◌&&◌, nat_le, int_le, int_lt, ℤ, pos, ◌<ℤ◌, ◌≤ℤ◌, bit_and, List, [], ◌∷◌, Option, refl, if◌then◌else◌}
use Rattle.std.specs.Ordering.{int_eq}
use Rattle.std.proofs.Common.{lit≤}
use Rattle.std.proofs.lemmas.Bool.{and_parts, eqb-true, leb-true}
use Rattle.std.proofs.lemmas.Float.{T_from_true}
use Rattle.othello_moves.specs.declared.choices.Choice.{Choice}
use Rattle.othello_moves.specs.Depths.{greatest_depth}
use Rattle.jamboree_rules.specs.declared.leaf.Leaf.{Leaf}
use Rattle.jamboree_rules.specs.declared.leaf.LeafAnswer.{LeafAnswer}
use Rattle.jamboree_rules.specs.Frames.{Frame, phase_done, least, greatest, is_leaf, coded}
use Rattle.jamboree_rules.specs.Places.{Change, Best, Chosen, Phase, pairs_of, frame_of, is_formed}

-- the two words of a board, a depth and a window are in the ranges of a leaf
pub record IsLeaf (own opp depth : ℕ) (alpha beta : ℤ) : Type 0 where
  pub disjoint : bit_and own opp ≡ 0
  pub shallow : depth ≤ greatest_depth
  pub low : least ≤ℤ alpha
  pub window : alpha <ℤ beta
  pub high : beta ≤ℤ greatest

-- where the test `is_leaf` is true, the numbers are in the ranges of a leaf
pub leaf-told : (own opp depth : ℕ) (alpha beta : ℤ) → is_leaf own opp depth alpha beta ≡ true → IsLeaf own opp depth alpha beta
leaf-told own opp depth alpha beta h =
    let a = and_parts (bit_and own opp == 0) (nat_le depth greatest_depth && (int_le least alpha && (int_lt alpha beta && int_le beta greatest))) h in
    let b = and_parts (nat_le depth greatest_depth) (int_le least alpha && (int_lt alpha beta && int_le beta greatest)) a.1 in
    let c = and_parts (int_le least alpha) (int_lt alpha beta && int_le beta greatest) b.1 in
    let d = and_parts (int_lt alpha beta) (int_le beta greatest) c.1 in
    record {
      disjoint = eqb-true (bit_and own opp) 0 a.0;
      shallow = leb-true depth greatest_depth b.0;
      low = record { le = T_from_true (int_le least alpha) c.0 };
      window = record { lt = T_from_true (int_lt alpha beta) d.0 };
      high = record { le = T_from_true (int_le beta greatest) d.1 };
    }

-- the leaf of these numbers, which are in range
abbrev pub leaf_with : (own opp depth : ℕ) (alpha beta : ℤ) → IsLeaf own opp depth alpha beta → Leaf
leaf_with own opp depth alpha beta h = record {
  board = record { own = own; opp = opp; disjoint = h.disjoint };
  depth = depth;
  alpha = alpha;
  beta = beta;
  shallow = h.shallow;
  least = h.low;
  window = h.window;
  greatest = h.high;
}

-- an empty board to depth 0, for numbers that are out of range
abbrev pub any_leaf : Leaf
any_leaf = record {
  board = record { own = 0; opp = 0; disjoint = refl };
  depth = 0;
  alpha = pos 0;
  beta = pos 1;
  shallow = lit≤ tt;
  least = record { le = tt };
  window = record { lt = tt };
  greatest = record { le = tt };
}

-- the leaf of these numbers where they are in range (true), else the empty board to depth 0
abbrev pub leaf_by : (own opp depth : ℕ) (alpha beta : ℤ) (b : Bool) → (b ≡ true → IsLeaf own opp depth alpha beta) → Leaf
leaf_by own opp depth alpha beta true h = leaf_with own opp depth alpha beta (h refl)
leaf_by own opp depth alpha beta false h = any_leaf

-- the leaf of these numbers where `is_leaf` is true of them, else the empty board to depth 0
abbrev pub leaf_from : (own opp depth : ℕ) (alpha beta : ℤ) → Leaf
leaf_from own opp depth alpha beta = leaf_by own opp depth alpha beta (is_leaf own opp depth alpha beta) (leaf-told own opp depth alpha beta)

-- the leaf of a frame: its board, its depth and its window; the empty board to depth 0 where they are out of
-- range
abbrev pub leaf_of : Frame → Leaf
leaf_of f = leaf_from f.own f.opp f.depth f.alpha f.beta

-- the leaf (board, depth and window) in a frame's words
abbrev pub leaf_in : List ℕ → Leaf
leaf_in words = leaf_of (frame_of words)

-- whether two leaves have the same board, depth and window
abbrev pub same_leaf : Leaf → Leaf → Bool
same_leaf one other =
    ((one.board.own == other.board.own) && (one.board.opp == other.board.opp))
    && ((one.depth == other.depth) && (int_eq one.alpha other.alpha && int_eq one.beta other.beta))

-- the leaf that an answer was computed for
abbrev pub leaf_of_answer : LeafAnswer → Leaf
leaf_of_answer answer = answer.leaf

-- the score of a worker's answer to a leaf
abbrev pub score_of_answer : LeafAnswer → ℤ
score_of_answer answer = answer.score

-- the choice of a worker's answer to a leaf, if it has one
abbrev pub choice_of_answer : LeafAnswer → Option Choice
choice_of_answer answer = answer.choice

-- what a frame stores of an answer: its score, its choice, and that the frame is done
abbrev pub changes_of_answer : LeafAnswer → List Change
changes_of_answer answer = Best (score_of_answer answer) ∷ Chosen (coded (choice_of_answer answer)) ∷ Phase phase_done ∷ []

-- what a frame stores of an answer, by its words; nothing where they don't have the form of a frame
abbrev pub accepts : List ℕ → LeafAnswer → List (ℕ × ℕ)
accepts own answer = if is_formed own then pairs_of (changes_of_answer answer) else []
