-- Rows of the search: children of a frame that `IsSound` refuses, each for one fault: its choice, board, depth, window
-- or time.
use Rattle.jamboree_rules.proofs.Common.{◌≡◌, ◌⊎◌, ℕ, ◌<◌, pos, negsuc, List, inl, inr, ap, arith, ints, Cell, Empty, Opp, squares, cell_at, in_order, least, HasWindow}
use Rattle.othello_board.specs.Rules.{squares_beside}
use Rattle.jamboree_rules.specs.Frames.{phase_first, role_first_child}
use Rattle.jamboree_rules.specs.Sound.{First, Test, Again}
use Rattle.jamboree_rules.specs.Rows.{full_root, none_settled, after_d3}
use Rattle.jamboree_rules.proofs.rows.children_that_are_not_sound.Goals as goal

-- a frame that is done searches no choice
searches-none : (◌≡◌ {A = ℕ} 4 2) ⊎ (◌≡◌ {A = ℕ} 4 3) → ⊥
searches-none (inl e) = omega (arith, e)
searches-none (inr e) = omega (arith, e)

-- a first child's window is the whole one
not-whole : HasWindow (full_root phase_first least 65 none_settled) (after_d3 0 (pos 0, pos 200000) role_first_child) → ⊥
not-whole (First role alpha beta) = let e : pos 0 ≡ negsuc 199999 = alpha in omega (arith, ints, e)
not-whole (Test role t alpha beta low high) = let e : 1 ≡ 2 = role in omega (arith, e)
not-whole (Again role alpha beta settled) = let e : 1 ≡ 3 = role in omega (arith, e)

pub returns : goal.returns
unfolding squares squares_beside in_order
returns c = record {
  later = λ s. searches-none s.children.0.searches;
  second = λ s. (let e : 1 ≡ 0 = s.children.1.0.depth in omega (arith, e));
  fifth = λ g. (let less : 4 < 4 = g.inside in omega (arith, less));
  board = λ g. (let e : Empty ≡ Opp = ap (λ (cells : List Cell). cell_at cells 19) (g.board (λ e. omega (arith, e))) in cc);
  depth = λ g. (let e : 1 ≡ 0 = g.depth in omega (arith, e));
  window = λ g. not-whole g.window;
}
