-- Rows of replies: what answers a search of the opening to one ply, and scores, choices, depths and tables that don't.
use Rattle.jamboree_core.proofs.Common.{◌≡◌, ℕ, negsuc, ap, ◌∙◌, arith, ints, squares, squares_beside, Square, in_order, BoundKind, Low, High, Exact, weights, minimax, best_choice, entry, coded}
use Rattle.jamboree_core.proofs.Replying.{worth, best, answered}
use Rattle.jamboree_core.proofs.rows.what_a_search_answers.Goals as goal

pub returns-clause-opening : goal.returns-clause-opening
returns-clause-opening c = answered

pub returns-clause-better : goal.returns-clause-better
returns-clause-better c is = let e : negsuc 1 ≡ negsuc 2 = is.value ∙ worth in omega (arith, ints, e)

pub returns-clause-later_equal_move : goal.returns-clause-later_equal_move
returns-clause-later_equal_move c is = let e : 26 ≡ 19 = is.choice ∙ ap coded best in omega (arith, e)

pub returns-clause-depth : goal.returns-clause-depth
returns-clause-depth c is = let e : 0 ≡ 1 = is.depth in omega (arith, e)

exactness : BoundKind → ℕ
exactness Low = 0
exactness High = 1
exactness Exact = 2

not-exact : exactness High ≡ exactness Exact → ⊥
unfolding exactness
not-exact e = absurd (omega (arith, e))

pub returns-clause-vague : goal.returns-clause-vague
unfolding squares squares_beside in_order
returns-clause-vague c is = not-exact (ap exactness (is.table.best 0 (entry (Square 19) High (negsuc 2)) (omega arith) best))

pub returns-clause-untrue : goal.returns-clause-untrue
unfolding squares squares_beside in_order weights minimax best_choice
returns-clause-untrue c is = (is.table.holds 0 (entry (Square 19) Low (negsuc 3)) (omega arith)).le
