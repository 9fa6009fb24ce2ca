-- The names that the proofs of the search's rules use, imported in one place.
pub use Rattle.std.proofs.Common.{ap, arith, eqb, inl, inr, min, of_z, subst, sym, to_z, w32, ⊎_elim, ◌∙◌}
pub use Rattle.std.proofs.Math.Logic.{∥∥₁_elim}
pub use Rattle.std.proofs.Math.Seq.{drop-append_seam}
pub use Rattle.std.proofs.Props.{props}
pub use Rattle.std.proofs.lemmas.Bool.{and_from, and_parts, and_right, cases_eq, cases_lt, eq-eqb, eqb-true, le-leb, leb-true, lt-leb, ltb-true, or_from}
pub use Rattle.std.proofs.lemmas.Bool.Decides.{nat_tests}
pub use Rattle.std.proofs.lemmas.Grind.{common_steps}
pub use Rattle.std.proofs.lemmas.Int.{by_lt_z, clamps, ints}
pub use Rattle.std.proofs.lemmas.List.{drop-set-add, drop-set-lt, ext_get_or, get_or-set_other, get_or-set_same, get_or_past, length-drop, length-map, map-append, map-set}
pub use Rattle.std.proofs.lemmas.List.{take_all}
pub use Rattle.std.proofs.lemmas.List.Elements.{All-cons, All-get_or}
pub use Rattle.std.proofs.lemmas.List.FromFn.{get_or-map-range_with_len}
pub use Rattle.std.proofs.lemmas.List.Recursion.{and_set}
pub use Rattle.std.proofs.lemmas.Nat.{div-mul-add, mod-mul-add}
pub use Rattle.std.proofs.lemmas.Nat.Bits.{bit_at-lt, bit_at-zero, bit_at_above, bit_at_and, same_from_bits}
pub use Rattle.std.specs.Int.{bit_at, int_max}
pub use Rattle.std.specs.Ordering.{int_eq}
pub use Rattle.std.specs.Prelude.{All, Bool, Contains, IfSome, List, None, Option, Some, [], bit_and, cond, drop, false, filter, find, if◌then◌else◌, int_le}
pub use Rattle.std.specs.Prelude.{int_lt, length, map, nat_le, nat_lt, neg_ℤ, negsuc, not, pos, refl, replicate, slice_index, slice_index_or, slice_set, suc}
pub use Rattle.std.specs.Prelude.{true, zero, ℕ, ℤ, ◌%◌, ◌&&◌, ◌*◌, ◌++◌, ◌+ℤ◌, ◌+◌, ◌-◌, ◌/◌, ◌<ℤ◌, ◌<◌, ◌==◌, ◌^◌, ◌||◌, ◌∷◌, ◌≡◌, ◌≢◌, ◌≤ℤ◌, ◌≤◌, ◌⊎◌}
pub use Rattle.leaf_search.proofs.EvalLemmas.MinimaxLemmas.{best_choice-deeper, int_equal-below, int_equal-same, minimax-deeper, minimax-within}
pub use Rattle.leaf_search.specs.Bounds.{IsBound}
pub use Rattle.leaf_search.specs.othello_eval.Minimax.{best_choice, choice_value, greatest_or, minimax}
pub use Rattle.leaf_search.specs.othello_eval.Tables.{IsExactIfBest, IsTable, IsTrueBound, Says, entered}
pub use Rattle.leaf_search.specs.othello_eval.Values.{IsWithin, final_value}
pub use Rattle.leaf_search.specs.othello_eval.declared.bound.Bound.{Bound}
pub use Rattle.leaf_search.specs.othello_eval.declared.bound.BoundKind.{BoundKind}
pub use Rattle.leaf_search.specs.othello_eval.declared.bound.BoundKind.TheVariants.{Exact}
pub use Rattle.othello_board.proofs.CellLemmas.{apart, bit_at-bits_of, bit-cases, cell_at-cells_of, length-cells_of, map-squares-same}
pub use Rattle.othello_board.specs.Rules.{cell_at, exchanged, is_among, is_legal, is_nil, is_opp_cell, is_own_cell}
unfoldable pub use Rattle.othello_board.specs.Rules.{squares}
pub use Rattle.othello_board.specs.Words.{bits_of, cell_of, cells_of}
pub use Rattle.othello_board.specs.declared.cells.Cell.{Cell}
pub use Rattle.othello_board.specs.declared.cells.Cell.TheVariants.{Empty, Opp, Own}
pub use Rattle.othello_moves.proofs.AllowedLemmas.{choices_allowed, choices-fit, contained-allowed, length-after, squares-length}
pub use Rattle.othello_moves.proofs.BitLemmas.{is_among-filter, is-square}
pub use Rattle.othello_moves.proofs.LeadLemmas.{no-square}
pub use Rattle.othello_moves.specs.Choices.{IsAllowed, after, choices, choices_without_move, legal_squares, plies}
pub use Rattle.othello_moves.specs.Depths.{greatest_depth}
unfoldable pub use Rattle.othello_moves.specs.Choices.{in_order}
pub use Rattle.othello_moves.specs.declared.choices.Choice.{Choice}
pub use Rattle.othello_moves.specs.declared.choices.Choice.TheVariants.{Pass, Square}
pub use Rattle.sched_rules.proofs.StoreLemmas.{length-stored}
pub use Rattle.sched_rules.specs.Functions.{Functions}
pub use Rattle.sched_rules.specs.Laws.{AcceptKeeps, Computes, HasReturned, InletKeeps, Mark, Neither, NewChildFits, NextKeeps, ParentFits}
pub use Rattle.sched_rules.specs.Laws.{children_after, children_left, grown, has_one, mark_after}
pub use Rattle.sched_rules.specs.Lone.{is_bad_act, is_bad_then}
pub use Rattle.sched_rules.specs.Trees.{is_outside, kept_words, stored}
pub use Rattle.sched_rules.specs.cactus_stack.Nodes.{padded}
pub use Rattle.sched_rules.specs.declared.act.Act.{Act}
pub use Rattle.sched_rules.specs.declared.act.Continuation.{Continuation}
pub use Rattle.sched_rules.specs.declared.act.Continuation.TheVariants.{Compute, Grow, Return, Wait}
pub use Rattle.sched_rules.specs.declared.act.InletAct.{InletAct}
pub use Rattle.jamboree_rules.specs.Acts.{act_by, act_of, changes_by, changes_of, first_open, first_search, found_rest, inlet_act, inlet_of, is_computed}
pub use Rattle.jamboree_rules.specs.Acts.{kind_by, kind_of, next_act, opening, opening_on, opening_under, parent_in, returns, seen, spawns, tests}
pub use Rattle.jamboree_rules.specs.Entries.{IsOfKind, IsTrueRest, bound_in, bounds_in, bounds_of, kind_numbered}
pub use Rattle.jamboree_rules.specs.Fits.{Again, AreChildren, AreFitting, First, Fits, IsAgain, IsChildOf, IsDoneFrame, IsFirst, IsFound, IsInRole, IsRoot}
pub use Rattle.jamboree_rules.specs.Fits.{IsSearchingFrame, IsTabled, IsTest, Test, how_many}
pub use Rattle.jamboree_rules.specs.Frames.{Frame, board, choice_at, code_at, code_of, coded, counts_choices, floor, greatest, is_frame, is_in_phase, is_leaf}
pub use Rattle.jamboree_rules.specs.Frames.{is_score, is_searching, least, may_be_child, opp_word, own_word, rest_at, unscored, value, value_at}
pub use Rattle.jamboree_rules.specs.Leaves.{IsLeaf, accepts, changes_of_answer, leaf-told, leaf_by, leaf_from, leaf_in, leaf_of_answer, leaf_with, same_leaf}
pub use Rattle.jamboree_rules.specs.Places.{Best, Change, Chosen, Count, OppBits, OwnBits, Phase, Spawned, Status, are_entries, changed, entry_of, entry_rest}
pub use Rattle.jamboree_rules.specs.Places.{frame_of, frame_size, given_words, is_entry, is_formed, is_placed, is_rest, kind_in, kind_number, pair_of, pairs_of}
pub use Rattle.jamboree_rules.specs.Places.{rest_with, root_words, score_in, score_of, status_of, word_of}
pub use Rattle.jamboree_rules.specs.Procedure.{jamboree}
pub use Rattle.jamboree_rules.specs.Sound.{HasWindow, HaveGoals, IsSettled, IsSound}
pub use Rattle.jamboree_rules.specs.declared.leaf.Leaf.{Leaf}
pub use Rattle.jamboree_rules.specs.declared.leaf.LeafAnswer.{LeafAnswer}
