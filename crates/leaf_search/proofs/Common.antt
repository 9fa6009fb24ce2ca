-- The names that the proofs of the serial search use, imported in one place.
pub use Rattle.std.proofs.Common.{All, Bool, Contains, IfSome, IsSome, IsTrue, List, None, Option, Some, [], add-one, ap, ap₂, append-nil, append_assoc, arith, drop, false, find, get_or, length, length-append}
pub use Rattle.std.proofs.Common.{map, neg_ℤ, negsuc, pos, refl, rules, subst, suc, sym, take, true, ℕ, ℤ, ◌*◌, ◌++◌, ◌+ℤ◌, ◌+◌, ◌-◌, ◌<ℤ◌, ◌<◌, ◌↔◌, ◌∙◌, ◌∷◌, ◌≡◌, ◌≤ℤ◌, ◌≤◌}
pub use Rattle.std.proofs.lemmas.Grind.{common_steps}
pub use Rattle.std.proofs.lemmas.Int.{by_lt_z, clamps, ints}
pub use Rattle.std.proofs.lemmas.Bool.{eqb-true}
pub use Rattle.std.proofs.lemmas.List.{length-drop, length-map, map-append}
pub use Rattle.std.proofs.Common.{eqb}
pub use Rattle.std.proofs.lemmas.List.Elements.{All-append, All-cons, All-contains, All-get_or, All-head, All-nil, All-push, All-tail, All-weaker, Contains-append_right}
pub use Rattle.std.proofs.lemmas.List.Sorted.{All-permutation, IsPermutation-map, IsPermutation-sym, length_permutation}
pub use Rattle.std.proofs.Math.Seq.{drop-cons, take-append_seam}
pub use Rattle.std.specs.List.{refill}
pub use Rattle.std.specs.List.Sorted.{IsPermutation}
pub use Rattle.std.proofs.Common.{FitsSigned, of_z, to_z, w32, ◌*ℤ◌, ◌-ℤ◌}
pub use lib.Count.{ones-le}
pub use Rattle.std.specs.Int.{int_max}
pub use Rattle.othello_board.specs.Rules.{exchanged, is_legal, is_nil, squares}
pub use Rattle.othello_board.specs.Words.{bits_of, cells}
pub use Rattle.othello_board.specs.declared.boards.Board.{Board}
pub use Rattle.othello_board.specs.declared.cells.Cell.{Cell}
pub use Rattle.othello_eval.proofs.MinimaxLemmas.{best_choice-deeper, best_choice-leaf, best_choice-over, find-kept, find-new, found-below-greatest}
pub use Rattle.othello_eval.proofs.MinimaxLemmas.{greatest_or-lower, greatest_or-upper, minimax-deeper, minimax-over, minimax-leaf, minimax-leaf-there}
pub use Rattle.othello_eval.proofs.ValueLemmas.{difference-fits, eval-fits, eval-is, known-within, mobility-fits, small-fits}
pub use Rattle.othello_moves.proofs.AllowedLemmas.{goes_down, legal_squares-fit, passing}
pub use Rattle.othello_moves.proofs.BitLemmas.{length-in_order}
pub use Rattle.othello_eval.specs.Minimax.{choice_value, greatest, greatest_or, int_equal, minimax}
pub use Rattle.othello_eval.specs.Values.{IsWithin, discs_value, eval, final_value, weights}
pub use Rattle.othello_eval.specs.othello_moves.Choices.{after, choices, legal_squares, plies}
pub use Rattle.othello_eval.specs.othello_moves.declared.choices.Choice.{Choice}
pub use Rattle.othello_eval.specs.othello_moves.declared.choices.Choice.TheVariants.{Pass, Square}
pub use Rattle.leaf_search.specs.Bounds.{IsBound}
pub use Rattle.leaf_search.specs.Ranking.{numbered, numbered_choice}
pub use Rattle.leaf_search.specs.declared.ranking.Ranked.{Ranked}
pub use Rattle.leaf_search.specs.declared.scored.Counted.{Counted}
pub use Rattle.leaf_search.specs.declared.scored.Scored.{Scored}
pub use Rattle.std.proofs.Common.{bit_and, bit_or, cond, count_ones, filter, min, not, w64, ◌%◌, ◌&&◌, ◌^◌}
pub use Rattle.std.proofs.lemmas.Nat.Bits.{bit_at-lt, bit_at_and, bit_at_not}
pub use Rattle.std.proofs.lemmas.List.Sorted.{Contains-permutation, IsPermutation-append, IsPermutation-filter_both, IsPermutation-refl, IsPermutation-trans}
pub use Rattle.std.specs.Int.{bit_at, bit_not, trailing_zeros}
pub use Rattle.othello_moves.specs.Sequence.{pass_if, sequence, squares_of}
pub use Rattle.leaf_search.specs.Classes.{classed}
pub use Rattle.std.proofs.lemmas.Bool.{false≢true, ne_eqb, not-true, eq-eqb}
pub use Rattle.std.proofs.lemmas.Nat.{le_or_l, le_or_r, zero_from_ones}
pub use Rattle.othello_board.specs.Rules.{is_legal}
pub use Rattle.std.proofs.Common.{zero}
pub use Rattle.std.specs.Prelude.{int_le}
pub use Rattle.std.proofs.lemmas.Bool.{cond-false, cond-true}
pub use Rattle.othello_board.specs.Rules.{played}
pub use Rattle.othello_eval.specs.othello_moves.Choices.{choices_without_move}
