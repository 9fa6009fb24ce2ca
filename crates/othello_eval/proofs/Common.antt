-- The names that the proofs of a board's values use, imported in one place.
pub use Rattle.std.proofs.Common.{All, Bool, Contains, FitsSigned, IsSome, List, None, Option, Some, [], ap, ap₂, arith, bit_and, cond, count_by, count_ones}
pub use Rattle.std.proofs.Common.{drop, eq-eqb, eqb, false, filter, find, get_or, inl, inr, int_lt, leb, leb-true, length, map, min, nat_abs, neg_ℤ, negsuc}
pub use Rattle.std.proofs.Common.{of_z, pos, refl, rules, subst, suc, sym, take, to_z, true, unsigned_abs, unwrap_or, w32, zero, ℕ, ℤ, ⊎_elim, ◌&&◌, ◌*ℤ◌}
pub use Rattle.std.proofs.Common.{◌*◌, ◌++◌, ◌+ℤ◌, ◌+◌, ◌-ℤ◌, ◌-◌, ◌/◌, ◌<ℤ◌, ◌<◌, ◌^◌, ◌||◌, ◌∙◌, ◌∷◌, ◌≡◌, ◌≢◌, ◌≤ℤ◌, ◌≤◌}
pub use Rattle.std.proofs.Math.IntN.{*ℤ-zero, *ℤ_comm, -ℤ_one, pred_ℤ, pred_ℤ-*ℤ, zero-*ℤ}
pub use Rattle.std.proofs.Props.{props}
pub use Rattle.std.proofs.lemmas.Bool.{and_parts, cases_Bool, cases_lt, cond-false, cond-true, cond_both, eqb-true, false_from_ne_true, false≢true, ne_eqb}
pub use Rattle.std.proofs.lemmas.Bool.{or_cases}
pub use Rattle.std.proofs.lemmas.Grind.{common_steps}
pub use Rattle.std.proofs.lemmas.Int.{clamps, ints, to_z-of_z, unsigned_abs-mul}
pub use Rattle.std.proofs.lemmas.List.{at_drop_all, at_drop_more}
pub use Rattle.std.proofs.lemmas.List.Elements.{All-cons, All-contains_itself, All-from_recursion, All-head, All-nil, All-tail, All-weaker}
pub use Rattle.std.proofs.lemmas.List.Folds.{find-append}
pub use Rattle.std.proofs.lemmas.List.Sums.{count_by-le-length}
pub use Rattle.std.proofs.lemmas.Nat.{and_le_l, and_le_r, mul-le}
pub use Rattle.std.proofs.lemmas.Nat.Bits.{bit_at-lt, bit_at-zero, bit_at_and, bit_at_ones}
pub use Rattle.std.specs.Int.{bit_at, int_max}
pub use Rattle.std.specs.List.{flat_map, list_all, range_with_len}
pub use Rattle.std.specs.Option.{option_or}
pub use Rattle.othello_board.proofs.CellLemmas.{apart, bit-cases, cell_at-cells_of, cell_at-map, count_in, is-opp-cell_of, map-map, ones-by-bits}
pub use Rattle.othello_board.proofs.ShiftLemmas.{all_below, bit_at-right, holds-below}
pub use Rattle.othello_board.specs.Rows.{opening}
pub use Rattle.othello_board.specs.Rules.{cell_at, directions, exchanged, exchanged_cell, flips, is_among, is_empty_cell, is_legal, is_nil, is_opp_cell}
pub use Rattle.othello_board.specs.Rules.{is_own_cell, led_by, outflanked, played, ray, run}
unfoldable pub use Rattle.othello_board.specs.Rules.{squares, squares_beside}
pub use Rattle.othello_board.specs.Words.{bits_of, cell_of, cells, cells_of}
pub use Rattle.othello_board.specs.declared.cells.Cell.{Cell}
pub use Rattle.othello_board.specs.declared.cells.Cell.TheVariants.{Empty, Opp, Own}
pub use Rattle.othello_board.specs.declared.directions.Direction.{Direction}
pub use Rattle.othello_moves.proofs.AllowedLemmas.{contained-allowed, goes_down, legal_squares-fit, length-after, length-cells, passing}
pub use Rattle.othello_moves.proofs.BitLemmas.{length-in_order}
pub use Rattle.othello_moves.specs.Choices.{after, choices, choices_without_move, legal_squares, plies}
unfoldable pub use Rattle.othello_moves.specs.Choices.{in_order}
pub use Rattle.othello_moves.specs.Rows.{two_discs_from_there}
pub use Rattle.othello_moves.specs.declared.choices.Choice.{Choice}
pub use Rattle.othello_moves.specs.declared.choices.Choice.TheVariants.{Pass, Square}
pub use Rattle.othello_eval.specs.Masks.{disc_difference, kind_of, row_value, weight_at}
pub use Rattle.othello_eval.specs.Minimax.{choice_value, greatest, greatest_or, int_equal, leaf_value, over_squares, value_after}
unfoldable pub use Rattle.othello_eval.specs.Minimax.{best_choice, minimax}
pub use Rattle.othello_eval.specs.Rows.{all_opposing, corner_and_edge, corner_or_edge, entry, equal_moves, to_pass}
pub use Rattle.othello_eval.specs.Tables.{IsExactIfBest, IsTable, IsTrueBound, Says}
pub use Rattle.othello_eval.specs.Values.{IsWithin, disc_value, discs_value, eval, final_value}
unfoldable pub use Rattle.othello_eval.specs.Values.{weights}
pub use Rattle.othello_eval.specs.declared.bound.Bound.{Bound}
pub use Rattle.othello_eval.specs.declared.bound.BoundKind.{BoundKind}
pub use Rattle.othello_eval.specs.declared.bound.BoundKind.TheVariants.{Exact, High, Low}
pub use Rattle.othello_eval.specs.declared.row_values.TheConstants.{ROW_VALUES}
pub use Rattle.othello_eval.specs.declared.weighed.TheConstants.{SQUARE_WEIGHTS}
