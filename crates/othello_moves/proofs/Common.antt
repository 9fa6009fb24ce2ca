-- The names that the proofs of a board's choices use, imported in one place.
pub use Rattle.std.proofs.Common.{All, Bool, Contains, IsTrue, List, None, Option, Some, [], ap, ap₂, arith, bit_and, bit_or, cond, count_ones, drop, eqb}
pub use Rattle.std.proofs.Common.{false, filter, if◌then◌else◌, inl, inr, is_some, leb, length, lit<, ltb, map, max, min, not, pow-suc, refl, rules, slice_get}
pub use Rattle.std.proofs.Common.{subst, suc, sym, true, unwrap_or, w64, zero, ℕ, ⊎_elim, ◌%◌, ◌&&◌, ◌*◌, ◌++◌, ◌+◌, ◌-◌, ◌/◌, ◌<◌, ◌==◌, ◌^◌, ◌||◌, ◌↔◌, ◌∙◌}
pub use Rattle.std.proofs.Common.{◌∷◌, ◌≡◌, ◌≢◌, ◌≤◌}
pub use Rattle.std.proofs.Math.Bool.{and_comm}
pub use Rattle.std.proofs.lemmas.Bool.{agree_below_at, and_parts, and_right, cases_eq, cases_lt, cases_order, cond-false, cond-true, cond_both, eq-eqb}
pub use Rattle.std.proofs.lemmas.Bool.{eqb-true, false≢true, ltb-true, ne_eqb, not-true, or_cases}
pub use Rattle.std.proofs.lemmas.Bool.Decides.{Decides-by_and, Decides-ltb}
pub use Rattle.std.proofs.lemmas.List.{append-nil, drop-drop, length-append, length-map}
pub use Rattle.std.proofs.lemmas.List.Elements.{All-cons, All-contains, All-filter, All-map, All-nil, filter-append, filter_passes}
pub use Rattle.std.proofs.lemmas.List.Sums.{count_by-le-length, length-filter}
pub use Rattle.std.proofs.lemmas.Nat.{and_le_l, and_le_r, le_or_l, le_or_r, mod_below, or_comm, or_lt, shr_le, zero_from_ones}
pub use Rattle.std.proofs.lemmas.Nat.Bits.{bit_at-lt, bit_at-suc, bit_at-trailing_zeros, bit_at_above, bit_at_and, bit_at_clear_other, bit_at_clear_same}
pub use Rattle.std.proofs.lemmas.Nat.Bits.{bit_at_cat_high, bit_at_lowest, bit_at_not, bit_at_ones, bit_at_or, same_from_bits}
pub use Rattle.std.specs.Int.{bit_at, bit_not, trailing_zeros}
pub use Rattle.std.specs.List.{flat_map, list_all, range_with_len}
pub use lib.Count.{ones-le, ones_step}
pub use mir.Val.{bool_byte}
pub use Rattle.othello_board.proofs.CellLemmas.{apart, bit_at-bits_of, bit-cases, cell_at-cells_of, exchanged-cells_of, length-cells_of}
pub use Rattle.othello_board.proofs.ShiftLemmas.{all_below, beside-edge, beside-next, bit_there, holds-below, opposite, slid-down, slid_from, slid-up}
pub use Rattle.othello_board.proofs.ShiftLemmas.{bit_at-left, bit_at-right, step-back}
pub use Rattle.othello_board.specs.Rules.{cell_at, directions, exchanged, flips, is_among, is_empty_cell, is_legal, is_nil, is_opp_cell, is_own_cell, led_by}
pub use Rattle.othello_board.specs.Rules.{outflanked, run, step}
unfoldable pub use Rattle.othello_board.specs.Rules.{squares, squares_beside}
pub use Rattle.othello_board.specs.Words.{bits_of, cells, cells_of}
pub use Rattle.othello_board.specs.declared.boards.Board.{Board}
pub use Rattle.othello_board.specs.declared.cells.Cell.{Cell}
pub use Rattle.othello_board.specs.declared.cells.Cell.TheVariants.{Empty, Opp, Own}
pub use Rattle.othello_board.specs.declared.directions.Direction.{Direction}
pub use Rattle.othello_board.specs.declared.directions.Direction.TheVariants.{East, North, NorthEast, NorthWest, South, SouthEast, SouthWest, West}
pub use Rattle.othello_moves.specs.Choices.{IsAllowed, after, choices, choices_without_move, corners, legal_squares, plies}
unfoldable pub use Rattle.othello_moves.specs.Choices.{in_order}
pub use Rattle.othello_moves.specs.Lanes.{lowered, raised, reached}
pub use Rattle.othello_moves.specs.Sequence.{pass_if, sequence, squares_of}
pub use Rattle.othello_moves.specs.declared.choices.Choice.{Choice}
pub use Rattle.othello_moves.specs.declared.choices.Choice.TheVariants.{Pass, Square}
