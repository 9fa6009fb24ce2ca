-- The names that the proofs of positions' texts use, imported in one place.
pub use Rattle.std.proofs.Common.{Bool, IsSome, List, None, Ok, Option, Result, Some, [], ap, arith, below_more, bit_and, cond, get_or, inl, inr, length}
pub use Rattle.std.proofs.Common.{length-append, map, min, nat_eq, refl, replicate, set, slice_index, subst, suc, sym, w64, zero, ℕ, ◌+◌, ◌<◌, ◌^◌, ◌↔◌, ◌∙◌}
pub use Rattle.std.proofs.Common.{◌∷◌, ◌≡◌, ◌≢◌, ◌≤◌, ◌⊎◌}
pub use Rattle.std.proofs.Math.Nat.{ℕ_set}
pub use Rattle.std.proofs.lemmas.Bool.{cases_eq, cases_lt, eq-eqb}
pub use Rattle.std.proofs.lemmas.Bool.Decides.{eqb_tells}
pub use Rattle.std.proofs.lemmas.List.{ext_get_or, get_or-append_right, get_or-map, get_or-replicate, get_or-set_other, get_or-set_same, get_or_append_left}
pub use Rattle.std.proofs.lemmas.List.{length-map, length-replicate, length-set}
pub use Rattle.std.proofs.lemmas.Nat.{and_comm}
pub use Rattle.std.proofs.lemmas.Nat.Bits.{bit_at-lt, bit_at-zero, bit_at_and, bit_at_set_other, bit_at_set_same, same_from_bits, same_from_bits_below}
pub use Rattle.std.specs.Int.{bit_at}
pub use Rattle.std.specs.List.{range_with_len}
pub use Rattle.std.specs.Option.{option_map}
pub use Rattle.othello_board.proofs.CellLemmas.{apart, cell_at-cells_of, length-cells_of, map-map, map-range-same}
pub use Rattle.othello_board.specs.Rules.{cell_at}
unfoldable pub use Rattle.othello_board.specs.Rules.{squares}
pub use Rattle.othello_board.specs.Words.{cell_of, cells}
pub use Rattle.othello_board.specs.declared.boards.Board.{Board}
pub use Rattle.othello_board.specs.declared.cells.Cell.{Cell}
pub use Rattle.othello_board.specs.declared.cells.Cell.TheVariants.{Empty, Opp, Own}
pub use Rattle.othello_board.specs.position_text.Discs.{HoldsFirst, mark_at}
pub use Rattle.othello_board.specs.position_text.Readings.{all_of, marks_of, mover_of, seen_by}
pub use Rattle.othello_board.specs.position_text.Spelling.{AllSpelled, FitsWords, IsBadCell, IsBadSide, Spells, byte_of, mark_of_cell, side_spelled, spelled, written}
pub use Rattle.othello_board.specs.declared.position_text.faults.TextFault.{TextFault}
pub use Rattle.othello_board.specs.declared.position_text.marks.Mark.{Mark}
pub use Rattle.othello_board.specs.declared.position_text.marks.Mark.TheVariants.{Blank, Disc}
pub use Rattle.othello_board.specs.declared.position_text.positions.Position.{Position}
pub use Rattle.othello_board.specs.declared.position_text.positions.Side.{Side}
pub use Rattle.othello_board.specs.declared.position_text.positions.Side.TheVariants.{Black, White}
