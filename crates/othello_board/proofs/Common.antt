-- The names that the proofs of the Othello board use, imported in one place.
pub use Rattle.std.proofs.Common.{Bool, List, None, Option, Some, [], add-one, ap, ap₂, arith, bit_and, bit_or, cond, count_by, eqb, false, get_or}
pub use Rattle.std.proofs.Common.{if◌then◌else◌, inl, inr, leb, leb-true, length, ltb, ltb-true, map, max, min, nat_eq, nat_lt, refl, subst, suc, sym, true}
pub use Rattle.std.proofs.Common.{unwrap_or, w64, zero, ℕ, ◌%◌, ◌&&◌, ◌*◌, ◌++◌, ◌+◌, ◌-◌, ◌/◌, ◌<◌, ◌^◌, ◌||◌, ◌∙◌, ◌∷◌, ◌≡◌, ◌≢◌, ◌≤◌, ◌⊎◌}
pub use Rattle.std.proofs.Math.Nat.{mul_comm, pow-suc}
pub use Rattle.std.proofs.Math.Pow.{pow_mono}
pub use Rattle.std.proofs.lemmas.Bool.{and_from, and_parts, cases_lt, eq-eqb, eqb-true}
pub use Rattle.std.proofs.lemmas.Bool.Decides.{eqb_tells}
pub use Rattle.std.proofs.lemmas.Grind.{common_steps}
pub use Rattle.std.proofs.lemmas.List.FromFn.{get_or-map-range_with_len, length-map-range_with_len}
pub use Rattle.std.proofs.lemmas.List.Recursion.{is_count_by}
pub use Rattle.std.proofs.lemmas.Nat.{and_comm, and_le_l, div-add-mod', div_below, le_or_l, mod_below, one_shl, or_comm, or_lt, pow_below, pow_pos, shr_le}
pub use Rattle.std.proofs.lemmas.Nat.Bits.{and_pow, bit_at-lt, bit_at-pow_other, bit_at-pow_same, bit_at-suc, bit_at-zero, bit_at_above, bit_at_and}
pub use Rattle.std.proofs.lemmas.Nat.Bits.{bit_at_cat_high, bit_at_cat_low, bit_at_lowest, bit_at_mask_below, bit_at_mask_inside, bit_at_not, bit_at_ones}
pub use Rattle.std.proofs.lemmas.Nat.Bits.{bit_at_ones_above, bit_at_or, same_from_bits, same_from_bits_below, shr_and_one}
pub use Rattle.std.specs.Int.{bit_at}
pub use Rattle.std.specs.List.{flat_map, list_all, range_with_len}
pub use Rattle.std.specs.Option.{option_map}
pub use lib.Count.{ones, ones-le, ones_step}
pub use Rattle.othello_board.specs.Rules.{cell_at, directions, exchanged, exchanged_cell, flips, is_among, is_opp_cell, is_own_cell, led_by, made_own}
pub use Rattle.othello_board.specs.Rules.{outflanked, ray, run, step}
unfoldable pub use Rattle.othello_board.specs.Rules.{squares, squares_beside}
pub use Rattle.othello_board.specs.Runs.{falling_run, lowered_to, negated, others, rising_run}
pub use Rattle.othello_board.specs.Words.{bits_of, cell_of, cells, cells_of}
pub use Rattle.othello_board.specs.declared.cells.Cell.{Cell}
pub use Rattle.othello_board.specs.declared.cells.Cell.TheVariants.{Empty, Opp, Own}
pub use Rattle.othello_board.specs.declared.directions.Direction.{Direction}
pub use Rattle.othello_board.specs.declared.directions.Direction.TheVariants.{East, North, NorthEast, NorthWest, South, SouthEast, SouthWest, West}
pub use Rattle.othello_board.specs.declared.rays.TheConstants.{RAYS}
