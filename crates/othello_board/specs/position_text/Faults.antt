-- Meaning: the numbers of the faults of a position's text.
use Rattle.std.specs.Prelude.{ℕ}
use Rattle.othello_board.specs.declared.position_text.faults.TextFault.{TextFault}
use Rattle.othello_board.specs.declared.position_text.faults.TextFault.TheVariants.{Length, BadCell, BadSide}

-- 1 for the length, 2 for a bad cell, 3 for a bad side
abbrev pub text_fault_number : TextFault → ℕ
text_fault_number Length = 1
text_fault_number (BadCell at) = 2
text_fault_number BadSide = 3
