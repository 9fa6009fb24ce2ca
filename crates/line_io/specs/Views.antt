-- Meaning: the numbers of the faults of a run over an input, and a line as data.
use Rattle.std.specs.Prelude.{ℕ}
use Rattle.line_io.specs.declared.faults.LineFault.{LineFault}
use Rattle.line_io.specs.declared.faults.LineFault.TheVariants.{Read, Write, TooMuch}
use Rattle.line_io.specs.declared.cutting.Line.{Line}
use Rattle.line_io.specs.declared.cutting.Line.TheVariants.{Whole as whole_line, TooLong as long_line}
use Rattle.line_io.specs.Lines.{LineText, Whole, TooLong}

-- the number of a fault: 1 where a read failed, 2 where a write failed, 3 where 2^62 bytes or more were read
abbrev pub line_fault_number : LineFault → ℕ
line_fault_number Read = 1
line_fault_number Write = 2
line_fault_number TooMuch = 3

-- the line that a `Line` of the code stands for
abbrev pub text_of : Line → LineText
text_of (whole_line bytes) = Whole bytes.now
text_of long_line = TooLong
