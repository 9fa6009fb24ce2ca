-- A reader of std as a source (`fill` of `FromReader`): at each turn, a read that was interrupted has taken nothing.
use Rattle.line_io.proofs.Common.{Keeps}
use Rattle.line_io.proofs.input.FromReaderSource.fill.Given as goal

abbrev pub invariant-loop : goal.invariant-loop
invariant-loop g l = Keeps (g.R.Read.remaining l.initial.self.reader) (g.R.Read.remaining l.self.reader)
