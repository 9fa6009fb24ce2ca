-- A writer of std as a sink (`put` of `FromWriter`): at each turn, a write that was interrupted has written nothing.
use Rattle.line_io.proofs.Common.{Keeps}
use Rattle.line_io.proofs.output.FromWriterSink.put.Given as goal

abbrev pub invariant-loop : goal.invariant-loop
invariant-loop g l = Keeps (g.W.Write.contents l.initial.self.writer) (g.W.Write.contents l.self.writer)
