-- A write is tried again (`put` of `Outgoing`): so far nothing was taken.
use Rattle.std.proofs.Common.{[]}
use Rattle.tcp_server.specs.Tapes.{Moves}
use Rattle.othello_site.proofs.links.OutgoingSink.put.Given as goal

abbrev pub invariant-loop : goal.invariant-loop
invariant-loop g l = Moves l.initial.self.writer [] l.self.writer
