-- A read is tried again (`Incoming::read`): so far nothing was given.
use Rattle.std.proofs.Common.{[]}
use Rattle.tcp_server.specs.Tapes.{HandsOn}
use Rattle.othello_site.proofs.links.Incoming.read.Given as goal

abbrev pub invariant-loop : goal.invariant-loop
invariant-loop g l = HandsOn l.initial.self.reader [] l.self.reader
