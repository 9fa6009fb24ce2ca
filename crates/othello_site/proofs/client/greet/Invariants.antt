-- A connection's first bytes are read (`client::greet`): so far all that came is ahead.
use Rattle.std.proofs.Common.{[]}
use Rattle.tcp_server.specs.Tapes.{HandsOn}
use Rattle.othello_site.proofs.client.greet.Given as goal

abbrev pub invariant-loop : goal.invariant-loop
invariant-loop g l = HandsOn l.initial.source.reader [] l.source.reader
