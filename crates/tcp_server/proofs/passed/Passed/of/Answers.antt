-- Answers for Passed::of: what the seat knows goes on from itself.
use Rattle.tcp_server.proofs.Partings.{goes-on-self}
use Rattle.tcp_server.proofs.passed.Passed.of.Goals as goal

pub invariant_of-result : goal.invariant_of-result
invariant_of-result g c = record { left = c.args.taped.knew; session = c.requires; goes_on = goes-on-self c.args.taped.knew }
