-- Answers for put: each call takes bytes, or fails.
use Rattle.std.proofs.Common.{take, subst}
use Rattle.tcp_server.specs.Tapes.{Moves}
use Rattle.othello_site.proofs.LinkLemmas.{written, unwritten}
use Rattle.othello_site.proofs.links.OutgoingSink.put.Goals as goal

pub returns-in-Ok-eq0-clause-answer : goal.returns-in-Ok-eq0-clause-answer
returns-in-Ok-eq0-clause-answer g c =
    subst (λ n. Moves c.args.self.now.writer (take n c.args.bytes.now) c.write.new.self) c.in-Ok-eq0.field-0-test
    (written c.args.self.now.writer c.loop.self.writer c.write.new.self (take c.in-Ok-eq0.field-0 c.args.bytes.now) c.loop.invariant c.in-Ok-eq0.ensures.took)

pub returns-in-Ok-clause-answer : goal.returns-in-Ok-clause-answer
returns-in-Ok-clause-answer g c = written c.args.self.now.writer c.loop.self.writer c.write.new.self (take c.in-Ok.count c.args.bytes.now) c.loop.invariant c.in-Ok.ensures.took

pub returns-then-not-is_interrupted-clause-answer : goal.returns-then-not-is_interrupted-clause-answer
returns-then-not-is_interrupted-clause-answer g c = unwritten c.args.self.now.writer c.loop.self.writer c.write.new.self c.loop.invariant c.in-Err.ensures.failed

pub loop-preserved : goal.loop-preserved
loop-preserved g c = unwritten c.args.self.now.writer c.loop.self.writer c.write.new.self c.loop.invariant c.in-Err.ensures.failed
