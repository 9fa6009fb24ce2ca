-- Answers for read: each call reads ahead, or fails.
use Rattle.othello_site.proofs.LinkLemmas.{read-ahead, read-failed}
use Rattle.othello_site.proofs.links.Incoming.read.Goals as goal

pub returns-in-Ok : goal.returns-in-Ok
returns-in-Ok g c = read-ahead c.args.self.now.reader c.loop.self.reader c.read.new.self c.in-Ok.count c.loop.invariant c.in-Ok.ensures.came

pub returns-then-not-goes_on : goal.returns-then-not-goes_on
returns-then-not-goes_on g c = read-failed c.args.self.now.reader c.loop.self.reader c.read.new.self c.loop.invariant c.in-Err.ensures.failed

pub loop-preserved : goal.loop-preserved
loop-preserved g c = read-failed c.args.self.now.reader c.loop.self.reader c.read.new.self c.loop.invariant c.in-Err.ensures.failed
