-- Answers for greet: each read leaves what came ahead.
use Rattle.std.proofs.Common.{[]}
use Rattle.tcp_server.proofs.TapeLemmas.{HandsOn-more}
use Rattle.othello_site.proofs.client.greet.Goals as goal

pub returns-in_default-clause-kept : goal.returns-in_default-clause-kept
returns-in_default-clause-kept g c = HandsOn-more c.args.source.now.reader c.loop.source.reader c.read.new.self.reader [] [] c.loop.invariant c.read.ensures

pub returns-in_default-2-clause-kept : goal.returns-in_default-2-clause-kept
returns-in_default-2-clause-kept g c = HandsOn-more c.args.source.now.reader c.loop.source.reader c.read.new.self.reader [] [] c.loop.invariant c.read.ensures

pub loop-preserved : goal.loop-preserved
loop-preserved g c = HandsOn-more c.args.source.now.reader c.loop.source.reader c.read.new.self.reader [] [] c.loop.invariant c.read.ensures
