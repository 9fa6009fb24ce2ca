-- Answers for fill: what is given is the first of what is ahead.
use Rattle.std.proofs.Common.{rules}
use Rattle.othello_site.proofs.links.IncomingSource.fill.Goals as goal

pub returns-clause-answer : goal.returns-clause-answer
returns-clause-answer g c = search rules
