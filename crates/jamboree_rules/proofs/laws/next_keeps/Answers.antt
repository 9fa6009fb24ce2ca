-- Of a search's frame that does its next act: it, its parent and a new child stay right (`AreFitting`), so the law
-- `next_keeps`.
use Rattle.std.proofs.Common.{refl}
use Rattle.jamboree_rules.proofs.Common.{jamboree}
use Rattle.jamboree_rules.proofs.Keeping.{next-keeps, next-possible}
use Rattle.jamboree_rules.proofs.laws.next_keeps.Goals as goal

pub returns : goal.returns
returns c = record { keeps = λ grain. next-keeps (jamboree grain) grain refl; possible = next-possible }
