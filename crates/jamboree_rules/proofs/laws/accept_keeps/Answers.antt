-- Of a search's frame that gets a leaf's answer: it and its parent stay right (`AreFitting`), so the law
-- `accept_keeps`.
use Rattle.std.proofs.Common.{refl}
use Rattle.jamboree_rules.proofs.Common.{jamboree}
use Rattle.jamboree_rules.proofs.Rooted.{accept-keeps, accept-possible}
use Rattle.jamboree_rules.proofs.laws.accept_keeps.Goals as goal

pub returns : goal.returns
returns c = record { keeps = λ grain. accept-keeps (jamboree grain) refl refl refl refl; possible = accept-possible }
