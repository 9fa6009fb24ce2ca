-- Of a search's frame that takes in a returned child: it and its parent stay right (`AreFitting`), so the law
-- `inlet_keeps`.
use Rattle.std.proofs.Common.{refl}
use Rattle.jamboree_rules.proofs.Common.{jamboree}
use Rattle.jamboree_rules.proofs.Keeping.{inlet-keeps, inlet-possible}
use Rattle.jamboree_rules.proofs.laws.inlet_keeps.Goals as goal

pub returns : goal.returns
returns c = record { keeps = λ grain. inlet-keeps (jamboree grain) refl; possible = inlet-possible }
