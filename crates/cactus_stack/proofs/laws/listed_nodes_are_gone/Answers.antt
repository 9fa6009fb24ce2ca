-- Of a stack without some nodes: these are gone and all others are as they were, so the law `listed_nodes_are_gone`.
use Rattle.cactus_stack.proofs.LawFacts.{gone, kept}
use Rattle.cactus_stack.proofs.laws.listed_nodes_are_gone.Goals as goal

pub returns : goal.returns
returns c = record { gone = gone; kept = kept }
