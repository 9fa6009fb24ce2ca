-- Of what a node of a stack sees: the words along its path and nothing else, so the law `sights_follow_paths`.
use Rattle.cactus_stack.proofs.LawFacts.{one-sight, path-sight, beside-path}
use Rattle.cactus_stack.proofs.laws.sights_follow_paths.Goals as goal

pub returns : goal.returns
returns c = record { one = one-sight; path = path-sight; beside = beside-path }
