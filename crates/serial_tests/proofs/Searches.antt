-- For tests of the core: a list of searches with one step more.
use Rattle.std.proofs.Common.{List, [], ◌∷◌, ◌++◌}
use Rattle.sched_rules.specs.declared.step.StepOf.{StepOf}
use Rattle.jamboree_rules.specs.declared.leaf.LeafAnswer.{LeafAnswer}
use Rattle.jamboree_core.specs.Replies.{AreSearches, IsSearch}

pub searches_pushed : (steps : List (StepOf LeafAnswer)) (step : StepOf LeafAnswer) → AreSearches steps → IsSearch step → AreSearches (steps ++ step ∷ [])
searches_pushed [] step all is = (is, tt)
searches_pushed (first ∷ steps) step all is = (all.0, searches_pushed steps step all.1 is)
