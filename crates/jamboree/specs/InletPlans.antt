-- Representation: the inlet (what a frame of the search does about a returned child) that a small typed plan stands
-- for.
use Rattle.std.specs.Prelude.{ℕ, List, [], ◌∷◌, true, Option, Some, None}
use Rattle.jamboree_rules.specs.sched_rules.declared.act.InletAct.{InletAct}
use Rattle.jamboree_rules.specs.Places.{Best, Chosen, Phase, Status, rest_with, pairs_of}
use Rattle.jamboree.specs.declared.inlet_plan.InletPlan.{InletPlan}
use Rattle.jamboree.specs.declared.inlet_plan.ChildBound.{ChildBound}
use Rattle.jamboree.specs.declared.inlet_plan.SettledChoice.{SettledChoice}
use Rattle.jamboree.specs.declared.inlet_plan.Verdict.{Verdict}
use Rattle.jamboree.specs.declared.inlet_plan.Verdict.TheVariants.{Nothing, Ended, Low, Failed, Raised, Kept}

-- the rest of a choice's entry (what is known of the choice), once it says this kind and this score
abbrev pub rest_said : ChildBound → ℕ
rest_said said = rest_with said.known.kind said.known.score

-- what is stored where a choice is settled: the best score and the choice's entry; and the choice's code, where
-- it is now the best choice
abbrev pub settled : SettledChoice → Option ℕ → List (ℕ × ℕ)
settled told None = pairs_of (Best told.best ∷ Status told.said.number 2 (rest_said told.said) ∷ [])
settled told (Some code) = pairs_of (Best told.best ∷ Chosen code ∷ Status told.said.number 2 (rest_said told.said) ∷ [])

-- what is stored of a verdict (status 2 is settled, 3 failed; phase 3 is the tests, 4 done)
abbrev pub stores_for : Verdict → List (ℕ × ℕ)
stores_for Nothing = []
stores_for (Ended told code) = pairs_of (Best told.best ∷ Chosen code ∷ Status told.said.number 2 (rest_said told.said) ∷ Phase 4 ∷ [])
stores_for (Low told) = pairs_of (Best told.best ∷ Status told.said.number 2 (rest_said told.said) ∷ [])
stores_for (Failed said) = pairs_of (Status said.number 3 (rest_said said) ∷ [])
stores_for (Raised told code) = pairs_of (Best told.best ∷ Chosen code ∷ Status told.said.number 2 (rest_said told.said) ∷ Phase 3 ∷ [])
stores_for (Kept told) = pairs_of (Best told.best ∷ Status told.said.number 2 (rest_said told.said) ∷ Phase 3 ∷ [])

-- the inlet that a plan of one stands for; it always wakes the frame
abbrev pub inlet_for : InletPlan → InletAct
inlet_for plan = record { stores = stores_for plan.verdict; abort = plan.abort; wake = true }
