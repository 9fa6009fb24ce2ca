-- Representation: a history of a desk with two tenants, on which the definitions are tried.
use Rattle.std.specs.Prelude.{ℕ, List, [], ◌∷◌, ◌++◌, Option}
use Rattle.sched_rules.specs.declared.step.StepOf.{StepOf}
use Rattle.sched_rules.specs.declared.step.StepOf.TheVariants.{Admit, Submit}
use Rattle.sched_rules.specs.Trees.{Tenant}
use Rattle.desk.specs.hall.jamboree_rules.Places.{root_words, frame_size}
use Rattle.desk.specs.hall.jamboree_rules.declared.leaf.LeafAnswer.{LeafAnswer}
use Rattle.desk.specs.hall.Halls.{HallOf, empty_hall}
use Rattle.desk.specs.Histories.{lone_tenant}

-- the search of the opening to depth 0 by this tenant: the mover's discs are on 28 and 35
abbrev pub opening_of : ℕ → StepOf LeafAnswer
opening_of number = Submit number (root_words 34628173824 68853694464 0) frame_size

-- a history of an example: maker 0 admits tenant 1, then maker 5 admits tenant 2, which asks for its first job
abbrev pub after_hello : List (ℕ × StepOf LeafAnswer)
after_hello = (0, Admit 1 (record { segments = 4; nodes = 8 })) ∷ (5, Admit 2 (record { segments = 2; nodes = 1 })) ∷ (5, opening_of 2) ∷ []

-- the history of the example once tenant 1 has asked for the opening
abbrev pub after_ask : List (ℕ × StepOf LeafAnswer)
after_ask = after_hello ++ (0, opening_of 1) ∷ []

-- the hall that the desk was made with: nobody was there
abbrev pub hall_of_nobody : HallOf
hall_of_nobody = empty_hall 2 (record { segments = 8; nodes = 16 })

-- what a tenant has come to at the end of a history
abbrev pub tenant_told : List (ℕ × StepOf LeafAnswer) → ℕ → Option Tenant
tenant_told history number = lone_tenant hall_of_nobody history number
