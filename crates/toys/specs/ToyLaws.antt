-- Representation: the laws of a toy procedure whose frames always fit.
use Rattle.std.specs.Prelude.{◌≡◌, ℕ, true, ◌==◌, List, [], ◌∷◌}
use Rattle.std.proofs.lemmas.Bool.{eqb-true}
use Rattle.sched_rules.specs.declared.act.Continuation.{Continuation}
use Rattle.sched_rules.specs.declared.act.Continuation.TheVariants.{Grow, Spawn, Go, Wait, Compute, Return}
use Rattle.sched_rules.specs.Functions.{Functions}
use Rattle.sched_rules.specs.Laws.{Fitting, Rooting, ParentFits, NewChildFits, NextKeeps, InletKeeps, AcceptKeeps}

-- an invariant by which every frame is right
abbrev pub AlwaysFits : Fitting
AlwaysFits own children mark = Unit {0}

-- an invariant by which every root belongs to what was submitted
abbrev pub AlwaysRooted : Rooting
AlwaysRooted origin own = Unit {0}

-- where every frame fits and every root belongs, every parent fits
pub parent-fits : (origin : List ℕ) (above older : List (List ℕ)) (own : List ℕ) (younger : List (List ℕ)) → ParentFits AlwaysFits AlwaysRooted origin above (older, younger) own
parent-fits origin [] older own younger = tt
parent-fits origin (parent ∷ above) older own younger = tt

-- where every frame fits, every new child does
pub new-child-fits : (after : Continuation) → NewChildFits AlwaysFits after
new-child-fits (Grow more) = tt
new-child-fits (Spawn given size) = tt
new-child-fits Go = tt
new-child-fits Wait = tt
new-child-fits Compute = tt
new-child-fits Return = tt

-- where every frame fits, every act leaves frames that fit
pub next-keeps : {I A : Type 0} (functions : Functions I A) → NextKeeps functions AlwaysFits AlwaysRooted
next-keeps functions origin own above older younger children fits parent all_fit done = (tt, parent-fits origin _ _ _ _, new-child-fits _)

-- where every frame fits, every inlet leaves frames that fit
pub inlet-keeps : {I A : Type 0} (functions : Functions I A) → InletKeeps functions AlwaysFits AlwaysRooted
inlet-keeps functions origin own child above older younger before behind fits parent all_before returned all_behind done = (tt, parent-fits origin _ _ _ _)

-- where every frame fits, every answer leaves frames that fit
pub accept-keeps : {I A : Type 0} (functions : Functions I A) → AcceptKeeps functions AlwaysFits AlwaysRooted
accept-keeps functions origin own above older younger answer fits parent same done = (tt, parent-fits origin _ _ _ _)

-- two numbers that compare as the same are equal
pub same-number : (one other : ℕ) → (one == other) ≡ true → one ≡ other
same-number one other same = eqb-true one other same
