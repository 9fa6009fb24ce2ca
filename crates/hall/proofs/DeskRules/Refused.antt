-- By which refusals a seat's ask can be refused at a desk.
use Rattle.std.proofs.Common.{arith, ◌≡◌, ℕ, length, Bool, true, false, Option, Some, None, refl, sym, subst, lit<, Result, Ok, Err}
use Rattle.std.specs.Prelude.{◌==◌, nat_le, nat_lt, not, Contains, IfErr, if◌then◌else◌}
use Rattle.cactus_stack.specs.Nodes.{charge}
use Rattle.sched_rules.specs.declared.refusal.Refusal.{Refusal}
use Rattle.sched_rules.specs.declared.refusal.Refusal.TheVariants.{NoSegments, NoNodes, NoJobsLeft, BadAct}
use Rattle.sched_rules.specs.declared.step.StepOf.TheVariants.{Submit}
use Rattle.sched_rules.specs.declared.step.DidOf.{DidOf}
use Rattle.sched_rules.specs.Functions.{Functions}
use Rattle.sched_rules.specs.Lone.{Outcome, is_frame_size, lone, refusal_in, submitted}
use Rattle.sched_rules.specs.Headline.{IsOneStep}
use Rattle.sched_rules.specs.Runs.{answer_of}
use Rattle.sched_rules.specs.Trees.{Tenant, left}
use Rattle.hall.specs.jamboree_rules.declared.leaf.Leaf.{Leaf}
use Rattle.hall.specs.jamboree_rules.Places.{root_words, frame_size}
use Rattle.hall.specs.jamboree_rules.Procedure.{jamboree}
use Rattle.hall.specs.Halls.{HallOf}
use Rattle.hall.specs.desk_rules.Asked.{ask_refusals}

-- what a tenant alone is refused is what it is refused
within : {I : Type 0} (P : Refusal → Type 0) (own : Result (Outcome I) Refusal) (answer : Result (DidOf I) Refusal) → ((refusal : Refusal) → refusal_in own ≡ Some refusal → answer ≡ Err refusal) → (refusal_in own ≡ None → answer ≡ answer_of own) → IfErr own P → IfErr answer P
within P (Ok outcome) answer refused taken h = subst (λ a. IfErr a P) (sym (taken refl)) tt
within P (Err refusal) answer refused taken h = subst (λ a. IfErr a P) (sym (refused refusal refl)) h

-- of the four tests of a Submit the first can't apply, since a root has the size of a frame
submit-tested : {X : Type 0} (effect : X) (frame jobs nodes segments : Bool) → frame ≡ false
    → IfErr (if frame then Err BadAct else (if jobs then Err NoJobsLeft else (if nodes then Err NoNodes else (if segments then Err NoSegments else Ok effect)))) (Contains ask_refusals)
submit-tested effect true jobs nodes segments h = absurd (cc h)
submit-tested effect false true nodes segments h = (1, lit< tt, refl)
submit-tested effect false false true segments h = (2, lit< tt, refl)
submit-tested effect false false false true h = (3, lit< tt, refl)
submit-tested effect false false false false h = tt

submit-within : {I A : Type 0} (functions : Functions I A) (tenant : Option Tenant) (number own opp depth : ℕ) → IfErr (lone functions tenant (Submit number (root_words own opp depth) frame_size)) (Contains ask_refusals)
submit-within functions None number own opp depth = (0, lit< tt, refl)
submit-within {I} functions (Some tenant) number own opp depth =
    submit-tested {X = Outcome I} (submitted tenant number (root_words own opp depth) frame_size) (not (is_frame_size (root_words own opp depth) frame_size)) (nat_le 256 (length tenant.jobs)) ((left tenant).nodes == 0) (nat_lt (left tenant).segments (charge frame_size)) refl

pub ask-refused : (before after : HallOf) (number own opp depth : ℕ) (answer : Result (DidOf Leaf) Refusal) → IsOneStep (jamboree before.grain) before.shared (Submit number (root_words own opp depth) frame_size) answer after.shared → IfErr answer (Contains ask_refusals)
ask-refused before after number own opp depth answer one = grind (arith, within, submit-within)
