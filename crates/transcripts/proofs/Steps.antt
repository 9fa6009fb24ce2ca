-- For the player of texts: what the worker of its desk offers is a worker's step.
use Rattle.std.proofs.Common.{◌≡◌, ℕ, true, false, ◌==◌, if◌then◌else◌, IfSome, refl}
use Rattle.sched_rules.specs.declared.step.StepOf.TheVariants.{Take, Steal}
use Rattle.jamboree_rules.specs.declared.leaf.LeafAnswer.{LeafAnswer}
use Rattle.jamboree_rules.specs.declared.pool_rules.turn.Action.{Action}
use Rattle.jamboree_rules.specs.declared.pool_rules.turn.Action.TheVariants.{Get, Run, Bring, TakeIn, Finish}
use Rattle.jamboree_rules.specs.declared.pool_rules.turn.Holding.{Holding}
use Rattle.jamboree_rules.specs.declared.pool_rules.turn.Holding.TheVariants.{Nothing, Next, Computing, GivingUp}
use Rattle.jamboree_rules.specs.pool_rules.Turns.{step_of, offered}
use Rattle.hall.specs.Journals.{is_worker_step}

-- for each action
worker-step_of : (worker : ℕ) (action : Action) → is_worker_step (step_of worker action) ≡ true
worker-step_of worker (Get task) = elim (task.home == worker) as (λ own. is_worker_step {A = LeafAnswer} (if own then Take worker task.frame else Steal worker task.home task.frame) ≡ true) [ true ↦ refl | false ↦ refl ]
worker-step_of worker (Run frame) = refl
worker-step_of worker (Bring frame answer) = refl
worker-step_of worker (TakeIn frame) = refl
worker-step_of worker (Finish frame) = refl

-- for all that it may hold
pub worker_offered : (worker : ℕ) (holding : Holding) → IfSome (offered worker holding) (λ step. is_worker_step step ≡ true)
worker_offered worker Nothing = tt
worker_offered worker (Next action) = worker-step_of worker action
worker_offered worker (Computing frame leaf) = tt
worker_offered worker (GivingUp action) = refl
