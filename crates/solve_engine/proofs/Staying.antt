-- What the one worker of `solve` offers is a worker's step or Spend, and where that is taken the core's tenant stays,
-- with what it reserved.
use Rattle.solve_engine.proofs.Common.{◌≡◌, ℕ, IfSome, Option, Some, None, Ok, refl, subst, arith, StepOf, Functions, Tenant, Outcome, lone_step, by-kinds, Action, Get, Bring, TakeIn, Finish as FinishRoot, Holding, Nothing, Next, Computing, GivingUp, step_of, offered, IsWork}
use Rattle.jamboree_rules.specs.declared.pool_rules.turn.Action.TheVariants.{Run}

-- for each action
action-work : (worker : ℕ) (action : Action) → IsWork (step_of worker action)
action-work worker (Get task) = grind arith
action-work worker (Run frame) = tt
action-work worker (Bring frame answer) = tt
action-work worker (TakeIn frame) = tt
action-work worker (FinishRoot frame) = tt

-- for all that it may hold
pub held-work : (worker : ℕ) (held : Holding) → IfSome (offered worker held) (λ step. IsWork step)
held-work worker Nothing = tt
held-work worker (Next action) = action-work worker action
held-work worker (Computing frame leaf) = tt
held-work worker (GivingUp action) = tt

-- a tenant is left, which reserves what it did
abbrev pub Stays : Tenant → Option Tenant → Type 0
Stays tenant None = ⊥
Stays tenant (Some after) = after.reserve ≡ tenant.reserve

-- each step of a worker, and Spend
pub step-stays : {I A : Type 0} (functions : Functions I A) (tenant : Tenant) (step : StepOf A) (outcome : Outcome I) → IsWork step →
    lone_step functions tenant step ≡ Ok outcome → Stays tenant outcome.0
step-stays {A = A} functions tenant step outcome work is = by-kinds functions tenant step outcome (Stays tenant) is (record {
  at_raise = λ number quota raises. absurd (subst Works raises work);
  at_submit = λ serials root frames. refl;
  at_work = λ serials frames. refl;
  at_finish = λ root words. refl;
  at_spend = λ serial f found. refl;
  at_cancel = λ number root found. refl;
  at_leave = λ number leaves. absurd (subst Works leaves work);
})
  where
    Works : StepOf A → Type 0
    Works step = IsWork step
