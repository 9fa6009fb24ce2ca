-- A step that would not be refused is taken.
use Rattle.onward.proofs.Common.{Bool, None, Ok, Result, ap, arith, false, refl, sym, true, ◌∙◌, ◌≡◌, CoreState, Outcome, StepOf, lone, tenant_in}
use Rattle.std.proofs.Common.{Err}
use Rattle.std.specs.Prelude.{is_ok}
use Rattle.sched_rules.specs.declared.refusal.Refusal.{Refusal}
use Rattle.sched_rules.specs.declared.step.DidOf.{DidOf}
use Rattle.sched_rules.specs.Cores.{meets_busy, shared_refusal, unless_busy}
use Rattle.sched_rules.specs.Functions.{Functions}
use Rattle.sched_rules.specs.Headline.{IsAnswerTo, IsAnswerToStep, is_admission}
use Rattle.sched_rules.specs.Lone.{refusal_in}
use Rattle.sched_rules.specs.Runs.{tenant_of}
use Rattle.sched_rules.proofs.Isolation.{step_result-step}

pub taken : {I A : Type 0} (functions : Functions I A) (shared : CoreState) (step : StepOf A) (answer : Result (DidOf I) Refusal) → IsAnswerTo functions shared step answer →
    is_admission step ≡ false → shared_refusal functions shared step ≡ None → is_ok answer ≡ true
taken {I} functions shared step answer right other none =
    by (lone functions (tenant_in shared.tenants (tenant_of step)) step) refl (meets_busy step shared.tenants) refl (sym (ap refusal_in (step_result-step functions shared step other)) ∙ none)
  where
    by : (alone : Result (Outcome I) Refusal) → lone functions (tenant_in shared.tenants (tenant_of step)) step ≡ alone → (busy : Bool) → meets_busy step shared.tenants ≡ busy →
        refusal_in (unless_busy busy alone) ≡ None → is_ok answer ≡ true
    by (Err refusal) is busy meets none = absurd cc
    by (Ok outcome) is true meets none = absurd cc
    by (Ok outcome) is false meets none = grind arith
