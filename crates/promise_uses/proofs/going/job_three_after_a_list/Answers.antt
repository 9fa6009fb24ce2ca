-- After a list of steps on a new core: tenant 7's frame 12 and tenant 9's job 3, as any other.
use Rattle.std.proofs.Common.{Err, IfOk, Ok, Result, arith, inl, inr}
use Rattle.promise_uses.proofs.going.job_three_after_a_list.Goals as goal

if-ok : {X E : Type 0} {P Q : X → Type 0} (result : Result X E) → ((x : X) → P x → Q x) → IfOk result P → IfOk result Q
if-ok (Ok x) each holds = each x holds
if-ok (Err error) each holds = tt

pub returns-clause-waits : goal.returns-clause-waits
returns-clause-waits g c = if-ok c.run.result (λ core waits tenant frame at found is. waits 7 tenant at 12 frame found is) c.run.ensures.waits

pub returns-clause-going : goal.returns-clause-going
returns-clause-going g c = if-ok c.run.result (λ core going answers lives.
    elim (going answers 9 3 8 lives) [ inl job ↦ inl job | inr each ↦ inr (each 5 (omega arith) (omega arith)) ]) c.run.ensures.going
