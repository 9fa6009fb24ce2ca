-- Tenant 7's job 3: a worker goes on with it, or worker 5 with its own, as each of the 32 would.
use Rattle.std.proofs.Common.{arith, inl, inr}
use Rattle.promise_uses.proofs.going.job_three_of_seven.Goals as goal

pub returns : goal.returns
returns g c procedure shared shaped apart waits answers lives =
    elim (c.no_live_job_is_stuck.ensures procedure shared 7 3 8 shaped apart waits answers lives) [ inl job ↦ inl job | inr each ↦ inr (each 5 (omega arith) (omega arith)) ]
