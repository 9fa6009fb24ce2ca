-- A use of the promise on any list of steps (`refusals`): tenant 7's Steal is refused for its own state, or as worker
-- 5 is busy for another; tenant 9's Spend for its own state alone.
use Rattle.promise_uses.proofs.Common.{refl, if-ok}
use Rattle.promise_uses.proofs.Parts.{of-seven, of-nine}
use Rattle.promise_uses.proofs.runs.refusals.Goals as goal

pub returns : goal.returns
returns g c = record {
  seven = if-ok c.run_any.result (λ run these before later said more home serial refusal steps answers as_many.
      of-seven c.args.procedure.grain before said home serial refusal (these before later said more _ refusal steps answers as_many refl)) c.run_any.ensures.refused;
  nine = if-ok c.run_any.result (λ run these before later said more serial refusal steps answers as_many.
      of-nine c.args.procedure.grain before said serial refusal (these before later said more _ refusal steps answers as_many refl)) c.run_any.ensures.refused;
}
