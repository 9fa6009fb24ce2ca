-- A use of the promise on lists of searches (`nine_among_searches`): tenant 9 is what its own steps make of it alone,
-- and each of its frames is sound.
use Rattle.promise_uses.proofs.Common.{if-ok}
use Rattle.promise_uses.proofs.runs.nine_among_searches.Goals as goal

pub returns : goal.returns
returns g c = record {
  state = if-ok c.run.result (λ run headline. (headline.tenants.undisturbed 9).state) c.run.ensures.headline;
  told = if-ok c.run.result (λ run headline. (headline.tenants.undisturbed 9).replies) c.run.ensures.headline;
  left = if-ok c.run.result (λ run headline. headline.tenants.left) c.run.ensures.headline;
  frames = if-ok c.run.result (λ run headline tenant there. headline.sound 9 tenant there) c.run.ensures.headline;
}
