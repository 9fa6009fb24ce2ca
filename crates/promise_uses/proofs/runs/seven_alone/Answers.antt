-- A use of the promise on two lists (`seven_alone`): tenant 7 is among others what it is without them.
use Rattle.promise_uses.proofs.Common.{sym, ◌∙◌, if-ok}
use Rattle.promise_uses.proofs.runs.seven_alone.Goals as goal

pub returns : goal.returns
returns g c = record {
  same = if-ok c.run_two.result (λ runs alone own admitted tenant there. sym (alone 7 own admitted).0 ∙ there) c.run_two.ensures.alone;
  answers = if-ok c.run_two.result (λ runs alone own admitted. (alone 7 own admitted).1) c.run_two.ensures.alone;
  nine = if-ok c.run_two.result (λ runs alone own admitted. (alone 9 own admitted).1) c.run_two.ensures.alone;
}
