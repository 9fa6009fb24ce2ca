-- A use of the promise on two lists (`nine_is_undisturbed`): tenants 7 and 9 are the same after both lists, where
-- their own steps are.
use Rattle.promise_uses.proofs.Common.{sym, ◌∙◌, if-ok}
use Rattle.promise_uses.proofs.runs.nine_is_undisturbed.Goals as goal

pub returns : goal.returns
returns g c = record {
  same = if-ok c.run_two.result (λ runs undisturbed own tenant there. sym (undisturbed 9 own).0 ∙ there) c.run_two.ensures.undisturbed;
  nobody = if-ok c.run_two.result (λ runs undisturbed own none. sym (undisturbed 9 own).0 ∙ none) c.run_two.ensures.undisturbed;
  answers = if-ok c.run_two.result (λ runs undisturbed own. (undisturbed 9 own).1) c.run_two.ensures.undisturbed;
  seven = if-ok c.run_two.result (λ runs undisturbed own. (undisturbed 7 own).1) c.run_two.ensures.undisturbed;
}
