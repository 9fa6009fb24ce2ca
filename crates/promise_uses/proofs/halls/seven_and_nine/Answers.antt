-- A use of the promise on journals (`seven_and_nine`): tenants 7 and 9 with the same journals in two halls are in the
-- same state in both.
use Rattle.std.proofs.Common.{sym, ◌∙◌}
use Rattle.promise_uses.proofs.halls.seven_and_nine.Goals as goal

pub returns : goal.returns
returns g c = record {
  seven = λ grain journal tenant there. sym (c.same_journals.ensures grain 7 journal) ∙ there;
  nine = λ grain journal tenant there. c.same_journals.ensures grain 9 journal ∙ there;
  nobody = λ grain journal none. sym (c.same_journals.ensures grain 9 journal) ∙ none;
}
