-- Answers for a row: a plan that came in, and what isn't one.
use Rattle.site_desk.proofs.Common.{◌≡◌, ◌∷◌, [], refl, sym, ◌∙◌, ap, subst, ℕ, List, Replans, BookEvent, PlanOf, Opens, book_at}
use Rattle.site_book.specs.Rows.{ask, even, one_sided, school}
use Rattle.site_book.specs.declared.who.Who.TheVariants.{Named}
use Rattle.site_desk.proofs.RowLemmas.{none-before, other-plan, other-replan, whose-reason}
use Rattle.site_desk.proofs.rows.plans_come_in.Goals as goal

pub returns-clause-came : goal.returns-clause-came
returns-clause-came c = (record { before = []; seen = refl; unmade = refl; mine = refl; granted = (refl, (refl, tt)) }, refl)

pub returns-clause-other_plan : goal.returns-clause-other_plan
returns-clause-other_plan c = λ h. other-replan h.0.mine

pub returns-clause-was_another : goal.returns-clause-was_another
returns-clause-was_another c = λ h. other-plan (sym (h.1 ∙ ap (λ (l : List (ℕ × BookEvent)). (book_at one_sided l).plan) (none-before h.0.before _ _ h.0.seen)))

pub returns-clause-beyond : goal.returns-clause-beyond
returns-clause-beyond c = ((0, Opens (Named 0) 1 (ask 10 100)) ∷ (1, Opens (Named 0) 2 (ask 10 100)) ∷ [], (refl, (refl, (refl, tt))), refl)

pub returns-clause-no_reason : goal.returns-clause-no_reason
returns-clause-no_reason c = λ h. whose-reason _ _ h.2
