-- Answers for a row: the book at the end of a history, and one that isn't it.
use Rattle.site_desk.proofs.Common.{refl, ap, BookOf}
use Rattle.site_desk.proofs.RowLemmas.{other-plan}
use Rattle.site_desk.proofs.rows.histories_of_a_book.Goals as goal

pub returns-clause-by : goal.returns-clause-by
returns-clause-by c = (refl, (refl, (refl, tt)))

pub returns-clause-another_book : goal.returns-clause-another_book
returns-clause-another_book c = λ h. other-plan (ap (λ (b : BookOf). b.plan) h.0)
