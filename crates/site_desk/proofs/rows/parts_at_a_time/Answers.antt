-- Answers for a row: what some sessions may have and have, at the end of a history of the book.
use Rattle.site_desk.proofs.Common.{◌∷◌, [], refl, Opens, Replans}
use Rattle.site_book.specs.Rows.{ask, even, school}
use Rattle.site_desk.proofs.rows.parts_at_a_time.Goals as goal

pub returns-clause-first : goal.returns-clause-first
returns-clause-first c = ([], (refl, tt), refl, refl)

pub returns-clause-later : goal.returns-clause-later
returns-clause-later c = ((0, Opens school 1 (ask 5 100)) ∷ [], (refl, (refl, tt)), refl, refl)

pub returns-clause-by_another_plan : goal.returns-clause-by_another_plan
returns-clause-by_another_plan c = ((0, Replans even) ∷ [], (refl, (refl, tt)), refl, refl)
