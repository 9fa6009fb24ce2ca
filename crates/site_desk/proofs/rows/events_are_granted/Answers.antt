-- Answers for a row: events that a book grants, and ones that it doesn't.
use Rattle.site_desk.proofs.Common.{refl}
use Rattle.site_desk.proofs.rows.events_are_granted.Goals as goal

pub returns-clause-all : goal.returns-clause-all
returns-clause-all c = (refl, (refl, (refl, (refl, tt))))

pub returns-clause-another_plan : goal.returns-clause-another_plan
returns-clause-another_plan c = (refl, (refl, (refl, (refl, tt))))

pub returns-clause-over : goal.returns-clause-over
returns-clause-over c = λ h. cc h.1.1.0

pub returns-clause-nobody_raised : goal.returns-clause-nobody_raised
returns-clause-nobody_raised c = λ h. cc h.1.0

pub returns-clause-beyond : goal.returns-clause-beyond
returns-clause-beyond c = λ h. cc h.1.1.1.0

pub returns-clause-unfit : goal.returns-clause-unfit
returns-clause-unfit c = λ h. cc h.0

pub returns-clause-later : goal.returns-clause-later
returns-clause-later c = λ h. cc h.1.0
