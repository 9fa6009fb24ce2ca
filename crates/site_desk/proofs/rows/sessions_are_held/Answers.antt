-- Answers for a row: a session that is open has its grant, and a book without it isn't one of the history.
use Rattle.site_desk.proofs.Common.{refl}
use Rattle.site_book.specs.Rows.{school}
use Rattle.site_desk.proofs.Holding.{none_held}
use Rattle.site_desk.proofs.rows.sessions_are_held.Goals as goal

pub returns-clause-nobody : goal.returns-clause-nobody
returns-clause-nobody c = none_held _ _ refl

pub returns-clause-no_grant : goal.returns-clause-no_grant
returns-clause-no_grant c = λ h. cc (h.there 0 school 1 refl)

pub returns-clause-two_makers : goal.returns-clause-two_makers
returns-clause-two_makers c = λ h. cc (h.one 0 1 school 1 refl refl)

pub returns-clause-closed_by_another : goal.returns-clause-closed_by_another
returns-clause-closed_by_another c = λ h. cc (h.there 0 school 1 refl)
