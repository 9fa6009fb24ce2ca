-- Answers for a row: what a new session's maker has seen, and what it can't have.
use Rattle.site_desk.proofs.Common.{◌∷◌, [], refl, Opens}
use Rattle.site_book.specs.Rows.{ask}
use Rattle.site_book.specs.declared.who.Who.TheVariants.{V4}
use Rattle.site_desk.proofs.RowLemmas.{first-of-two, not-nothing, other-amount}
use Rattle.site_desk.proofs.rows.sessions_are_opened.Goals as goal

pub returns-clause-opened : goal.returns-clause-opened
returns-clause-opened c = record { before = (0, Opens (V4 7) 1 (ask 4 50)) ∷ []; seen = refl; unmade = refl; mine = refl; granted = (refl, (refl, (refl, tt))) }

pub returns-clause-other_amount : goal.returns-clause-other_amount
returns-clause-other_amount c = λ h. other-amount h.mine

pub returns-clause-other_number : goal.returns-clause-other_number
returns-clause-other_number c = λ h. cc h.mine

pub returns-clause-unseen : goal.returns-clause-unseen
returns-clause-unseen c = λ h. not-nothing h.before _ h.seen

pub returns-clause-refused : goal.returns-clause-refused
returns-clause-refused c = λ h. cc h.granted.1.0

pub returns-clause-made_before : goal.returns-clause-made_before
returns-clause-made_before c = λ h. (let e = rw (first-of-two h.before _ _ _ h.seen) at h.unmade in cc e)
