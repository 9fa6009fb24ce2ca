-- Answers for a row: a look at the book's history adds no event of who looks.
use Rattle.site_desk.proofs.Common.{refl, ◌∷◌, [], Opens}
use Rattle.site_book.specs.Rows.{ask}
use Rattle.site_book.specs.declared.who.Who.TheVariants.{V4}
use Rattle.site_desk.proofs.rows.a_book_is_looked_at.Goals as goal

pub returns-clause-looked : goal.returns-clause-looked
returns-clause-looked c = ((((4, Opens (V4 7) 3 (ask 4 50)) ∷ [], refl), refl, refl, refl), (refl, (refl, (refl, tt))))

pub returns-clause-own : goal.returns-clause-own
returns-clause-own c = λ h. cc h.0.1

pub returns-clause-refused : goal.returns-clause-refused
returns-clause-refused c = λ h. cc h.1.1.0
