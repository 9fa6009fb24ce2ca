-- Instances of the premises of the laws on the book of a site's customers (`in_a_book`).
use Rattle.std.specs.Prelude.{[], ◌∷◌, refl}
use Rattle.site_book.specs.declared.event.BookEvent.TheVariants.{Opens, Closes}
use Rattle.site_book.specs.declared.who.Who.TheVariants.{Named, V4}
use Rattle.site_book.specs.Rows.{ask, small}
use Rattle.promise_uses.proofs.premises.in_a_book.Goals as goal

pub returns : goal.returns
returns c = record {
  raised = (V4 9, 3, record { who = V4 9; session = 3; ask = ask 4 50 } ∷ [], record { who = V4 9; session = 3; ask = ask 4 50 }, refl);
  opened = (small, Opens (Named 0) 1 (ask 10 100) ∷ [], V4 9, ask 4 50, refl, refl);
  raised_in = (small, Opens (Named 0) 3 (ask 5 50) ∷ [], Named 0, 3, ask 6 60, refl, refl);
  guest = (V4 9, refl);
  closed = (small, Opens (Named 0) 3 (ask 5 50) ∷ Closes (Named 0) 3 ∷ [], refl);
}
