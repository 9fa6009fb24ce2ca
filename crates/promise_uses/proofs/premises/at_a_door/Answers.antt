-- Instances of the premises of the laws on who asks for a session (`at_a_door`).
use Rattle.std.specs.Prelude.{[], ◌∷◌, refl}
use Rattle.site_book.specs.declared.refusal.BookRefusal.TheVariants.{OverGuests}
use Rattle.site_book.specs.declared.who.Who.TheVariants.{V4}
use Rattle.site_book.specs.Rows.{ask, small, one_sided, even}
use Rattle.site_book.specs.RollRows.{two_guests, guest, named_held, named_present}
use Rattle.promise_uses.proofs.premises.at_a_door.Goals as goal

pub returns : goal.returns
returns c = record {
  enters = (small, [], [], V4 9, ask 1 1, 100, 60, refl, refl);
  ends = (small, two_guests, guest 1 0 ∷ guest 2 90 ∷ [], V4 9, ask 1 1, 100, 60, 1, OverGuests, refl);
  refused = (small, two_guests, guest 1 90 ∷ guest 2 90 ∷ [], V4 9, ask 1 1, 100, 60, OverGuests, refl, refl);
  replanned = (record { plan = one_sided; grants = named_held 3 10 ∷ [] }, even, named_present 3 0 ∷ [], refl, refl, refl);
}
