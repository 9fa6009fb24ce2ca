-- A use of the site's law of isolation (`a_customer_and_the_guests`): a customer is told the same whatever others do,
-- and so are all guests together.
use Rattle.promise_uses.proofs.Common.{◌∙◌, sym, ap, refl, Named, V4, V6, same_who, new_book, book_after_events, answers_of}
use Rattle.promise_uses.proofs.customers.a_customer_and_the_guests.Goals as goal

pub returns : goal.returns
returns c =
    let law = c.no_customer_is_disturbed.ensures in
    record {
      told = λ number plan one other same.
          law.told plan one number ∙ ap (answers_of (same_who (Named number)) (new_book plan)) same ∙ sym (law.told plan other number);
      grants = λ number plan one other same.
          law.grants plan one number ∙ ap (λ events. (book_after_events (new_book plan) events).grants) same ∙ sym (law.grants plan other number);
      network = λ network plan one other same.
          law.guests_told plan one (V6 network) refl ∙ ap (answers_of (same_who (V6 network)) (new_book plan)) same ∙ sym (law.guests_told plan other (V6 network) refl);
      address = λ address plan one other same.
          law.guests_told plan one (V4 address) refl ∙ ap (answers_of (same_who (V4 address)) (new_book plan)) same ∙ sym (law.guests_told plan other (V4 address) refl);
      guests = λ plan one other same.
          law.guests_grants plan one ∙ ap (λ events. (book_after_events (new_book plan) events).grants) same ∙ sym (law.guests_grants plan other);
    }
