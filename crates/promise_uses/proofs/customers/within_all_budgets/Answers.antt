-- A use of the site's law on budgets (`within_all_budgets`): customer, guest, all guests and all sessions together are
-- within what they may have.
use Rattle.promise_uses.proofs.Common.{subst, ◌≤◌, Own, Guests, All, Named, V6, used, new_book, book_after_events}
use Rattle.promise_uses.proofs.customers.within_all_budgets.Goals as goal

pub returns : goal.returns
returns c =
    let law = c.nobody_is_over_budget.ensures in
    record {
      named = λ number plan events fits. (law.within plan events fits (Own (Named number))).sessions;
      guest = λ network plan events fits. (law.within plan events fits (Own (V6 network))).nodes;
      guests = λ plan events fits. (law.within plan events fits Guests).segments;
      all = λ plan events fits.
          subst (λ amount. (used All (book_after_events (new_book plan) events).grants).nodes ≤ amount.nodes) (law.totals plan events) (law.within plan events fits All).nodes;
      few = λ plan events fits. law.few plan events fits;
    }
