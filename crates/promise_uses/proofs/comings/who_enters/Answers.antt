-- A use of the site's law on who enters (`who_enters`): any customer and any guest enters exactly where the book
-- allows it.
use Rattle.site_book.specs.declared.who.Who.TheVariants.{Named, V4, V6}
use Rattle.promise_uses.proofs.comings.who_enters.Goals as goal

pub returns : goal.returns
returns c =
    let law = c.who_has_budget_enters.ensures in
    record {
      named = λ number plan grants roll ask now most may. law.enters plan grants roll (Named number) ask now most may;
      guest = λ network plan grants roll ask now most may. law.enters plan grants roll (V6 network) ask now most may;
      only_named = λ number plan grants roll ask now most entered. law.only plan grants roll (Named number) ask now most entered;
      only_guest = λ address plan grants roll ask now most entered. law.only plan grants roll (V4 address) ask now most entered;
    }
