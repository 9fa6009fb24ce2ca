-- A use of the site's law on what comes back (`nobody_is_left`): with no session open nobody has anything.
use Rattle.promise_uses.proofs.Common.{ap, Own, Named, V4}
use Rattle.promise_uses.proofs.customers.nobody_is_left.Goals as goal

pub returns : goal.returns
returns c = record {
  out = λ plan events. c.all_comes_back.ensures.out plan events;
  named = λ number plan events none. ap (λ amount. amount.nodes) (c.all_comes_back.ensures.none plan events none (Own (Named number)));
  guest = λ address plan events none. ap (λ amount. amount.sessions) (c.all_comes_back.ensures.none plan events none (Own (V4 address)));
}
