-- A use of the site's law on refusals (`a_guest_at_its_limits`): a guest needs room in its own budget, its wider
-- network's and that of all guests.
use Rattle.promise_uses.proofs.Common.{refl, V4, V6}
use Rattle.promise_uses.proofs.customers.a_guest_at_its_limits.Goals as goal

pub returns : goal.returns
returns c =
    let law = c.a_refusal_is_ones_own.ensures in
    record {
      own = λ network plan ask grants none. ((law.opens plan (V6 network) ask grants).0 none).own.segments;
      network = λ network plan ask grants none. (((law.opens plan (V6 network) ask grants).0 none).network refl).sessions;
      together = λ address plan ask grants none. (((law.opens plan (V4 address) ask grants).0 none).guests refl).nodes;
      raised = λ address session plan ask grants held there none. (((law.raises plan (V4 address) session ask grants held there).0 none).left.guests refl).segments;
    }
