-- A use of the site's law on refusals (`a_customer_at_its_limits`): of each kind, the last that a customer's budget
-- has is granted and one more is refused.
use Rattle.promise_uses.proofs.Common.{false≢true, Named}
use Rattle.promise_uses.proofs.customers.a_customer_at_its_limits.Goals as goal

pub returns : goal.returns
returns c =
    let law = c.a_refusal_is_ones_own.ensures in
    record {
      granted = λ number plan ask grants none. ((law.opens plan (Named number) ask grants).0 none).own.sessions;
      segments = λ number plan ask grants none. ((law.opens plan (Named number) ask grants).0 none).own.segments;
      nodes = λ number plan ask grants none. ((law.opens plan (Named number) ask grants).0 none).own.nodes;
      allowed = λ number plan ask grants one two three. (law.opens plan (Named number) ask grants).1
          (record { own = record { sessions = one; segments = two; nodes = three }; network = λ wrong. absurd (false≢true wrong); guests = λ wrong. absurd (false≢true wrong) });
      raised = λ number session plan ask grants held there none. ((law.raises plan (Named number) session ask grants held there).0 none).left.own.nodes;
    }
