-- Instances of the premises of the calls on lists of steps, at a hall and at a desk (`at_calls`).
use Rattle.std.specs.Prelude.{◌≢◌, List, [], ◌∷◌, None, Some, Ok, Result, refl}
use Rattle.std.proofs.Math.Dec.{lit≤}
use Rattle.tenant_quota.specs.Reserves.{ReserveOf}
use Rattle.sched_rules.specs.declared.refusal.Refusal.{Refusal}
use Rattle.sched_rules.specs.declared.step.DidOf.{DidOf}
use Rattle.sched_rules.specs.declared.step.DidOf.TheVariants.{Admitted}
use Rattle.sched_rules.specs.declared.step.StepOf.{StepOf}
use Rattle.sched_rules.specs.declared.step.StepOf.TheVariants.{Admit, Cancel, Submit}
use Rattle.jamboree_rules.specs.declared.leaf.Leaf.{Leaf}
use Rattle.jamboree_rules.specs.declared.leaf.LeafAnswer.{LeafAnswer}
use Rattle.jamboree_core.specs.Replies.{IsSearch}
use Rattle.jamboree_core.specs.Rows.{asked}
use Rattle.hall.specs.declared.desk_rules.asked.SeatAsked.{SeatAsked}
use Rattle.promise_uses.proofs.premises.at_calls.Goals as goal

abbrev quota : ReserveOf
quota = record { segments = 64; nodes = 64 }

abbrev both : List (StepOf LeafAnswer)
both = Admit 7 quota ∷ Admit 9 quota ∷ []

abbrev nines : List (StepOf LeafAnswer)
nines = Admit 9 quota ∷ []

abbrev two_came : List (Result (DidOf Leaf) Refusal)
two_came = Ok Admitted ∷ Ok Admitted ∷ []

abbrev one_came : List (Result (DidOf Leaf) Refusal)
one_came = Ok Admitted ∷ []

abbrev asks : StepOf LeafAnswer
asks = Submit 9 asked 12

search : IsSearch asks
search = (record { own = 34628173824; opp = 68853694464; depth = 1; are = refl; apart = refl; shallow = lit≤ tt }, refl)

abbrev opening : SeatAsked
opening = record { board = record { own = 34628173824; opp = 68853694464; disjoint = refl }; depth = 8 }

there : Some opening ≢ None
there e = absurd (cc e)

pub returns : goal.returns
returns c = record {
  same = (9, both, nines, two_came, one_came, refl);
  alone = (9, both, nines, two_came, one_came, refl, ((λ is. refl), tt));
  searches = (asks ∷ [], (search, tt));
  journals = (9, record { tenant = 9; places = 64; longs = 2; steps = nines } ∷ [], record { tenant = 7; places = 64; longs = 2; steps = [] } ∷ record { tenant = 9; places = 64; longs = 2; steps = nines } ∷ [], refl);
  search = (asks, search, refl);
  none_submitted = (Cancel 9 3, tt, refl);
  unasked = (opening ∷ [], 3, refl);
  asked = (opening ∷ [], 1, there);
  unasked_at_a_site = (opening ∷ [], 3, refl);
  asked_at_a_site = (opening ∷ [], 1, there);
}
