-- Of a tenant with several jobs that live, whose sums are within its reservation: none of its jobs can be spent, so the
-- law `who_asks_within_its_sums_is_never_spent`.
use Rattle.jamboree_core.proofs.Common.{ap, ◌∙◌, Option, refl, Tenant, LeafAnswer, jamboree, lone_refusal, Spend}
use Rattle.jamboree_core.proofs.EnoughBounds.{positions-enough, root-nodes, positions-roomy, root-segments}
use Rattle.jamboree_core.proofs.NeverSpent.{rooms-refused}
use Rattle.jamboree_core.proofs.OwnJournals.{own-journal}
use Rattle.jamboree_core.proofs.SeveralJobs.{sums-refused, each-refused}
use Rattle.jamboree_core.proofs.reserves.who_asks_within_its_sums_is_never_spent.Goals as goal

pub returns-clause-sums : goal.returns-clause-sums
returns-clause-sums c grain journal tenant number serial frame is searches sums at =
    sums-refused grain (positions-enough grain) (positions-roomy grain) (root-nodes grain) (root-segments grain) journal tenant is searches number serial frame at sums

pub returns-clause-beside : goal.returns-clause-beside
returns-clause-beside c grain totals steps answers number serial tenant frame answer right searches there sums at answered =
    let journal = own-journal (jamboree grain) number totals steps answers tenant right there in
    let refused = sums-refused grain (positions-enough grain) (positions-roomy grain) (root-nodes grain) (root-segments grain) _ tenant journal searches number serial frame at sums in
    (answered.1 refl).own_state _ (ap (λ (owner : Option Tenant). lone_refusal {A = LeafAnswer} (jamboree grain) owner (Spend (record { tenant = number; serial = serial }))) there ∙ refused)

pub returns-clause-asks : goal.returns-clause-asks
returns-clause-asks c grain journal tenant number serial frame is searches each at =
    each-refused grain (positions-enough grain) (positions-roomy grain) (root-nodes grain) (root-segments grain) journal tenant is searches number serial frame at each

pub returns-clause-rooms : goal.returns-clause-rooms
returns-clause-rooms c grain cost size journal tenant number serial frame enough roomy is searches each at =
    rooms-refused grain enough roomy journal tenant is searches number serial frame at each
