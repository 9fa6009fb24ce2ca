-- Of a site's book: after any events each customer is within its budget, so the law `nobody_is_over_budget`.
use Rattle.site_book.proofs.Common.{new_book}
use Rattle.site_book.proofs.Keepings.{kept-new, kept-few}
use Rattle.site_book.proofs.RunLemmas.{kept-run, totals-run}
use Rattle.site_book.proofs.laws.nobody_is_over_budget.Goals as goal

pub returns : goal.returns
returns c = record {
  within = λ plan events fit part. (kept-run (new_book plan) events (kept-new plan fit)).within part;
  totals = λ plan events. totals-run (new_book plan) events;
  few = λ plan events fit. kept-few _ _ (kept-run (new_book plan) events (kept-new plan fit));
}
