-- Of a site's book: what is out is what was opened and hasn't ended, so the law `all_comes_back`.
use Rattle.site_book.proofs.Common.{ap, ◌∙◌, used, new_book, book_after_events}
use Rattle.site_book.proofs.RunLemmas.{names-run, no-names}
use Rattle.site_book.proofs.laws.all_comes_back.Goals as goal

pub returns : goal.returns
returns c = record {
  out = λ plan events. names-run (new_book plan) events;
  none = λ plan events none part. ap (used part) (no-names (book_after_events (new_book plan) events).grants (names-run (new_book plan) events ∙ none));
}
