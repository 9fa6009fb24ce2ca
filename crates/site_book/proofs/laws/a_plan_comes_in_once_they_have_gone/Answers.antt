-- Of a site's book: another plan comes in once those have gone who were told to end, so the law
-- `a_plan_comes_in_once_they_have_gone`.
use Rattle.site_book.proofs.Common.{[], Told as those_told, remaining, told_by}
use Rattle.site_book.proofs.Keepings.{kept-new, let-in}
use Rattle.site_book.proofs.ComingLemmas.{left-kept}
use Rattle.site_book.proofs.laws.a_plan_comes_in_once_they_have_gone.Goals as goal

pub returns : goal.returns
returns c = λ book plan roll alike totals fit.
    let-in (record book { grants = remaining those_told book.grants (told_by plan [] book.grants roll) }) plan totals fit (left-kept plan [] book.grants roll (kept-new plan fit) alike).within
