-- Of a site's book: who is refused would have no room even without those told to end, so the law
-- `who_is_refused_has_no_room`.
use Rattle.site_book.proofs.Common.{ap, ◌∙◌, sym, OverGuests, why_over}
use Rattle.site_book.proofs.ComingLemmas.{refused-now, refused-then, refused-idle, nobody-idle}
use Rattle.site_book.proofs.laws.who_is_refused_has_no_room.Goals as goal

pub returns-clause-now : goal.returns-clause-now
returns-clause-now c = λ plan grants roll who ask now most refusal is. refused-now _ _ _ _ refusal is

pub returns-clause-then : goal.returns-clause-then
returns-clause-then c = λ plan grants roll who ask now most refusal is none. refused-then _ _ _ _ refusal is none

pub returns-clause-idle : goal.returns-clause-idle
returns-clause-idle c = λ plan grants roll who ask now most is none.
    refused-then _ _ _ _ OverGuests is (ap (why_over plan who ask) (sym (nobody-idle now most grants roll (refused-idle _ _ _ _ is none))) ∙ none)
