-- At a site's desk: what comes of one whom the book allows, and who isn't admitted for all that.
use Rattle.site_desk.proofs.Common.{◌≡◌, ◌∙◌, ap, Enters, only_enters, Turned, ByBook, OldTenant, OutOfMemory, BookedOf, IsTurnedAway, SiteOf, IsCame, met}
use Rattle.site_book.specs.declared.coming.Comer.{Comer}
use Rattle.site_book.specs.declared.refusal.BookRefusal.{BookRefusal}
use Rattle.site_book.specs.Books.{why_over}
use Rattle.std.specs.Prelude.{Some}
use Rattle.site_desk.specs.declared.entry.SeatOutcome.TheVariants.{Turned as turned_away_as}

pub turned-away : (before after : SiteOf) (comer : Comer) (turned : Turned) → met before comer ≡ Enters → IsTurnedAway before.booked comer.who comer.ask turned after.booked → after ≡ record before { booked = after.booked }
    → IsCame before comer (turned_away_as turned) after
turned-away before after comer (ByBook refusal) enters h same = absurd (let none = only_enters _ _ _ _ enters in cc)
turned-away before after comer OldTenant enters h same = (enters, same ∙ ap (λ (b : BookedOf). record before { booked = b }) h.1, h)
turned-away before after comer OutOfMemory enters h same = (enters, same ∙ ap (λ (b : BookedOf). record before { booked = b }) h.1, h)

-- and one whom the book refuses isn't one whom it allows
pub not-refused : (site : SiteOf) (comer : Comer) (refusal : BookRefusal) → met site comer ≡ Enters → why_over site.booked.book.plan comer.who comer.ask site.booked.book.grants ≡ Some refusal → ⊥
not-refused site comer refusal enters h = let none = only_enters _ _ _ _ enters in cc
