-- Of a site's book: the events of others, who share no budget with a customer, change none of its answers and grants,
-- so the law `no_customer_is_disturbed`.
use Rattle.site_book.proofs.Common.{sym, ap, Named, same_who, is_guest, BookOf, new_book}
use Rattle.site_book.proofs.Isolation.{run-theirs, told-theirs, named-whole, guests-whole, guest-among}
use Rattle.site_book.proofs.laws.no_customer_is_disturbed.Goals as goal

pub returns : goal.returns
returns c = record {
  told = λ plan events number. told-theirs (same_who (Named number)) (same_who (Named number)) (λ w own. own) (named-whole number) (new_book plan) events;
  grants = λ plan events number. ap (λ (b : BookOf). b.grants) (sym (run-theirs (same_who (Named number)) (named-whole number) (new_book plan) events));
  guests_told = λ plan events guest is. told-theirs (same_who guest) is_guest (guest-among guest is) guests-whole (new_book plan) events;
  guests_grants = λ plan events. ap (λ (b : BookOf). b.grants) (sym (run-theirs is_guest guests-whole (new_book plan) events));
}
