-- The book of reservations finds a tenant's account (`Book::account`): what the list finds is the tenant's entry.
use Rattle.tenant_quota.proofs.Common.{ap, ◌∙◌, sym, option_copied, option_map}
use Rattle.tenant_quota.proofs.Places.{entry-found}
use Rattle.tenant_quota.proofs.book.Book.account.Goals as goal

pub returns-in-Some-clause-account : goal.returns-in-Some-clause-account
returns-in-Some-clause-account g c = rw (← c.self.view_is) (ap (λ o. option_map (λ e. e.1) (option_copied o)) (sym c.in-Some.is) ∙ entry-found c.args.tenant c.self.inside.accounts _ c.get.ensures)

pub returns-in-None-clause-account : goal.returns-in-None-clause-account
returns-in-None-clause-account g c = rw (← c.self.view_is) (ap (λ o. option_map (λ e. e.1) (option_copied o)) (sym c.in-None.is) ∙ entry-found c.args.tenant c.self.inside.accounts _ c.get.ensures)
