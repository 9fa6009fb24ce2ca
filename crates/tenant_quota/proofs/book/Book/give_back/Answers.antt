-- The book of reservations takes segments back (`Book::give_back`): the tenant's charge goes down by them, within its
-- reservation, and no other account changes.
use Rattle.tenant_quota.proofs.Common.{ℕ, ◌-◌, ◌≤◌, sym, ◌∙◌, refl, arith, Account, account_of, credited_by, IsWithinReserve, held_by}
use Rattle.tenant_quota.proofs.Standing.{is-some-of, and-at, is-there, stands-for, within-with, IsChange, written, change-by-write, sum_by-write}
use Rattle.tenant_quota.proofs.book.Book.give_back.Given.{Over}
use Rattle.tenant_quota.proofs.book.Book.give_back.Goals.{After-get_mut}
use Rattle.tenant_quota.proofs.book.Book.give_back.Goals as goal

-- giving back keeps the account within its reserve
credited-within : (a : Account) (n : ℕ) → IsWithinReserve a → IsWithinReserve (credited_by n a)
credited-within a n within =
    within-with a (a.charged - n) a.opened a.ticks (omega (arith, within.charged_within)) within.opened_within within.ticks_within within

-- the write of a smaller charge
module _ (g : Over) (c : After-get_mut g) where
  change : IsChange (held_by c.self.inside) (written (held_by c.self.inside) c.args.tenant c.get_mut.result.now (credited_by c.args.segments)) c.args.tenant (credited_by c.args.segments)
  change =
      change-by-write (held_by c.self.inside) _ _ c.get_mut.ensures.value (credited_by c.args.segments) c.self.invariant.sound (λ x. refl) (credited-within c.get_mut.result.now.1 c.args.segments (stands-for (held_by c.self.inside) _ _ c.get_mut.ensures.value c.self.invariant.sound).within)

  less : c.args.segments ≤ c.get_mut.result.now.1.charged
  less = and-at (account_of c.args.tenant c.self.inside.accounts) (λ a. c.args.segments ≤ a.charged) _ (stands-for (held_by c.self.inside) _ _ c.get_mut.ensures.value c.self.invariant.sound).account (rw (← c.self.view_is) at c.requires)

pub get_mut-requires-clause-there : goal.get_mut-requires-clause-there
get_mut-requires-clause-there g c =
    is-there (held_by c.self.inside) c.args.tenant (is-some-of (account_of c.args.tenant c.self.inside.accounts) _ (rw (← c.self.view_is) at c.requires))

pub overflow_sub-get_mut : goal.overflow_sub-get_mut
overflow_sub-get_mut g c = less g (goal.at.overflow_sub-get_mut g c).After-get_mut

pub invariant_of-self : goal.invariant_of-self
invariant_of-self g c =
    let is = change g (goal.at.invariant_of-self g c).After-get_mut in
    record { sound = is.sound; segments = c.self.invariant.segments ∙ sym is.segments; nodes = c.self.invariant.nodes ∙ sym is.nodes }

pub returns : goal.returns
returns g c =
    let at = (goal.at.returns g c).After-get_mut in
    let is = change g at in
    let sum = sum_by-write (held_by c.self.inside) _ _ c.get_mut.ensures.value (λ x. x.1.charged) (credited_by c.args.segments) in
    record { credits = rw (← c.self.view_is) is.changes; sum = rw (← c.self.view_is) (omega (arith, sum, less g at)); others = rw (← c.self.view_is) is.others; sound = is.sound }
