-- The book of reservations counts a tenant's step (`Book::tick`): one that it has left is counted in its account;
-- without one it is refused.
use Rattle.tenant_quota.proofs.Common.{◌≡◌, ◌≢◌, ◌+◌, sym, ◌∙◌, ap, refl, arith, put-same, Account, Left, owner_of_account, ticked, left_in, IsWithinReserve}
use Rattle.tenant_quota.proofs.Common.{held_by}
use Rattle.tenant_quota.proofs.Standing.{StandsFor, is-there, stands-for, others-same, within-with, IsChange, written, change-by-write, sum_by-write}
use Rattle.tenant_quota.proofs.book.Book.tick.Given.{Over}
use Rattle.tenant_quota.proofs.book.Book.tick.Goals.{After-left}
use Rattle.tenant_quota.proofs.book.Book.tick.Goals as goal

ticked-within : (a : Account) (l : Left) → l ≡ left_in a → l.steps ≢ 0 → IsWithinReserve a → IsWithinReserve (ticked a)
ticked-within a l is some_left within =
    let steps_are = ap (λ (x : Left). x.steps) is in
    within-with a a.charged a.opened (a.ticks + 1) within.charged_within within.opened_within (omega (arith, within.ticks_within)) within

-- the entry that was found, and the write of one more step into it
module _ (g : Over) (c : After-left g) where
  here : StandsFor (held_by c.self.inside) c.args.tenant c.get_mut.result.now
  here = stands-for (held_by c.self.inside) _ _ c.get_mut.ensures.value c.self.invariant.sound

  fits : c.left.result.steps ≢ 0 → IsWithinReserve (ticked c.get_mut.result.now.1)
  fits some = ticked-within c.get_mut.result.now.1 c.left.result c.left.ensures some (here).within

  change : c.left.result.steps ≢ 0 → IsChange (held_by c.self.inside) (written (held_by c.self.inside) c.args.tenant c.get_mut.result.now ticked) c.args.tenant ticked
  change some = change-by-write (held_by c.self.inside) _ _ c.get_mut.ensures.value ticked c.self.invariant.sound (λ x. refl) (fits some)

pub get_mut-requires-clause-there : goal.get_mut-requires-clause-there
get_mut-requires-clause-there g c = is-there (held_by c.self.inside) c.args.tenant (rw (← c.self.view_is) at c.requires)

pub left-requires : goal.left-requires
left-requires g c = (stands-for (held_by c.self.inside) _ _ c.get_mut.ensures.value c.self.invariant.sound).within

pub invariant_of-self : goal.invariant_of-self
invariant_of-self g c = rw (put-same owner_of_account _ _ _ c.get_mut.ensures.value) c.self.invariant

pub returns-then-left-eq0 : goal.returns-then-left-eq0
returns-then-left-eq0 g c =
    let steps = ap (λ (x : Left). x.steps) c.left.ensures in
    let at = (goal.at.returns-then-left-eq0 g c).After-left in
    let account = (here g at).account in
    rw (put-same owner_of_account _ _ _ c.get_mut.ensures.value) (record {
      ok = rw (← c.self.view_is, account) (λ never. absurd cc, λ has. absurd (omega (arith, has, steps, c.if-left-eq0.true)));
      short = rw (← c.self.view_is, account) (λ _. sym steps ∙ c.if-left-eq0.true, λ _. refl);
      ticks = tt;
      sum = rw (← c.self.view_is) refl;
      others = rw (← c.self.view_is) (others-same (held_by c.self.inside) c.args.tenant);
      err = c.self.view_is;
      sound = c.self.invariant.sound;
    })

pub overflow_add-account : goal.overflow_add-account
overflow_add-account g c =
    let fit = fits g (goal.at.overflow_add-account g c).After-left c.if-left-eq0.false in
    omega (arith, fit.ticks_within, fit.nodes_within)

pub invariant_of-self-2 : goal.invariant_of-self-2
invariant_of-self-2 g c =
    let is = change g (goal.at.invariant_of-self-2 g c).After-left c.if-left-eq0.false in
    record { sound = is.sound; segments = c.self.invariant.segments ∙ sym is.segments; nodes = c.self.invariant.nodes ∙ sym is.nodes }

pub returns : goal.returns
returns g c =
    let at = (goal.at.returns g c).After-left in
    let is = change g at c.if-left-eq0.false in
    let steps = ap (λ (x : Left). x.steps) c.left.ensures in
    record {
      ok = rw (← c.self.view_is, (here g at).account) (λ _. omega (arith, steps, c.if-left-eq0.false), λ _. refl);
      short = rw (← c.self.view_is, (here g at).account) (λ never. absurd cc, λ out. absurd (c.if-left-eq0.false (steps ∙ out)));
      ticks = rw (← c.self.view_is) is.changes;
      sum = rw (← c.self.view_is) (omega (arith, sum_by-write (held_by c.self.inside) _ _ c.get_mut.ensures.value (λ x. x.1.charged) ticked));
      others = rw (← c.self.view_is) is.others;
      err = tt;
      sound = is.sound;
    }
