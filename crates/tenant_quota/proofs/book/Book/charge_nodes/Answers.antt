-- The book of reservations charges a tenant nodes (`Book::charge_nodes`): what it has left is written into its
-- account, more is refused.
use Rattle.tenant_quota.proofs.Common.{◌≡◌, ℕ, ◌+◌, ◌<◌, ◌≤◌, ◌⊎◌, inl, inr, ap, sym, ◌∙◌, subst, refl, arith, put-same, Account, Left, owner_of_account}
use Rattle.tenant_quota.proofs.Common.{charged_by, left_in, IsWithinReserve, held_by}
use Rattle.tenant_quota.proofs.Standing.{StandsFor, is-there, stands-for, others-same, within-with, IsChange, written, change-by-write, sum_by-write, one-less}
use Rattle.tenant_quota.proofs.book.Book.charge_nodes.Given.{Over}
use Rattle.tenant_quota.proofs.book.Book.charge_nodes.Goals.{After-left-left, Joined-then-left-segments, then-left-segments-via-then-left-segments}
use Rattle.tenant_quota.proofs.book.Book.charge_nodes.Goals.{then-left-segments-via-else-left-segments+then-left-nodes}
use Rattle.tenant_quota.proofs.book.Book.charge_nodes.Goals as goal

charged-within : (a : Account) (l : Left) (segments nodes : ℕ) → l ≡ left_in a → segments ≤ l.segments → nodes ≤ l.nodes → IsWithinReserve a → IsWithinReserve (charged_by segments nodes a)
charged-within a l segments nodes is some_left more_left within =
    let segments_is = ap (λ (x : Left). x.segments) is in
    let nodes_is = ap (λ (x : Left). x.nodes) is in
    within-with a (a.charged + segments) (a.opened + nodes) a.ticks (omega (arith, within.charged_within)) (omega (arith, within.opened_within)) within.ticks_within within

-- the entry that was found, and the write of a greater charge into it
module _ (g : Over) (c : After-left-left g) where
  here : StandsFor (held_by c.self.inside) c.args.tenant c.get_mut.result.now
  here = stands-for (held_by c.self.inside) _ _ c.get_mut.ensures.value c.self.invariant.sound

  fits : c.args.segments ≤ c.left-left.result.segments → c.args.nodes ≤ c.left-left.result.nodes → IsWithinReserve (charged_by c.args.segments c.args.nodes c.get_mut.result.now.1)
  fits some more = charged-within c.get_mut.result.now.1 c.left-left.result c.args.segments c.args.nodes c.left-left.ensures some more (here).within

  change : c.args.segments ≤ c.left-left.result.segments → c.args.nodes ≤ c.left-left.result.nodes → IsChange (held_by c.self.inside) (written (held_by c.self.inside) c.args.tenant c.get_mut.result.now (charged_by c.args.segments c.args.nodes)) c.args.tenant (charged_by c.args.segments c.args.nodes)
  change some more = change-by-write (held_by c.self.inside) _ _ c.get_mut.ensures.value (charged_by c.args.segments c.args.nodes) c.self.invariant.sound (λ x. refl) (fits some more)

-- nothing is written where it is refused
same : (g : Over) (c : Joined-then-left-segments g) → c.then-left-segments.self-inside ≡ c.self.inside
same g c =
    let back = ap (λ l. record c.self.inside { accounts = l }) (put-same owner_of_account _ _ _ c.get_mut.ensures.value) in
    elim c.then-left-segments.branch [ then-left-segments-via-then-left-segments w ↦ w.self-inside-is ∙ back | then-left-segments-via-else-left-segments+then-left-nodes w ↦ w.self-inside-is ∙ back ]

pub get_mut-requires-clause-there : goal.get_mut-requires-clause-there
get_mut-requires-clause-there g c = is-there (held_by c.self.inside) c.args.tenant (rw (← c.self.view_is) at c.requires)

pub left-left-requires : goal.left-left-requires
left-left-requires g c = (stands-for (held_by c.self.inside) _ _ c.get_mut.ensures.value c.self.invariant.sound).within

pub invariant_of-self : goal.invariant_of-self
invariant_of-self g c = rw (same g c) c.self.invariant

pub returns-then-left-segments : goal.returns-then-left-segments
returns-then-left-segments g c =
    let account = (here g (goal.at.returns-then-left-segments g c).After-left-left).account in
    let less = subst (λ (l : Left). (l.segments < c.args.segments) ⊎ (l.nodes < c.args.nodes)) c.left-left.ensures (one-less _ _ _ _ c.then-left-segments.either) in
    rw (same g c) (record {
      ok = rw (← c.self.view_is, account) (λ never. absurd cc, λ has. absurd (elim less [ inl few ↦ omega (arith, few, has.0) | inr few ↦ omega (arith, few, has.1) ]));
      short = rw (← c.self.view_is, account) (λ _. less, λ _. refl);
      opened = tt;
      charges = tt;
      sum = tt;
      others = rw (← c.self.view_is) (others-same (held_by c.self.inside) c.args.tenant);
      err = c.self.view_is;
      sound = c.self.invariant.sound;
    })

pub overflow_add-account : goal.overflow_add-account
overflow_add-account g c =
    let fit = fits g (goal.at.overflow_add-account g c).After-left-left c.if-left-segments.false c.if-left-nodes.false in
    omega (arith, fit.charged_within, fit.segments_within)

pub overflow_add-account-2 : goal.overflow_add-account-2
overflow_add-account-2 g c =
    let fit = fits g (goal.at.overflow_add-account-2 g c).After-left-left c.if-left-segments.false c.if-left-nodes.false in
    omega (arith, fit.opened_within, fit.nodes_within)

pub invariant_of-self-2 : goal.invariant_of-self-2
invariant_of-self-2 g c =
    let is = change g (goal.at.invariant_of-self-2 g c).After-left-left c.if-left-segments.false c.if-left-nodes.false in
    record { sound = is.sound; segments = c.self.invariant.segments ∙ sym is.segments; nodes = c.self.invariant.nodes ∙ sym is.nodes }

pub returns : goal.returns
returns g c =
    let at = (goal.at.returns g c).After-left-left in
    let account = (here g at).account in
    let is = change g at c.if-left-segments.false c.if-left-nodes.false in
    let some = rw c.left-left.ensures at c.if-left-segments.false in
    let more = rw c.left-left.ensures at c.if-left-nodes.false in
    record {
      ok = rw (← c.self.view_is, account) (λ _. (some, more), λ _. refl);
      short = rw (← c.self.view_is, account) (λ never. absurd cc, λ short. absurd (elim short [ inl less ↦ omega (arith, less, some) | inr less ↦ omega (arith, less, more) ]));
      charges = rw (← c.self.view_is) is.changes;
      opened = rw (← c.self.view_is, account) refl;
      sum = rw (← c.self.view_is) (omega (arith, sum_by-write (held_by c.self.inside) _ _ c.get_mut.ensures.value (λ x. x.1.charged) (charged_by c.args.segments c.args.nodes)));
      others = rw (← c.self.view_is) is.others;
      err = tt;
      sound = is.sound;
    }
