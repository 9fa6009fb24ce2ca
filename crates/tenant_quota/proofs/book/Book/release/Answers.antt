-- A tenant leaves the book of reservations (`Book::release`): the removed entry is the tenant's.
use Rattle.tenant_quota.proofs.Common.{◌≡◌, Some, arith, account_of, Releases, released, held_by}
use Rattle.tenant_quota.proofs.Standing.{if-from, is-there, stands-for, Releases-released, KeepsOtherAccounts-released, IsSoundBook-released}
use Rattle.tenant_quota.proofs.book.Book.release.Given.{Over}
use Rattle.tenant_quota.proofs.book.Book.release.Goals.{After-remove-account}
use Rattle.tenant_quota.proofs.book.Book.release.Goals as goal

module _ (g : Over) (c : After-remove-account g) where
  account : account_of c.args.tenant c.self.inside.accounts ≡ Some c.remove-account.result.1
  account = (stands-for (held_by c.self.inside) _ _ c.remove-account.ensures.value c.self.invariant.sound).account

  releases : Releases (held_by c.self.inside) (released (held_by c.self.inside) c.args.tenant) c.args.tenant c.remove-account.result.1
  releases = Releases-released (held_by c.self.inside) c.args.tenant c.remove-account.result.1 account c.self.invariant.sound

pub remove-account-requires-clause-there : goal.remove-account-requires-clause-there
remove-account-requires-clause-there g c = is-there (held_by c.self.inside) c.args.tenant (rw (← c.self.view_is) at c.requires)

pub overflow_sub-self : goal.overflow_sub-self
overflow_sub-self g c =
    omega (arith, (releases g (goal.at.overflow_sub-self g c).After-remove-account).segments, c.self.invariant.segments, c.segments.ensures.value)

pub overflow_sub-self-2 : goal.overflow_sub-self-2
overflow_sub-self-2 g c =
    omega (arith, (releases g (goal.at.overflow_sub-self-2 g c).After-remove-account).nodes, c.self.invariant.nodes, c.nodes.ensures.value)

pub invariant_of-self : goal.invariant_of-self
invariant_of-self g c =
    let at = (goal.at.invariant_of-self g c).After-remove-account in
    let is = releases g at in
    rw c.remove-account.ensures.list (record {
      sound = IsSoundBook-released (held_by c.self.inside) c.args.tenant _ (account g at) c.self.invariant.sound;
      segments = omega (arith, is.segments, c.self.invariant.segments, c.segments.ensures.value);
      nodes = omega (arith, is.nodes, c.self.invariant.nodes, c.nodes.ensures.value);
    })

pub returns : goal.returns
returns g c =
    let at = (goal.at.returns g c).After-remove-account in
    rw (← c.self.view_is, c.remove-account.ensures.list) (record {
      releases = if-from (account_of c.args.tenant c.self.inside.accounts) _ c.remove-account.result.1 (account g at) (releases g at);
      others = KeepsOtherAccounts-released (held_by c.self.inside) c.args.tenant;
      sound = IsSoundBook-released (held_by c.self.inside) c.args.tenant _ (account g at) c.self.invariant.sound;
    })
