-- A tenant comes to the book of reservations (`Book::reserve`): it has an entry then.
use Rattle.tenant_quota.proofs.Common.{◌≡◌, ◌≢◌, ℕ, ◌≤◌, ap, arith, Rest, ReserveOf, fresh, with_new, Reservations, unreserved_of, HasRoom, IsSoundBook, held_by}
use Rattle.tenant_quota.proofs.Standing.{Admits-admitted, KeepsOtherAccounts-admitted, IsSoundBook-admitted}
use Rattle.tenant_quota.proofs.book.Book.reserve.Given.{Over}
use Rattle.tenant_quota.proofs.book.Book.reserve.Goals.{After-insert}
use Rattle.tenant_quota.proofs.book.Book.reserve.Goals as goal

has-room : (b : Reservations) (quota : ReserveOf) (r : Rest) (segments nodes : ℕ) → IsSoundBook b → r ≡ unreserved_of b → r.tenants ≢ 0 →
    segments ≡ quota.segments → nodes ≡ quota.nodes → segments ≤ r.segments → nodes ≤ r.nodes → HasRoom b quota
has-room b quota r segments nodes sound rest some segments_are nodes_are enough_segments enough_nodes =
    let tenants_are = ap (λ (x : Rest). x.tenants) rest in
    let segments_rest = ap (λ (x : Rest). x.segments) rest in
    let nodes_rest = ap (λ (x : Rest). x.nodes) rest in
    record {
      tenants = omega arith;
      segments = omega (arith, sound.segments_reserved);
      nodes = omega (arith, sound.nodes_reserved);
    }

-- what a total and the places allow
module _ (g : Over) (c : After-insert g) where
  room : HasRoom (held_by c.self.inside) c.args.reserve
  room =
      has-room _ c.args.reserve c.rest-rest.result _ _ c.self.invariant.sound (rw (← c.self.view_is) at c.rest-rest.ensures.rest)
      c.if-rest-eq0.false c.segments-segments.ensures.value c.nodes-nodes.ensures.value c.if-rest-segments.false c.if-rest-nodes.false

  -- the entry of a new tenant
  list : c.insert.new.self ≡ with_new c.args.tenant (fresh c.args.reserve) c.self.inside.accounts
  list = rw c.new.ensures at c.insert.ensures

pub insert-requires-clause-room : goal.insert-requires-clause-room
insert-requires-clause-room g c =
    (has-room _ c.args.reserve c.rest-rest.result _ _ c.self.invariant.sound (rw (← c.self.view_is) at c.rest-rest.ensures.rest)
    c.if-rest-eq0.false c.segments-segments.ensures.value c.nodes-nodes.ensures.value c.if-rest-segments.false c.if-rest-nodes.false).tenants

pub invariant_of-self : goal.invariant_of-self
invariant_of-self g c =
    let at = (goal.at.invariant_of-self g c).After-insert in
    let none = rw (← c.self.view_is) at c.requires in
    let is = Admits-admitted (held_by c.self.inside) c.args.tenant c.args.reserve none in
    rw (list g at) (record {
      sound = IsSoundBook-admitted (held_by c.self.inside) c.args.tenant c.args.reserve none c.nodes-nodes.ensures.limits (room g at) c.self.invariant.sound;
      segments = omega (arith, is.segments, c.self.invariant.segments, c.segments-segments.ensures.value);
      nodes = omega (arith, is.nodes, c.self.invariant.nodes, c.nodes-nodes.ensures.value);
    })

pub returns-clause-admits : goal.returns-clause-admits
returns-clause-admits g c =
    rw (← c.self.view_is, list g (goal.at.returns-clause-admits g c).After-insert) (Admits-admitted (held_by c.self.inside) c.args.tenant c.args.reserve (rw (← c.self.view_is) at c.requires))

pub returns-clause-others : goal.returns-clause-others
returns-clause-others g c =
    rw (← c.self.view_is, list g (goal.at.returns-clause-others g c).After-insert) (KeepsOtherAccounts-admitted (held_by c.self.inside) c.args.tenant c.args.reserve)

pub returns-clause-sound : goal.returns-clause-sound
returns-clause-sound g c =
    let at = (goal.at.returns-clause-sound g c).After-insert in
    rw (list g at) (IsSoundBook-admitted (held_by c.self.inside) c.args.tenant c.args.reserve (rw (← c.self.view_is) at c.requires) c.nodes-nodes.ensures.limits (room g at) c.self.invariant.sound)
