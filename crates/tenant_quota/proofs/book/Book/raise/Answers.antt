-- The book raises a tenant's reservation (`Book::raise`): one above its own that the totals allow is written into its
-- account; any other is refused.
use Rattle.tenant_quota.proofs.Common.{◌≡◌, ℕ, ◌-◌, ◌<◌, ◌≤◌, ◌⊎◌, inl, inr, Some, ap, ◌∙◌, refl, arith, option_map, ReserveOf, IsAbove, IsNotAbove}
use Rattle.tenant_quota.proofs.Common.{IsWithinLimits, owner_of_account, raised_to, Account, Rest, Reservations, reserve_of, unreserved_of, HasRoomFor}
use Rattle.tenant_quota.proofs.Common.{IsBeyond, CanRaise, IsTooMuch, IsLower, IsSoundBook, held_by, find_by_number, put-same}
use Rattle.tenant_quota.proofs.Standing.{and-at, and-from, if-from, is-there, stands-for, others-same, IsRaise, written, raise-by-write, one-less}
use Rattle.tenant_quota.proofs.book.Book.raise.Given.{Over}
use Rattle.tenant_quota.proofs.book.Book.raise.Goals.{After-get_mut, Joined-then-rest-segments, then-rest-segments-via-then-rest-segments}
use Rattle.tenant_quota.proofs.book.Book.raise.Goals.{then-rest-segments-via-else-rest-segments+then-rest-nodes}
use Rattle.tenant_quota.proofs.book.Book.raise.Goals as goal

module _ (now quota : ReserveOf) where
  not-above : (IsAbove now quota → ⊥) → IsNotAbove now quota
  not-above never = grind arith

  not-both : IsAbove now quota → IsNotAbove now quota → ⊥
  not-both above (inl less) = omega (arith, above.segments)
  not-both above (inr (inl less)) = omega (arith, above.nodes)
  not-both above (inr (inr same)) = elim above.one [ inl more ↦ omega (arith, same.0) | inr more ↦ omega (arith, same.1) ]

-- what is asked isn't above what the tenant has reserved
record IsTooLittle (b : Reservations) (t : ℕ) (quota : ReserveOf) : Type 0 where
  lower : IsLower b t quota
  taken : CanRaise b t quota → ⊥
  much : IsTooMuch b t quota → ⊥

too-little : (b : Reservations) (t : ℕ) (quota now : ReserveOf) → reserve_of t b ≡ Some now → (IsAbove now quota → ⊥) → IsTooLittle b t quota
too-little b t quota now is never = record {
  lower = and-from (reserve_of t b) (λ (q : ReserveOf). IsNotAbove q quota) now is (not-above now quota never);
  taken = λ can. never (and-at (reserve_of t b) (λ (q : ReserveOf). IsAbove q quota × HasRoomFor b q quota) now is can).0;
  much = λ much. never (and-at (reserve_of t b) (λ (q : ReserveOf). IsAbove q quota × IsBeyond b q quota) now is much).0;
}

-- a total doesn't allow what is asked
record IsRefused (b : Reservations) (t : ℕ) (quota : ReserveOf) : Type 0 where
  much : IsTooMuch b t quota
  taken : CanRaise b t quota → ⊥
  little : IsLower b t quota → ⊥

refused : (b : Reservations) (t : ℕ) (quota now : ReserveOf) → reserve_of t b ≡ Some now → IsAbove now quota → IsBeyond b now quota → IsRefused b t quota
refused b t quota now is above beyond = record {
  much = and-from (reserve_of t b) (λ (q : ReserveOf). IsAbove q quota × IsBeyond b q quota) now is (above, beyond);
  taken = λ can. let room = (and-at (reserve_of t b) (λ (q : ReserveOf). IsAbove q quota × HasRoomFor b q quota) now is can).1 in elim beyond [ inl more ↦ omega (arith, room.segments) | inr more ↦ omega (arith, room.nodes) ];
  little = λ lower. not-both now quota above (and-at (reserve_of t b) (λ (q : ReserveOf). IsNotAbove q quota) now is lower);
}

module _ (b : Reservations) (quota now : ReserveOf) (r : Rest) (segments nodes : ℕ) (sound : IsSoundBook b) (rest : r ≡ unreserved_of b) where
  beyond-rest : IsAbove now quota → segments ≡ quota.segments - now.segments → nodes ≡ quota.nodes - now.nodes → (r.segments < segments) ⊎ (r.nodes < nodes) → IsBeyond b now quota
  beyond-rest above segments_are nodes_are (inl less) = let e = ap (λ (x : Rest). x.segments) rest in inl (omega (arith, sound.segments_reserved, above.segments))
  beyond-rest above segments_are nodes_are (inr less) = let e = ap (λ (x : Rest). x.nodes) rest in inr (omega (arith, sound.nodes_reserved, above.nodes))

  within-rest : IsAbove now quota → segments ≡ quota.segments - now.segments → nodes ≡ quota.nodes - now.nodes → segments ≤ r.segments → nodes ≤ r.nodes → HasRoomFor b now quota
  within-rest above segments_are nodes_are enough many =
      let e = ap (λ (x : Rest). x.segments) rest in
      let f = ap (λ (x : Rest). x.nodes) rest in
      record { segments = omega (arith, sound.segments_reserved, above.segments); nodes = omega (arith, sound.nodes_reserved, above.nodes) }

-- the reservation is raised
record IsRaised (b new : Reservations) (t : ℕ) (quota now : ReserveOf) : Type 0 where
  can : CanRaise b t quota
  little : IsLower b t quota → ⊥
  much : IsTooMuch b t quota → ⊥
  raise : IsRaise b new t quota now

raised : (b new : Reservations) (t : ℕ) (quota now : ReserveOf) → reserve_of t b ≡ Some now → IsAbove now quota → HasRoomFor b now quota → IsRaise b new t quota now → IsRaised b new t quota now
raised b new t quota now is above room raise = record {
  can = and-from (reserve_of t b) (λ (q : ReserveOf). IsAbove q quota × HasRoomFor b q quota) now is (above, room);
  little = λ lower. not-both now quota above (and-at (reserve_of t b) (λ (q : ReserveOf). IsNotAbove q quota) now is lower);
  much = λ much. let beyond = (and-at (reserve_of t b) (λ (q : ReserveOf). IsAbove q quota × IsBeyond b q quota) now is much).1 in elim beyond [ inl more ↦ omega (arith, room.segments) | inr more ↦ omega (arith, room.nodes) ];
  raise = raise;
}

-- a reservation that the rest of a total doesn't allow, and one that both allow, as the code compares them
module _ (b : Reservations) (t : ℕ) where
  too-much : (quota now : ReserveOf) (r : Rest) (s s_now n n_now : ℕ) → IsSoundBook b → reserve_of t b ≡ Some now → r ≡ unreserved_of b → IsAbove now quota →
      s ≡ quota.segments → s_now ≡ now.segments → n ≡ quota.nodes → n_now ≡ now.nodes →
      (r.segments < s - s_now) ⊎ ((s - s_now ≤ r.segments) × (r.nodes < n - n_now)) → IsRefused b t quota
  too-much quota now r s s_now n n_now sound is rest above s_is s_now_is n_is n_now_is less =
      refused b t quota now is above (beyond-rest b quota now r (s - s_now) (n - n_now) sound rest above (cc) (cc) (one-less _ _ _ _ less))

  allowed : (e : ℕ × Account) (quota : ReserveOf) (r : Rest) (s s_now n n_now : ℕ) → IsSoundBook b → find_by_number owner_of_account t b.accounts ≡ Some e →
      IsWithinLimits quota → r ≡ unreserved_of b → IsAbove e.1.reserve quota → s ≡ quota.segments → s_now ≡ e.1.reserve.segments → n ≡ quota.nodes →
      n_now ≡ e.1.reserve.nodes → s - s_now ≤ r.segments → n - n_now ≤ r.nodes → IsRaised b (written b t e (raised_to quota)) t quota e.1.reserve
  allowed e quota r s s_now n n_now sound found limits rest above s_is s_now_is n_is n_now_is enough many =
      let own : reserve_of t b ≡ Some e.1.reserve = ap (option_map (λ (a : Account). a.reserve)) (stands-for b t e found sound).account in
      let room = within-rest b quota e.1.reserve r (s - s_now) (n - n_now) sound rest above (cc) (cc) enough many in
      raised b _ t quota e.1.reserve own above room (raise-by-write b t e found quota sound limits above room)

-- the account that was read is the tenant's
module _ (g : Over) (c : After-get_mut g) where
  own : reserve_of c.args.tenant (held_by c.self.inside) ≡ Some c.get_mut.result.now.1.reserve
  own =
      ap (option_map (λ (a : Account). a.reserve)) (stands-for (held_by c.self.inside) _ _ c.get_mut.ensures.value c.self.invariant.sound).account

  -- what is asked isn't above what was read of the tenant's account
  few : (IsAbove c.get_mut.result.now.1.reserve c.args.reserve → ⊥) → IsTooLittle (held_by c.self.inside) c.args.tenant c.args.reserve
  few never = too-little (held_by c.self.inside) c.args.tenant c.args.reserve _ (own) never

pub overflow_sub-segments : goal.overflow_sub-segments
overflow_sub-segments g c = rw (c.segments.ensures.value, c.segments-2.ensures.value) (c.is_above.ensures.0 c.if-not-is_above.false).segments

pub overflow_sub-nodes : goal.overflow_sub-nodes
overflow_sub-nodes g c = rw (c.nodes.ensures.value, c.nodes-2.ensures.value) (c.is_above.ensures.0 c.if-not-is_above.false).nodes

-- nothing is written where it is refused
same : (g : Over) (c : Joined-then-rest-segments g) → c.then-rest-segments.self-inside ≡ c.self.inside
same g c =
    let back = ap (λ l. record c.self.inside { accounts = l }) (put-same owner_of_account _ _ _ c.get_mut.ensures.value) in
    elim c.then-rest-segments.branch [ then-rest-segments-via-then-rest-segments w ↦ w.self-inside-is ∙ back | then-rest-segments-via-else-rest-segments+then-rest-nodes w ↦ w.self-inside-is ∙ back ]

pub get_mut-requires-clause-there : goal.get_mut-requires-clause-there
get_mut-requires-clause-there g c = is-there (held_by c.self.inside) c.args.tenant (rw (← c.self.view_is) at c.requires)

pub invariant_of-self : goal.invariant_of-self
invariant_of-self g c = rw (put-same owner_of_account _ _ _ c.get_mut.ensures.value) c.self.invariant

pub invariant_of-self-then-rest-segments : goal.invariant_of-self-then-rest-segments
invariant_of-self-then-rest-segments g c = rw (same g c) c.self.invariant

pub returns-then-not-is_above : goal.returns-then-not-is_above
returns-then-not-is_above g c =
    let at = (goal.at.returns-then-not-is_above g c).After-get_mut in
    let less = few g at (λ above. let yes = c.is_above.ensures.1 above in absurd cc) in
    rw (put-same owner_of_account _ _ _ c.get_mut.ensures.value) (record {
      ok = rw (← c.self.view_is) (λ never. absurd cc, λ can. absurd (less.taken can));
      lower = rw (← c.self.view_is) (λ _. less.lower, λ _. refl);
      full = rw (← c.self.view_is) (λ never. absurd cc, λ much. absurd (less.much much));
      raises = tt;
      others = rw (← c.self.view_is) (others-same (held_by c.self.inside) c.args.tenant);
      err = c.self.view_is;
      sound = c.self.invariant.sound;
    })

pub returns-then-rest-segments : goal.returns-then-rest-segments
returns-then-rest-segments g c =
    let at = (goal.at.returns-then-rest-segments g c).After-get_mut in
    let many = too-much _ c.args.tenant c.args.reserve _ c.rest-rest.result _ _ _ _ c.self.invariant.sound (own g at) (rw (← c.self.view_is) at c.rest-rest.ensures.rest)
    (c.is_above.ensures.0 c.if-not-is_above.false) c.segments.ensures.value c.segments-2.ensures.value c.nodes.ensures.value c.nodes-2.ensures.value c.then-rest-segments.either in
    rw (same g c) (record {
      ok = rw (← c.self.view_is) (λ never. absurd cc, λ can. absurd (many.taken can));
      lower = rw (← c.self.view_is) (λ never. absurd cc, λ lower. absurd (many.little lower));
      full = rw (← c.self.view_is) (λ _. many.much, λ _. refl);
      raises = tt;
      others = rw (← c.self.view_is) (others-same (held_by c.self.inside) c.args.tenant);
      err = c.self.view_is;
      sound = c.self.invariant.sound;
    })

pub invariant_of-self-2 : goal.invariant_of-self-2
invariant_of-self-2 g c =
    let does = allowed _ _ c.get_mut.result.now c.args.reserve c.rest-rest.result _ _ _ _ c.self.invariant.sound c.get_mut.ensures.value c.segments.ensures.limits
    (rw (← c.self.view_is) at c.rest-rest.ensures.rest) (c.is_above.ensures.0 c.if-not-is_above.false) c.segments.ensures.value c.segments-2.ensures.value
    c.nodes.ensures.value c.nodes-2.ensures.value c.if-rest-segments.false c.if-rest-nodes.false in
    let above = c.is_above.ensures.0 c.if-not-is_above.false in
    let now = c.self.invariant in
    record {
      sound = does.raise.sound;
      segments = omega (arith, does.raise.raises.segments, now.segments, c.segments.ensures.value, c.segments-2.ensures.value, above.segments);
      nodes = omega (arith, does.raise.raises.nodes, now.nodes, c.nodes.ensures.value, c.nodes-2.ensures.value, above.nodes);
    }

pub returns : goal.returns
returns g c =
    let does = allowed _ _ c.get_mut.result.now c.args.reserve c.rest-rest.result _ _ _ _ c.self.invariant.sound c.get_mut.ensures.value c.segments.ensures.limits
    (rw (← c.self.view_is) at c.rest-rest.ensures.rest) (c.is_above.ensures.0 c.if-not-is_above.false) c.segments.ensures.value c.segments-2.ensures.value
    c.nodes.ensures.value c.nodes-2.ensures.value c.if-rest-segments.false c.if-rest-nodes.false in
    record {
      ok = rw (← c.self.view_is) (λ _. does.can, λ _. refl);
      lower = rw (← c.self.view_is) (λ never. absurd cc, λ lower. absurd (does.little lower));
      full = rw (← c.self.view_is) (λ never. absurd cc, λ much. absurd (does.much much));
      raises = rw (← c.self.view_is) (if-from (reserve_of c.args.tenant (held_by c.self.inside)) _ _ (own g (goal.at.returns g c).After-get_mut) does.raise.raises);
      others = rw (← c.self.view_is) does.raise.others;
      err = tt;
      sound = does.raise.sound;
    }
