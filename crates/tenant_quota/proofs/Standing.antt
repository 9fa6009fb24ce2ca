-- What entering, changing and releasing one tenant's account does to a sound book of reservations.
use Rattle.std.proofs.Common.{◌≡◌, ◌≢◌, ℕ, ◌-◌, false, List, Some, None, refl, ap, sym, subst, arith, ◌+◌, ◌*◌, true, ◌<◌, ◌≤◌, ◌⊎◌, inl, inr, Option, IsSome}
use Rattle.std.proofs.Common.{IsSomeAnd, IfSome}
use Rattle.tenant_quota.proofs.Common.{Account, option_map, sum_by, ReserveOf, IsWithinLimits, IsAbove, has_by_number, find_by_number, change_by_number}
use Rattle.tenant_quota.proofs.Common.{owner_of_account, fresh, raised_to, account_of, IsWithinReserve, reserved_segments, reserved_nodes, Reservations}
use Rattle.tenant_quota.proofs.Common.{admitted, changed, released, HasRoom, HasRoomFor, KeepsOtherAccounts, Admits, Raises, ChangesOnly, Releases, IsSoundBook}
use Rattle.numbered_list.proofs.Edits.{has-found, lacks-said, said-with-own, said-with-other, all-with, rising-with, length-with, sum_by-with}
use Rattle.numbered_list.proofs.Edits.{sum_by-with-same, said-without-own, said-without-other, all-without, rising-without, length-without, sum_by-without}
use Rattle.numbered_list.proofs.Edits.{said-inserted-own, said-inserted-other, all-inserted, rising-inserted, length-inserted, sum_by-inserted, said-found}
use Rattle.numbered_list.proofs.Edits.{put-changed, all-of}
use Rattle.tenant_quota.proofs.Places.{entry-of}

-- an entry with its account changed by f
abbrev entry_by : (Account → Account) → ℕ × Account → ℕ × Account
entry_by f e = (e.0, f e.1)

-- a new tenant

lacks : (t : ℕ) (es : List (ℕ × Account)) → account_of t es ≡ None → has_by_number owner_of_account t es ≡ false
lacks t es none = lacks-said owner_of_account (λ e. Some e.1) None t es (λ e is. cc) none

pub IsWithinReserve-fresh : (quota : ReserveOf) → IsWithinLimits quota → IsWithinReserve (fresh quota)
IsWithinReserve-fresh quota limits = grind arith

-- other accounts, where no other tenant's has changed
others-by : {b : Reservations} {accounts : List (ℕ × Account)} {t : ℕ} → ((q : ℕ) → q ≢ t → account_of q accounts ≡ account_of q b.accounts) →
    KeepsOtherAccounts b (record b { accounts = accounts }) t
others-by others = record { segments = refl; nodes = refl; others = others }

module _ (b : Reservations) (t : ℕ) (quota : ReserveOf) where
  pub KeepsOtherAccounts-admitted : KeepsOtherAccounts b (admitted b t quota) t
  KeepsOtherAccounts-admitted = others-by (λ q other. said-inserted-other owner_of_account (λ e. Some e.1) None q (t, fresh quota) b.accounts (λ e. other (sym e)))

  module _ (none : account_of t b.accounts ≡ None) where
    pub Admits-admitted : Admits b (admitted b t quota) t quota
    Admits-admitted = record {
      whole = refl;
      account = said-inserted-own owner_of_account (λ e. Some e.1) None (t, fresh quota) b.accounts (lacks t b.accounts none);
      tenants = length-inserted owner_of_account (t, fresh quota) b.accounts;
      segments = sum_by-inserted (λ e. e.1.reserve.segments) owner_of_account (t, fresh quota) b.accounts;
      nodes = sum_by-inserted (λ e. e.1.reserve.nodes) owner_of_account (t, fresh quota) b.accounts;
      charged = omega (arith, sum_by-inserted (λ e. e.1.charged) owner_of_account (t, fresh quota) b.accounts);
    }

    pub IsSoundBook-admitted : IsWithinLimits quota → HasRoom b quota → IsSoundBook b → IsSoundBook (admitted b t quota)
    IsSoundBook-admitted limits room sound =
        let is = Admits-admitted in
        record {
          some_segments = sound.some_segments;
          segments_within = sound.segments_within;
          some_nodes = sound.some_nodes;
          nodes_within = sound.nodes_within;
          rising = rising-inserted owner_of_account (t, fresh quota) b.accounts sound.rising (lacks t b.accounts none);
          within = all-inserted (λ e. IsWithinReserve e.1) owner_of_account (t, fresh quota) b.accounts (IsWithinReserve-fresh quota limits) sound.within;
          tenants = omega (arith, is.tenants, room.tenants);
          segments_reserved = omega (arith, is.segments, room.segments);
          nodes_reserved = omega (arith, is.nodes, room.nodes);
        }

-- a changed account, where what is reserved stays

module _ (b : Reservations) (t : ℕ) (f : Account → Account) where
  pub KeepsOtherAccounts-changed : KeepsOtherAccounts b (changed b t f) t
  KeepsOtherAccounts-changed = others-by (λ q other. said-with-other owner_of_account (λ e. Some e.1) None q t (entry_by f) b.accounts (λ e. other (sym e)) (λ e is. is))

  module _ (keeps : (a : Account) → (f a).reserve ≡ a.reserve) where
    segments-kept : reserved_segments (changed b t f).accounts ≡ reserved_segments b.accounts
    segments-kept = sum_by-with-same (λ e. e.1.reserve.segments) owner_of_account t (entry_by f) b.accounts (λ e. ap (λ (q : ReserveOf). q.segments) (keeps e.1))

    nodes-kept : reserved_nodes (changed b t f).accounts ≡ reserved_nodes b.accounts
    nodes-kept = sum_by-with-same (λ e. e.1.reserve.nodes) owner_of_account t (entry_by f) b.accounts (λ e. ap (λ (q : ReserveOf). q.nodes) (keeps e.1))

    pub ChangesOnly-changed : ChangesOnly b (changed b t f) t f
    ChangesOnly-changed = record {
      whole = refl;
      account = said-with-own owner_of_account (λ e. Some e.1) None (option_map f) t (entry_by f) b.accounts (λ e is. is) (λ e. refl) (λ lacks. refl);
      rest = λ i. record {
        tenants = 64 - length-with owner_of_account t (entry_by f) b.accounts i;
        segments = b.segments - segments-kept i;
        nodes = b.nodes - nodes-kept i;
      };
    }

    pub IsSoundBook-changed : (a : Account) → account_of t b.accounts ≡ Some a → IsWithinReserve (f a) → IsSoundBook b → IsSoundBook (changed b t f)
    IsSoundBook-changed a is within sound = record {
      some_segments = sound.some_segments;
      segments_within = sound.segments_within;
      some_nodes = sound.some_nodes;
      nodes_within = sound.nodes_within;
      rising = rising-with owner_of_account t (entry_by f) b.accounts (λ e is. is) sound.rising;
      within = all-with (λ e. IsWithinReserve e.1) owner_of_account t (entry_by f) b.accounts sound.within
          (λ e had here. let same : e ≡ (t, a) = cc (here, entry-of t a b.accounts is) in subst (λ (x : ℕ × Account). IsWithinReserve (f x.1)) (sym same) within);
      tenants = omega (arith, length-with owner_of_account t (entry_by f) b.accounts, sound.tenants);
      segments_reserved = omega (arith, segments-kept, sound.segments_reserved);
      nodes_reserved = omega (arith, nodes-kept, sound.nodes_reserved);
    }

-- an account whose reservation is raised
module _ (b : Reservations) (t : ℕ) (quota : ReserveOf) (a : Account) (is : account_of t b.accounts ≡ Some a) where
  pub Raises-raised : Raises b (changed b t (raised_to quota)) t quota a.reserve
  Raises-raised =
      let raise = entry_by (raised_to quota) in
      let found = entry-of t a b.accounts is in
      record {
        whole = refl;
        account = said-with-own owner_of_account (λ e. Some e.1) None (option_map (raised_to quota)) t raise b.accounts (λ e is. is) (λ e. refl) (λ lacks. refl);
        tenants = length-with owner_of_account t raise b.accounts;
        segments = sum_by-with (λ e. e.1.reserve.segments) owner_of_account t raise (t, a) b.accounts found;
        nodes = sum_by-with (λ e. e.1.reserve.nodes) owner_of_account t raise (t, a) b.accounts found;
        charged = sum_by-with-same (λ e. e.1.charged) owner_of_account t raise b.accounts (λ e. refl);
      }

  pub IsSoundBook-raised : IsWithinLimits quota → IsAbove a.reserve quota → HasRoomFor b a.reserve quota → IsWithinReserve a → IsSoundBook b → IsSoundBook (changed b t (raised_to quota))
  IsSoundBook-raised limits above room within sound =
      let raises = Raises-raised in
      record {
        some_segments = sound.some_segments;
        segments_within = sound.segments_within;
        some_nodes = sound.some_nodes;
        nodes_within = sound.nodes_within;
        rising = rising-with owner_of_account t (entry_by (raised_to quota)) b.accounts (λ e is. is) sound.rising;
        within = grind (arith, all-with, entry-of);
        tenants = omega (arith, raises.tenants, sound.tenants);
        segments_reserved = omega (arith, raises.segments, room.segments);
        nodes_reserved = omega (arith, raises.nodes, room.nodes);
      }

-- a released tenant

pub KeepsOtherAccounts-released : (b : Reservations) (t : ℕ) → KeepsOtherAccounts b (released b t) t
KeepsOtherAccounts-released b t = others-by (λ q other. said-without-other owner_of_account (λ e. Some e.1) None q t b.accounts (λ e. other (sym e)))

module _ (b : Reservations) (t : ℕ) (a : Account) (is : account_of t b.accounts ≡ Some a) (sound : IsSoundBook b) where
  pub Releases-released : Releases b (released b t) t a
  Releases-released =
      let found = entry-of t a b.accounts is in
      record {
        whole = refl;
        account = said-without-own owner_of_account (λ e. Some e.1) None t b.accounts sound.rising;
        tenants = length-without owner_of_account t b.accounts (has-found owner_of_account t b.accounts (t, a) found);
        segments = sum_by-without (λ e. e.1.reserve.segments) owner_of_account t (t, a) b.accounts found;
        nodes = sum_by-without (λ e. e.1.reserve.nodes) owner_of_account t (t, a) b.accounts found;
        charged = sum_by-without (λ e. e.1.charged) owner_of_account t (t, a) b.accounts found;
      }

  pub IsSoundBook-released : IsSoundBook (released b t)
  IsSoundBook-released =
      let gone = Releases-released in
      record {
        some_segments = sound.some_segments;
        segments_within = sound.segments_within;
        some_nodes = sound.some_nodes;
        nodes_within = sound.nodes_within;
        rising = rising-without owner_of_account t b.accounts sound.rising;
        within = all-without (λ e. IsWithinReserve e.1) owner_of_account t b.accounts sound.within;
        tenants = omega (arith, gone.tenants, sound.tenants);
        segments_reserved = omega (arith, gone.segments, sound.segments_reserved);
        nodes_reserved = omega (arith, gone.nodes, sound.nodes_reserved);
      }

-- The account of a tenant in a sound book, and what a write of it does.

-- the entry has the tenant's account, which is within its reserve
pub record StandsFor (b : Reservations) (t : ℕ) (e : ℕ × Account) : Type 0 where
  pub account : account_of t b.accounts ≡ Some e.1
  pub within : IsWithinReserve e.1

pub some-of : (o : Option Account) → IsSome o → (a : Account) × (o ≡ Some a)
some-of None is = absurd cc
some-of (Some a) is = (a, refl)

pub is-some-of : (o : Option Account) (P : Account → Type 0) → IsSomeAnd o P → IsSome o
is-some-of None P is = absurd is
is-some-of (Some a) P is = refl

module _ {X : Type 0} (o : Option X) (P : X → Type 0) (x : X) (at : o ≡ Some x) where
  pub and-at : IsSomeAnd o P → P x
  and-at is = subst (λ y. IsSomeAnd y P) at is

  pub and-from : P x → IsSomeAnd o P
  and-from is = subst (λ y. IsSomeAnd y P) (sym at) is

-- other counts, each within what is reserved
pub within-with : (a : Account) (charged opened ticks : ℕ) → charged ≤ a.reserve.segments → opened ≤ a.reserve.nodes → ticks ≤ 16 * a.reserve.nodes →
    IsWithinReserve a → IsWithinReserve (record a { charged = charged; opened = opened; ticks = ticks })
within-with a charged opened ticks few some many within = grind arith

-- the tenant of an account has an entry
pub is-there : (b : Reservations) (t : ℕ) → IsSome (account_of t b.accounts) → has_by_number owner_of_account t b.accounts ≡ true
is-there b t there = let a = some-of (account_of t b.accounts) there in has-found owner_of_account t b.accounts (t, a.0) (entry-of t a.0 b.accounts a.1)

-- where nothing has changed
pub others-same : (b : Reservations) (t : ℕ) → KeepsOtherAccounts b b t
others-same b t = record { segments = refl; nodes = refl; others = λ other differs. refl }

-- the change of one account, seen in full
pub record IsChange (old new : Reservations) (t : ℕ) (f : Account → Account) : Type 0 where
  pub changes : ChangesOnly old new t f
  pub others : KeepsOtherAccounts old new t
  pub sound : IsSoundBook new
  pub segments : reserved_segments new.accounts ≡ reserved_segments old.accounts
  pub nodes : reserved_nodes new.accounts ≡ reserved_nodes old.accounts

change-facts : (b : Reservations) (t : ℕ) (f : Account → Account) (a : Account) → account_of t b.accounts ≡ Some a → ((x : Account) → (f x).reserve ≡ x.reserve) → IsWithinReserve (f a) → IsSoundBook b →
    IsChange b (changed b t f) t f
change-facts b t f a is keeps within sound = record {
  changes = ChangesOnly-changed b t f keeps;
  others = KeepsOtherAccounts-changed b t f;
  sound = IsSoundBook-changed b t f keeps a is within sound;
  segments = segments-kept b t f keeps;
  nodes = nodes-kept b t f keeps;
}

-- the raise of one reservation, seen in full
pub record IsRaise (old new : Reservations) (t : ℕ) (quota now : ReserveOf) : Type 0 where
  pub raises : Raises old new t quota now
  pub others : KeepsOtherAccounts old new t
  pub sound : IsSoundBook new

-- the accounts with another in the entry that was found
abbrev pub written : Reservations → ℕ → ℕ × Account → (Account → Account) → Reservations
written b t e f = record b { accounts = change_by_number owner_of_account t (λ x. (e.0, f e.1)) b.accounts }

-- the entry that was found
module _ (b : Reservations) (t : ℕ) (e : ℕ × Account) (found : find_by_number owner_of_account t b.accounts ≡ Some e) where
  pub stands-for : IsSoundBook b → StandsFor b t e
  stands-for sound = grind (arith, said-found, all-of)

  -- that changes the tenant's account
  written-is : (f : Account → Account) → changed b t f ≡ written b t e f
  written-is f = ap (λ (l : List (ℕ × Account)). record b { accounts = l }) (sym (put-changed owner_of_account t (λ x. (x.0, f x.1)) b.accounts e (e.0, f e.1) found refl))

  pub change-by-write : (f : Account → Account) → IsSoundBook b → ((x : Account) → (f x).reserve ≡ x.reserve) → IsWithinReserve (f e.1) → IsChange b (written b t e f) t f
  change-by-write f sound keeps within = subst (λ new. IsChange b new t f) (written-is f) (change-facts b t f e.1 (stands-for sound).account keeps within sound)

  pub sum_by-write : (g : ℕ × Account → ℕ) (f : Account → Account) → sum_by g (written b t e f).accounts + g e ≡ sum_by g b.accounts + g (e.0, f e.1)
  sum_by-write g f = sum_by-with g owner_of_account t (λ x. (e.0, f e.1)) e b.accounts found

  pub raise-by-write : (quota : ReserveOf) → IsSoundBook b → IsWithinLimits quota → IsAbove e.1.reserve quota → HasRoomFor b e.1.reserve quota → IsRaise b (written b t e (raised_to quota)) t quota e.1.reserve
  raise-by-write quota sound limits above room =
      let stands = stands-for sound in
      subst (λ new. IsRaise b new t quota e.1.reserve) (written-is (raised_to quota)) (record {
        raises = Raises-raised b t quota e.1 stands.account;
        others = KeepsOtherAccounts-changed b t (raised_to quota);
        sound = IsSoundBook-raised b t quota e.1 stands.account limits above room stands.within sound;
      })

pub if-from : {X : Type 0} (o : Option X) (P : X → Type 0) (x : X) → o ≡ Some x → P x → IfSome o P
if-from o P x at is = subst (λ y. IfSome y P) (sym at) is

-- one of two comparisons made in order
pub one-less : (a b m n : ℕ) → (a < m) ⊎ ((m ≤ a) × (b < n)) → (a < m) ⊎ (b < n)
one-less a b m n (inl less) = inl less
one-less a b m n (inr less) = inr less.1
