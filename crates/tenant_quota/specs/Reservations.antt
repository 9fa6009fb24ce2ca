-- Meaning: what the book of reservations holds: the totals, and the account of each tenant that is there.
use Rattle.std.specs.Prelude.{◌≡◌, ◌≢◌, ℕ, ◌+◌, ◌-◌, ◌<◌, ◌≤◌, ◌⊎◌, List, [], length, Option, Some, None, IsSomeAnd, option_map}
use Rattle.tenant_quota.specs.Reserves.{ReserveOf, IsAbove, IsNotAbove}
use Rattle.tenant_quota.specs.declared.account.Account.{Account}
use Rattle.tenant_quota.specs.declared.account.Left.{Left}
use Rattle.tenant_quota.specs.declared.book.Rest.{Rest}
use Rattle.tenant_quota.specs.Accounts.{fresh, raised_to, left_in, account_of, with_new, with_changed, without, AllEntries, IsRising, IsWithinReserve, reserved_segments, reserved_nodes, charged_segments}

-- the totals of segments and nodes, and the tenants' accounts in rising order of tenants
pub record Reservations : Type 0 where
  pub segments : ℕ
  pub nodes : ℕ
  pub accounts : List (ℕ × Account)

-- a book of reservations with these totals and no tenant
abbrev pub empty_of : ℕ → ℕ → Reservations
empty_of segments nodes = record { segments = segments; nodes = nodes; accounts = [] }

-- the book with a new tenant, who has used nothing of what it reserves
abbrev pub admitted : Reservations → ℕ → ReserveOf → Reservations
admitted b tenant quota = record b { accounts = with_new tenant (fresh quota) b.accounts }

-- the book with one tenant's account changed by f
abbrev pub changed : Reservations → ℕ → (Account → Account) → Reservations
changed b tenant f = record b { accounts = with_changed tenant f b.accounts }

-- the book of reservations once this tenant has left
abbrev pub released : Reservations → ℕ → Reservations
released b tenant = record b { accounts = without tenant b.accounts }

-- what a tenant has left; None where it isn't there
abbrev pub left_in_book : ℕ → Reservations → Option Left
left_in_book tenant b = option_map left_in (account_of tenant b.accounts)

-- how many nodes a tenant ever opened; None where it isn't there
abbrev pub opened_of : ℕ → Reservations → Option ℕ
opened_of tenant b = option_map (λ a. a.opened) (account_of tenant b.accounts)

-- what a tenant has reserved; None where it isn't there
abbrev pub reserve_of : ℕ → Reservations → Option ReserveOf
reserve_of tenant b = option_map (λ a. a.reserve) (account_of tenant b.accounts)

-- what isn't reserved: the places of 64 tenants less those that are there, and the totals less all reservations
abbrev pub unreserved_of : Reservations → Rest
unreserved_of b = record { tenants = 64 - length b.accounts; segments = b.segments - reserved_segments b.accounts; nodes = b.nodes - reserved_nodes b.accounts }

-- fewer than 64 tenants are there, and both totals allow the reservation
pub record HasRoom (b : Reservations) (quota : ReserveOf) : Type 0 where
  pub tenants : length b.accounts < 64
  pub segments : reserved_segments b.accounts + quota.segments ≤ b.segments
  pub nodes : reserved_nodes b.accounts + quota.nodes ≤ b.nodes

-- 64 tenants are there, or a total doesn't allow the reservation
abbrev pub IsFull : Reservations → ReserveOf → Type 0
IsFull b quota = (64 ≤ length b.accounts) ⊎ ((b.segments < reserved_segments b.accounts + quota.segments) ⊎ (b.nodes < reserved_nodes b.accounts + quota.nodes))

-- the tenant is in the book, and asks for what isn't above its reservation: less of one amount, or the same of both
abbrev pub IsLower : Reservations → ℕ → ReserveOf → Type 0
IsLower b tenant quota = IsSomeAnd (reserve_of tenant b) (λ now. IsNotAbove now quota)

-- both totals of the book allow this amount in the place of `now`, which one of its tenants has reserved
pub record HasRoomFor (b : Reservations) (now quota : ReserveOf) : Type 0 where
  pub segments : reserved_segments b.accounts + quota.segments ≤ b.segments + now.segments
  pub nodes : reserved_nodes b.accounts + quota.nodes ≤ b.nodes + now.nodes

-- a total of the book doesn't allow this amount in the place of `now`, which one of its tenants has reserved
abbrev pub IsBeyond : Reservations → ReserveOf → ReserveOf → Type 0
IsBeyond b now quota =
    (b.segments + now.segments < reserved_segments b.accounts + quota.segments) ⊎ (b.nodes + now.nodes < reserved_nodes b.accounts + quota.nodes)

-- the tenant is in the book and asks for more than it has reserved (of one amount or both, of none less), and both totals
-- allow the new reservation in the place of the old one
abbrev pub CanRaise : Reservations → ℕ → ReserveOf → Type 0
CanRaise b tenant quota = IsSomeAnd (reserve_of tenant b) (λ now. IsAbove now quota × HasRoomFor b now quota)

-- the tenant is in the book and asks for more than it has reserved (of one amount or both, of none less), and a total
-- doesn't allow the new reservation in the place of the old one
abbrev pub IsTooMuch : Reservations → ℕ → ReserveOf → Type 0
IsTooMuch b tenant quota = IsSomeAnd (reserve_of tenant b) (λ now. IsAbove now quota × IsBeyond b now quota)

-- the tenant is there, and has at least so many segments and so many nodes left
abbrev pub HasLeft : Reservations → ℕ → ℕ → ℕ → Type 0
HasLeft b tenant segments nodes = IsSomeAnd (left_in_book tenant b) (λ left. (segments ≤ left.segments) × (nodes ≤ left.nodes))

-- the tenant is there, and has fewer segments or fewer nodes left than these
abbrev pub IsShort : Reservations → ℕ → ℕ → ℕ → Type 0
IsShort b tenant segments nodes = IsSomeAnd (left_in_book tenant b) (λ left. (left.segments < segments) ⊎ (left.nodes < nodes))

-- the tenant is there, and has a step left
abbrev pub HasStepLeft : Reservations → ℕ → Type 0
HasStepLeft b tenant = IsSomeAnd (left_in_book tenant b) (λ left. 0 < left.steps)

-- the tenant is there, and has no step left
abbrev pub IsOutOfSteps : Reservations → ℕ → Type 0
IsOutOfSteps b tenant = IsSomeAnd (left_in_book tenant b) (λ left. left.steps ≡ 0)

-- the tenant is there, and is charged at least so many segments
abbrev pub HasChargedAtLeast : Reservations → ℕ → ℕ → Type 0
HasChargedAtLeast b tenant segments = IsSomeAnd (account_of tenant b.accounts) (λ a. segments ≤ a.charged)

-- the totals and the accounts of all tenants but one are as they were
pub record KeepsOtherAccounts (old new : Reservations) (tenant : ℕ) : Type 0 where
  pub segments : new.segments ≡ old.segments
  pub nodes : new.nodes ≡ old.nodes
  pub others : (other : ℕ) → other ≢ tenant → account_of other new.accounts ≡ account_of other old.accounts

-- the tenant is there now, with this much reserved and nothing used, and nothing else has changed
pub record Admits (old new : Reservations) (tenant : ℕ) (quota : ReserveOf) : Type 0 where
  pub whole : new ≡ admitted old tenant quota
  pub account : account_of tenant new.accounts ≡ Some (fresh quota)
  pub tenants : length new.accounts ≡ length old.accounts + 1
  pub segments : reserved_segments new.accounts ≡ reserved_segments old.accounts + quota.segments
  pub nodes : reserved_nodes new.accounts ≡ reserved_nodes old.accounts + quota.nodes
  pub charged : charged_segments new.accounts ≡ charged_segments old.accounts

-- the tenant's account is changed by f, which keeps what is reserved, and nothing else has changed
pub record ChangesOnly (old new : Reservations) (tenant : ℕ) (f : Account → Account) : Type 0 where
  pub whole : new ≡ changed old tenant f
  pub account : account_of tenant new.accounts ≡ option_map f (account_of tenant old.accounts)
  pub rest : unreserved_of new ≡ unreserved_of old

-- the tenant has reserved this in the place of `now`, what it used stays, and nothing else has changed
pub record Raises (old new : Reservations) (tenant : ℕ) (quota now : ReserveOf) : Type 0 where
  pub whole : new ≡ changed old tenant (raised_to quota)
  pub account : account_of tenant new.accounts ≡ option_map (raised_to quota) (account_of tenant old.accounts)
  pub tenants : length new.accounts ≡ length old.accounts
  pub segments : reserved_segments new.accounts + now.segments ≡ reserved_segments old.accounts + quota.segments
  pub nodes : reserved_nodes new.accounts + now.nodes ≡ reserved_nodes old.accounts + quota.nodes
  pub charged : charged_segments new.accounts ≡ charged_segments old.accounts

-- the tenant isn't there any more, what it had reserved is free again, and nothing else has changed
pub record Releases (old new : Reservations) (tenant : ℕ) (a : Account) : Type 0 where
  pub whole : new ≡ released old tenant
  pub account : account_of tenant new.accounts ≡ None
  pub tenants : length new.accounts + 1 ≡ length old.accounts
  pub segments : reserved_segments new.accounts + a.reserve.segments ≡ reserved_segments old.accounts
  pub nodes : reserved_nodes new.accounts + a.reserve.nodes ≡ reserved_nodes old.accounts
  pub charged : charged_segments new.accounts + a.charged ≡ charged_segments old.accounts

-- what holds of every book: each tenant stands once and has used no more than it reserved, there are at most 64, and
-- all reservations together never exceed the totals
pub record IsSoundBook (b : Reservations) : Type 0 where
  pub some_segments : 1 ≤ b.segments
  pub segments_within : b.segments ≤ 65536
  pub some_nodes : 1 ≤ b.nodes
  pub nodes_within : b.nodes ≤ 4194304
  pub rising : IsRising b.accounts
  pub within : AllEntries (λ e. IsWithinReserve e.1) b.accounts
  pub tenants : length b.accounts ≤ 64
  pub segments_reserved : reserved_segments b.accounts ≤ b.segments
  pub nodes_reserved : reserved_nodes b.accounts ≤ b.nodes
