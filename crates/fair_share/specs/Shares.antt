-- Meaning: who shares a pool of workers: customers, the networks of each, and the tenants of each network.
use Rattle.std.specs.Prelude.{ℕ, zero, suc, ◌+◌, ◌-◌, ◌≡◌, ◌==◌, nat_lt, Bool, false, ◌||◌, ◌⊎◌, List, Option, Some, None, if◌then◌else◌, replicate, slice_index, slice_set}
use Rattle.fair_share.specs.declared.account.ShareAccount.{ShareAccount}
use Rattle.fair_share.specs.Accounts.{free_account, is_active, is_rival, capped_sum}
use Rattle.fair_share.specs.Lines.{LineOf, IsNextAccount, IsLongest, empty_line, account_at, has_rival, has_member, woken, rested_at, charged, put_at, joined, joined_place}

-- who shares a pool, as three lines of accounts: customers, all in group 0; networks, each in the group of its
-- customer's place; and tenants, each in the group of its network's place. Then what each customer that isn't there
-- was served, by its number; and how many picks there were since the last one of the tenant that had waited longest
pub record SharesOf : Type 0 where
  pub customers : LineOf
  pub networks : LineOf
  pub tenants : LineOf
  pub kept : List ℕ
  pub picks : ℕ

-- the shares where nobody is there yet, and so many customers were served nothing
abbrev pub new_shares : ℕ → SharesOf
new_shares many = record { customers = empty_line; networks = empty_line; tenants = empty_line; kept = replicate many 0; picks = 0 }

-- the account of the tenant at a place
abbrev pub tenant_in_place : SharesOf → ℕ → ShareAccount
tenant_in_place shares place = account_at shares.tenants.accounts place

-- the place of the network of the tenant at this place
abbrev pub network_at : SharesOf → ℕ → ℕ
network_at shares place = (tenant_in_place shares place).group

-- the place of the customer whose network has the tenant at this place
abbrev pub customer_at : SharesOf → ℕ → ℕ
customer_at shares place = (account_at shares.networks.accounts (network_at shares place)).group

-- the shares with one more pick counted: each fourth pick is of the tenant that has waited longest
abbrev pub pick_counted : SharesOf → SharesOf
pick_counted shares = record shares { picks = if nat_lt shares.picks 3 then shares.picks + 1 else 0 }

-- the tenant at this place is served least: its customer is the least served one with a ready frame, its network the
-- least served one of that customer, and it is the least served tenant of that network; of those that were served as
-- much each is the one that has waited longest
pub record IsLeastServed (shares : SharesOf) (place : ℕ) : Type 0 where
  pub customer : IsNextAccount 0 shares.customers.accounts (customer_at shares place)
  pub network : IsNextAccount (customer_at shares place) shares.networks.accounts (network_at shares place)
  pub tenant : IsNextAccount (network_at shares place) shares.tenants.accounts place

-- no account of this group is active
abbrev pub HasNone : ℕ → List ShareAccount → Type 0
HasNone group accounts = (place : ℕ) → is_rival group (account_at accounts place) ≡ false

-- a fair pick: the tenant that has waited longest, each fourth time, and else one that was served least
abbrev pub IsPickOf : ℕ → SharesOf → ℕ → Type 0
IsPickOf zero shares place = IsLongest shares.tenants.accounts place
IsPickOf (suc picks) shares place = IsLeastServed shares place

-- the tenant at this place comes next: by who was served least, or, each fourth time, by who has waited longest
abbrev pub IsPick : SharesOf → ℕ → Type 0
IsPick shares place = IsPickOf shares.picks shares place

-- nobody is served least: no customer is active, or the next one has no active network, or its next network has no active tenant
abbrev pub IsNobodyLeast : SharesOf → Type 0
IsNobodyLeast shares =
    HasNone 0 shares.customers.accounts
    ⊎ ((customer : ℕ) × IsNextAccount 0 shares.customers.accounts customer
    × (HasNone customer shares.networks.accounts
    ⊎ ((network : ℕ) × IsNextAccount customer shares.networks.accounts network × HasNone network shares.tenants.accounts)))

-- no tenant comes next: none is active (of a pick for who has waited longest), or none is served least
abbrev pub IsNobodyOf : ℕ → SharesOf → Type 0
IsNobodyOf zero shares = (place : ℕ) → is_active (account_at shares.tenants.accounts place) ≡ false
IsNobodyOf (suc picks) shares = IsNobodyLeast shares

-- no tenant comes next: for the pick that is due now, none is active or none is served least
abbrev pub IsNobody : SharesOf → Type 0
IsNobody shares = IsNobodyOf shares.picks shares

-- the shares after the tenant at a place has got a ready frame, where it had none: it becomes active, and with it its
-- network and its customer, where they weren't
abbrev pub woken_all : ℕ → SharesOf → SharesOf
woken_all place shares =
    if ((tenant_in_place shares place).name == 0) || is_active (tenant_in_place shares place) then shares else record shares {
      customers = if has_rival (customer_at shares place) shares.networks.accounts then shares.customers else woken (customer_at shares place) shares.customers;
      networks = if has_rival (network_at shares place) shares.tenants.accounts then shares.networks else woken (network_at shares place) shares.networks;
      tenants = woken place shares.tenants;
    }

-- the line after the account at a place has rested, unless somebody of the line below is active in its group
abbrev pub rested_unless : ℕ → List ShareAccount → LineOf → LineOf
rested_unless place below line = if has_rival place below then line else rested_at place line

-- the shares after the tenant at a place has no ready frame any more: it isn't active; nor is its network where no
-- tenant of it is, nor its customer where no network of it is
abbrev pub rested_all : ℕ → SharesOf → SharesOf
rested_all place shares =
    let tenants = rested_at place shares.tenants in
    let networks = rested_unless (network_at shares place) tenants.accounts shares.networks in
    if (tenant_in_place shares place).name == 0 then shares else record shares {
      customers = rested_unless (customer_at shares place) networks.accounts shares.customers;
      networks = networks;
      tenants = tenants;
    }

-- the shares after it was noted whether the tenant at a place has a ready frame
abbrev pub tenant_seen : ℕ → Bool → SharesOf → SharesOf
tenant_seen place is_ready shares = if is_ready then woken_all place shares else rested_all place shares

-- the shares after the tenant at a place was served so much more, which counts for its network and its customer too
abbrev pub served_all : ℕ → ℕ → SharesOf → SharesOf
served_all place amount shares =
    if (tenant_in_place shares place).name == 0 then shares else record shares {
      customers = charged (customer_at shares place) amount shares.customers;
      networks = charged (network_at shares place) amount shares.networks;
      tenants = charged place amount shares.tenants;
    }

-- the shares after a tenant came to the network at this place; nothing changes where the network has no place (None),
-- or none is free for the tenant
abbrev pub tenant_joined : Option ℕ → ℕ → SharesOf → SharesOf
tenant_joined None tenant shares = shares
tenant_joined (Some network) tenant shares = record shares { tenants = joined network tenant 0 shares.tenants }

-- the shares after a network came to the customer at this place; nothing changes where the customer has no place
-- (None), or none is free for the network
abbrev pub network_joined : Option ℕ → ℕ → SharesOf → SharesOf
network_joined None network shares = shares
network_joined (Some customer) network shares = record shares { networks = joined customer (capped_sum network 1) 0 shares.networks }

-- where the account of this name stands in a group of a line, or would begin; None where there is no group, or no place
-- is free
abbrev pub place_in : Option ℕ → ℕ → LineOf → Option ℕ
place_in None name line = None
place_in (Some group) name line = joined_place group name line

-- the place where this customer stands in its line, or would begin; None where no place is free
abbrev pub customer_place : ℕ → SharesOf → Option ℕ
customer_place customer shares = joined_place 0 (customer + 1) shares.customers

-- the place where this network of this customer stands in its line, or would begin; None where no place is free
abbrev pub network_place : ℕ → ℕ → SharesOf → Option ℕ
network_place customer network shares = place_in (customer_place customer shares) (capped_sum network 1) shares.networks

-- the place where this tenant of this network of this customer stands in its line, or would begin; None where no place
-- is free
abbrev pub entered_place : ℕ → ℕ → ℕ → SharesOf → Option ℕ
entered_place tenant customer network shares = place_in (network_place customer network shares) tenant shares.tenants

-- the shares after a tenant came: its customer, its network and itself begin where they aren't there yet, as far as
-- places are free: the customer with what it was served before, the other two with nothing
abbrev pub tenant_entered : ℕ → ℕ → ℕ → SharesOf → SharesOf
tenant_entered tenant customer network shares =
    tenant_joined (network_place customer network shares) tenant
    (network_joined (customer_place customer shares) network
    (record shares { customers = joined 0 (customer + 1) (slice_index shares.kept customer) shares.customers }))

-- the shares after the place of a customer without a network is free again: what the customer was served is kept
abbrev pub customer_freed : ℕ → SharesOf → SharesOf
customer_freed place shares =
    let account = account_at shares.customers.accounts place in
    if has_member place shares.networks.accounts then shares else record shares {
      customers = put_at place free_account shares.customers;
      kept = slice_set shares.kept (account.name - 1) account.served;
    }

-- the shares after the place of a network without a tenant is free again, and its customer's too where that has no
-- other network
abbrev pub network_freed : ℕ → ℕ → SharesOf → SharesOf
network_freed network customer shares =
    if has_member network shares.tenants.accounts then shares else
    customer_freed customer (record shares { networks = put_at network free_account shares.networks })

-- the shares after the tenant at a place has left, and with it its network and its customer, where nobody else of them
-- is there
abbrev pub left_all : ℕ → SharesOf → SharesOf
left_all place shares =
    let rested = rested_all place shares in
    if (tenant_in_place shares place).name == 0 then shares else
    network_freed (network_at shares place) (customer_at shares place) (record rested { tenants = put_at place free_account rested.tenants })
