-- The next pick among those who share a hall: what was seen of one tenant more.
use Rattle.fair_share.proofs.Common.{◌≡◌, ◌==◌, ℕ, ◌+◌, suc, Bool, true, false, ◌||◌, if◌then◌else◌, refl, add-one, ap, ◌∙◌, is_some, CoreState, newest_ready_in, is_active, has_rival, woken, rested_at, SharesOf, tenant_in_place, network_at, customer_at, rested_unless, tenant_seen, seen_up_to}

pub seen_none : (core : CoreState) (shares : SharesOf) → seen_up_to core 0 shares ≡ shares
unfolding seen_up_to
seen_none core shares = refl

seen-next : (core : CoreState) (place : ℕ) (shares : SharesOf) → seen_up_to core (suc place) shares ≡ tenant_seen place (is_some (newest_ready_in core (tenant_in_place (seen_up_to core place shares) place).name)) (seen_up_to core place shares)
unfolding seen_up_to
seen-next core place shares = refl

pub seen_more : (core : CoreState) (place : ℕ) (shares : SharesOf) → seen_up_to core (place + 1) shares ≡ tenant_seen place (is_some (newest_ready_in core (tenant_in_place (seen_up_to core place shares) place).name)) (seen_up_to core place shares)
seen_more core place shares = ap (λ (n : ℕ). seen_up_to core n shares) (add-one place) ∙ seen-next core place shares

-- nothing is seen of a free place, whatever the hall has
pub seen_nobody : (place : ℕ) (ready : Bool) (shares : SharesOf) → (tenant_in_place shares place).name ≡ 0 → tenant_seen place ready shares ≡ shares
seen_nobody place true shares free = ap (λ (name : ℕ). if (name == 0) || is_active (tenant_in_place shares place) then shares else record shares {
  customers = if has_rival (customer_at shares place) shares.networks.accounts then shares.customers else woken (customer_at shares place) shares.customers;
  networks = if has_rival (network_at shares place) shares.tenants.accounts then shares.networks else woken (network_at shares place) shares.networks;
  tenants = woken place shares.tenants;
}) free
seen_nobody place false shares free = ap (λ (name : ℕ).
    let tenants = rested_at place shares.tenants in
    let networks = rested_unless (network_at shares place) tenants.accounts shares.networks in
    if name == 0 then shares else record shares {
      customers = rested_unless (customer_at shares place) networks.accounts shares.customers;
      networks = networks;
      tenants = tenants;
    }) free
