-- Meaning: what is kept of one who shares a pool with others (how much it was served, since when it waits), and who
-- comes before whom.
use Rattle.std.specs.Prelude.{ℕ, ◌+◌, ◌-◌, ◌==◌, nat_lt, Bool, ◌&&◌, ◌||◌, if◌then◌else◌}
use Rattle.fair_share.specs.declared.account.ShareAccount.{ShareAccount}

-- the account that stands at a free place of a line
abbrev pub free_account : ShareAccount
free_account = record { name = 0; group = 0; served = 0; since = 0 }

-- whether the user whose account this is has something to be served with: since some turn the user waits
abbrev pub is_active : ShareAccount → Bool
is_active account = nat_lt 0 account.since

-- whether the user of this account is active, and shares the workers in this group
abbrev pub is_rival : ℕ → ShareAccount → Bool
is_rival group account = is_active account && (account.group == group)

-- whether the first account comes before the second: it was served less, or as much and it has waited for longer
abbrev pub is_before : ShareAccount → ShareAccount → Bool
is_before first second = nat_lt first.served second.served || ((first.served == second.served) && nat_lt first.since second.since)

-- the sum, or the greatest count where it is more
abbrev pub capped_sum : ℕ → ℕ → ℕ
capped_sum a b = if nat_lt (18446744073709551615 - a) b then 18446744073709551615 else a + b

-- the account once its user was served so much more at this turn: if the user is active, it waits from this turn on
abbrev pub account_charged : ℕ → ℕ → ShareAccount → ShareAccount
account_charged amount turn account = record account { served = capped_sum account.served amount; since = if is_active account then turn else 0 }

-- the account once its user has become active at this turn, from which on it waits; it counts as served as much as
-- before, or as much as this floor where that is more
abbrev pub woken_from : ℕ → ℕ → ShareAccount → ShareAccount
woken_from floor turn account = record account { served = if nat_lt account.served floor then floor else account.served; since = turn }

-- the account once its user isn't active any more
abbrev pub rested : ShareAccount → ShareAccount
rested account = record account { since = 0 }
