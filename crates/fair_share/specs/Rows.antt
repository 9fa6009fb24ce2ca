-- Representation: small lines of those who share a pool, and shares in which something happened, on which the
-- definitions are tried.
use Rattle.std.specs.Prelude.{ℕ, true, [], ◌∷◌}
use Rattle.fair_share.specs.declared.account.ShareAccount.{ShareAccount}
use Rattle.fair_share.specs.Lines.{LineOf}
use Rattle.fair_share.specs.Shares.{SharesOf, new_shares, tenant_entered, tenant_seen, served_all}

-- an account of an example, with this name, in this group, served so much, and active since this turn (0: not active)
abbrev pub account : ℕ → ℕ → ℕ → ℕ → ShareAccount
account name group served since = record { name = name; group = group; served = served; since = since }

-- a line of four accounts. In group 0: account 1 waits since turn 3 and was served 50, account 2 waits since turn 2
-- and was served as much, account 3 isn't active and was served 10. In group 1: account 4 waits since turn 1 and was
-- served nothing
abbrev pub four : LineOf
four = record { accounts = account 1 0 50 3 ∷ account 2 0 50 2 ∷ account 3 0 10 0 ∷ account 4 1 0 1 ∷ []; turn = 4 }

-- customer 0 has two tenants in a network and customer 1 one; all have something to be done
abbrev pub three : SharesOf
three = tenant_seen 2 true (tenant_seen 1 true (tenant_seen 0 true (tenant_entered 9 1 700 (tenant_entered 8 0 500 (tenant_entered 7 0 500 (new_shares 2))))))

-- the first tenant was served 100, the third 30
abbrev pub served : SharesOf
served = served_all 2 30 (served_all 0 100 three)
