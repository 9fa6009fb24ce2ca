-- A line of those who share (`line::least_served`): at each turn, the least so far, and what the accounts left were
-- served, give the least of all.
use Rattle.fair_share.proofs.Common.{◌≡◌, None, drop, least_from}
use Rattle.fair_share.proofs.line.least_served.Given as goal

abbrev pub invariant-loop-account : goal.invariant-loop-account
invariant-loop-account l = least_from l.least l.group (drop l.account-index l.accounts) ≡ least_from None l.group l.accounts
