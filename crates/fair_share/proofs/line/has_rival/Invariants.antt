-- A line of those who share (`line::has_rival`): at each turn, no account passed so far is active in the group.
use Rattle.fair_share.proofs.Common.{◌≡◌, drop, has_rival}
use Rattle.fair_share.proofs.line.has_rival.Given as goal

abbrev pub invariant-loop-account : goal.invariant-loop-account
invariant-loop-account l = has_rival l.group (drop l.account-index l.accounts) ≡ has_rival l.group l.accounts
