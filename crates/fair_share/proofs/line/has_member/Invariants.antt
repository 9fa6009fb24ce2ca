-- A line of those who share (`line::has_member`): at each turn, no account passed so far is of the group.
use Rattle.fair_share.proofs.Common.{◌≡◌, drop, has_member}
use Rattle.fair_share.proofs.line.has_member.Given as goal

abbrev pub invariant-loop-account : goal.invariant-loop-account
invariant-loop-account l = has_member l.group (drop l.account-index l.accounts) ≡ has_member l.group l.accounts
