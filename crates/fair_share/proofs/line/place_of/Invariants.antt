-- A line of those who share (`line::place_of`): at each turn, no account passed so far has the name in the group.
use Rattle.fair_share.proofs.Common.{◌≡◌, drop, place_from}
use Rattle.fair_share.proofs.line.place_of.Given as goal

abbrev pub invariant-loop-place : goal.invariant-loop-place
invariant-loop-place l = place_from l.place l.group l.name (drop l.place l.accounts) ≡ place_from 0 l.group l.name l.accounts
