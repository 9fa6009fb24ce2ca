-- A line of those who share (`line::place_among`): at each turn, no name passed so far is the one that is sought.
use Rattle.fair_share.proofs.Common.{◌≡◌, drop, place_among_from}
use Rattle.fair_share.proofs.line.place_among.Given as goal

abbrev pub invariant-loop-place : goal.invariant-loop-place
invariant-loop-place l = place_among_from l.place l.name (drop l.place l.names) ≡ place_among_from 0 l.name l.names
