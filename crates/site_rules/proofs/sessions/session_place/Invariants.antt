-- A session is looked for among those that are there (`sessions::session_place`): at each turn, none of those passed is it.
use Rattle.std.proofs.Common.{◌≡◌, drop}
use Rattle.site_rules.specs.Sessions.{session_place}
use Rattle.site_rules.proofs.sessions.session_place.Given as goal

abbrev pub invariant-loop-place : goal.invariant-loop-place
invariant-loop-place g l = session_place l.hall l.session l.place (drop l.place l.linked) ≡ session_place l.hall l.session 0 l.linked
