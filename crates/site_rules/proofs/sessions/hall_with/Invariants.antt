-- A customer's session is looked for among those that are there (`sessions::hall_with`): at each turn, none of those passed is its.
use Rattle.std.proofs.Common.{◌≡◌, drop}
use Rattle.site_rules.specs.Sessions.{hall_with}
use Rattle.site_rules.proofs.sessions.hall_with.Given as goal

abbrev pub invariant-loop-own : goal.invariant-loop-own
invariant-loop-own g l = hall_with l.who (drop l.own-index l.linked) ≡ hall_with l.who l.linked
