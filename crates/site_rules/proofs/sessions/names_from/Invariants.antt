-- The sessions of an address are listed (`sessions::names_from`): at each turn, those so far and those left make all.
use Rattle.std.proofs.Common.{◌≡◌, ◌++◌, drop}
use Rattle.site_rules.specs.Sessions.{names_from}
use Rattle.site_rules.proofs.sessions.names_from.Given as goal

abbrev pub invariant-loop-own : goal.invariant-loop-own
invariant-loop-own g l = l.names.items ++ names_from l.address (drop l.own-index l.linked) ≡ names_from l.address l.linked
