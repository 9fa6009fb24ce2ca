-- The sessions of a part are counted (`sessions::many_of`): at each turn, those so far and those left make all.
use Rattle.std.proofs.Common.{◌≡◌, ◌+◌, ◌≤◌, drop}
use Rattle.site_rules.specs.Sessions.{many_of}
use Rattle.site_rules.proofs.sessions.many_of.Given as goal

abbrev pub invariant-loop-own : goal.invariant-loop-own
invariant-loop-own g l = (l.many ≤ l.own-index) × (l.many + many_of l.part (drop l.own-index l.linked) ≡ many_of l.part l.linked)
