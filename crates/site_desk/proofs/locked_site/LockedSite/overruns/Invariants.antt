-- A site's desk tells by how much each grant exceeds a plan (`LockedSite::overruns`): at each turn, the amounts listed
-- so far and those of the grants left make the whole list.
use Rattle.site_desk.proofs.Common.{◌≡◌, ◌+◌, ◌≤◌, ◌++◌, length, overruns_of}
use Rattle.site_desk.proofs.locked_site.LockedSite.overruns.Given as goal

-- those so far and the rest are all
abbrev pub invariant-loop-held : goal.invariant-loop-held
invariant-loop-held g l = record {
  made : l.overruns.items ++ overruns_of l.plan l.self.booked.book.grants l.rest ≡ overruns_of l.plan l.self.booked.book.grants l.self.booked.book.grants;
  few : length l.overruns.items + length l.rest ≤ 64;
}

abbrev pub decreases-loop-held : goal.decreases-loop-held
decreases-loop-held g l = length l.rest
