-- A site's roll drops one session (`roll::others`): at each turn, those kept so far and those of the rest that are to
-- be kept are all but the first of this number.
use Rattle.site_book.proofs.Common.{◌≡◌, ◌+◌, ◌≤◌, ◌++◌, length, without_present}
use Rattle.std.proofs.Common.{if◌then◌else◌}
use Rattle.site_book.proofs.roll.others.Given as goal

-- what is kept so far and what is to be kept of the rest are all that is kept
abbrev pub invariant-loop-present : goal.invariant-loop-present
invariant-loop-present l = record {
  kept : l.left.items ++ (if l.found then l.rest else without_present l.who l.session l.rest) ≡ without_present l.who l.session l.roll;
  few : length l.left.items + length l.rest ≤ 64;
}

abbrev pub decreases-loop-present : goal.decreases-loop-present
decreases-loop-present l = length l.rest
