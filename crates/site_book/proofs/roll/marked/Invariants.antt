-- A site's roll marks some of its sessions (`roll::marked`): at each turn, those listed so far and those left, marked,
-- make the whole list, which has room for them.
use Rattle.site_book.proofs.Common.{◌≡◌, ◌+◌, ◌≤◌, ◌++◌, length, marked_all}
use Rattle.site_book.proofs.roll.marked.Given as goal

-- those so far and the rest are all
abbrev pub invariant-loop-present : goal.invariant-loop-present
invariant-loop-present l = record {
  made : l.made.items ++ marked_all l.whom l.mark l.rest ≡ marked_all l.whom l.mark l.roll;
  few : length l.made.items + length l.rest ≤ 64;
}

abbrev pub decreases-loop-present : goal.decreases-loop-present
decreases-loop-present l = length l.rest
