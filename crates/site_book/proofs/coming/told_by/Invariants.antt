-- A site's book lists its sessions for another plan (`coming::told_by`): at each turn, the sessions listed so far and
-- what comes of those left make the whole list, which has room for them.
use Rattle.site_book.proofs.Common.{◌≡◌, ◌+◌, ◌≤◌, ◌++◌, [], length, told_by}
use Rattle.site_book.proofs.coming.told_by.Given as goal

-- those so far and the rest are all
abbrev pub invariant-loop-held : goal.invariant-loop-held
invariant-loop-held l = record {
  told : l.told.items ++ told_by l.plan l.before.items l.rest l.beside ≡ told_by l.plan [] l.grants l.roll;
  few : length l.told.items + length l.rest ≤ 64;
  few_before : length l.before.items + length l.rest ≤ 64;
  alike : length l.rest ≡ length l.beside;
}

abbrev pub decreases-loop-held : goal.decreases-loop-held
decreases-loop-held l = length l.rest
