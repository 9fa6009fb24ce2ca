-- A site's book without the grants of those who go (`roll::remaining`): at each turn, the grants kept so far and those
-- of the rest that stay are all that stay.
use Rattle.site_book.proofs.Common.{◌≡◌, ◌+◌, ◌≤◌, ◌++◌, length, remaining}
use Rattle.site_book.proofs.roll.remaining.Given as goal

-- what is left so far and what is left of the rest is all that is left
abbrev pub invariant-loop-held : goal.invariant-loop-held
invariant-loop-held l = record {
  left : l.left.items ++ remaining l.leaver l.rest l.beside ≡ remaining l.leaver l.grants l.roll;
  few : length l.left.items + length l.rest ≤ 64;
  alike : length l.rest ≡ length l.beside;
}

abbrev pub decreases-loop-held : goal.decreases-loop-held
decreases-loop-held l = length l.rest
