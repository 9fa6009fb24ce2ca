-- A site's book tests whether all grants are within a plan (`book::are_within`): at each turn, no part of a grant
-- passed so far has more than the plan allows.
use Rattle.site_book.proofs.Common.{◌≡◌, drop, are_within}
use Rattle.site_book.proofs.book.are_within.Given as goal

-- those so far are within, so the rest decides
abbrev pub invariant-loop-held : goal.invariant-loop-held
invariant-loop-held l = are_within l.plan l.grants (drop l.held-index l.grants) ≡ are_within l.plan l.grants l.grants
