-- The entries in a search's frame (`statuses::are_entries`): at each turn, those so far are valid, so the rest
-- decides.
use Rattle.std.proofs.Common.{◌≡◌, drop}
use Rattle.jamboree.proofs.Common.{are_entries}
use Rattle.jamboree.proofs.StatusLemmas.{left}
use Rattle.jamboree.proofs.statuses.are_entries.Given as goal

abbrev pub invariant-loop-number : goal.invariant-loop-number
invariant-loop-number l = are_entries (drop 12 l.words) ≡ are_entries (left l.words l.number)
