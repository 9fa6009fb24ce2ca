-- The entries in a search's frame (`statuses::all_are_entries`): at each turn, those so far are valid, so the rest
-- decides.
use Rattle.std.proofs.Common.{◌≡◌, drop}
use Rattle.jamboree.proofs.Common.{are_entries}
use Rattle.jamboree.proofs.statuses.all_are_entries.Given as goal

abbrev pub invariant-loop-entry : goal.invariant-loop-entry
invariant-loop-entry l = are_entries l.entries ≡ are_entries (drop l.entry-index l.entries)
