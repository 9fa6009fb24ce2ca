-- The entries in a search's frame (`statuses::open_in`): at each turn, all choices passed so far are settled.
use Rattle.std.proofs.Common.{◌≡◌, ℕ, ◌<◌, map, slice_index}
use Rattle.jamboree.proofs.Common.{status_of}
use Rattle.jamboree.proofs.statuses.open_in.Given as goal

abbrev pub invariant-loop-number : goal.invariant-loop-number
invariant-loop-number l = (k : ℕ) → k < l.number → slice_index (map status_of l.entries) k ≡ 2
