-- The entries in a search's frame (`statuses::first_open`): at each turn, all choices passed so far are settled.
use Rattle.jamboree.proofs.StatusLemmas.{AreSettledBefore}
use Rattle.jamboree.proofs.statuses.first_open.Given as goal

abbrev pub invariant-loop-number : goal.invariant-loop-number
invariant-loop-number l = AreSettledBefore l.words l.number
