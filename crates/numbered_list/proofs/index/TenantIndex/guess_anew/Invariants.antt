-- The index of a list by number makes its guesses anew (`TenantIndex::guess_anew`): the places from here on are still
-- to be put down.
use Rattle.std.proofs.Common.{◌≡◌, drop, length}
use Rattle.numbered_list.specs.Guesses.{with_places}
use Rattle.numbered_list.proofs.index.TenantIndex.guess_anew.Given as goal

abbrev pub invariant-loop-at : goal.invariant-loop-at
invariant-loop-at g l =
    (length l.self-inside.guesses ≡ 256)
    × (with_places g.T.Numbered.number_of (drop l.at l.things) l.at l.self-inside.guesses ≡ with_places g.T.Numbered.number_of l.things 0 l.initial.self-inside.guesses)
