-- Representation: the words that are stored in a search's frame for a typed change.
use Rattle.std.specs.Prelude.{ℕ, ℤ, pos}
use Rattle.jamboree_rules.specs.Places.{Change as Store, OwnBits as ToOwnBits, OppBits as ToOppBits, Phase as ToPhase, Best as ToBest, Chosen as ToChosen, Count as ToCount, Spawned as ToSpawned, Status as ToStatus}
use Rattle.jamboree.specs.declared.view.FrameChange.{FrameChange}
use Rattle.jamboree.specs.declared.view.FrameChange.TheVariants.{OwnBits, OppBits, Phase, Best, Chosen, Count, Spawned, Status}
use Rattle.jamboree.specs.Numbers.{phase_number, status_number}

-- the store that a change stands for, as `jamboree_rules` has it
abbrev pub store_of : FrameChange → Store
store_of (OwnBits bits) = ToOwnBits bits
store_of (OppBits bits) = ToOppBits bits
store_of (Phase phase) = ToPhase (phase_number phase)
store_of (Best score) = ToBest score
store_of (Chosen code) = ToChosen code
store_of (Count count) = ToCount count
store_of (Spawned count) = ToSpawned count
store_of (Status number status rest) = ToStatus number (status_number status) rest.word

-- the score that a change sets; 0 where it sets something else
abbrev pub score_set : FrameChange → ℤ
score_set (Best score) = score
score_set _ = pos 0

-- the number of the choice whose entry a change sets; 0 where it sets something else
abbrev pub number_set : FrameChange → ℕ
number_set (Status number status rest) = number
number_set _ = 0
