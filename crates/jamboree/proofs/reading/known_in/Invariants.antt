-- A reply's table is read (`reading::known_in`): at each turn, what is known so far is what the first entries say, and
-- the list has 64 places.
use Rattle.jamboree.proofs.Common.{take}
use Rattle.std.proofs.Common.{◌≡◌, length}
use Rattle.jamboree.proofs.ReplyLemmas.{said_by}
use Rattle.jamboree.proofs.reading.known_in.Given as goal

abbrev pub invariant-loop-number : goal.invariant-loop-number
invariant-loop-number l = (take l.number l.known ≡ said_by (take l.number l.entries)) × (length l.known ≡ 64)
