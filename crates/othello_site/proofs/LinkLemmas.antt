-- What a connection's reads and writes do, by the calls of which each is made.
use Rattle.std.proofs.Common.{◌≡◌, ℕ, List, [], ◌++◌, length, Some, None, refl, sym, subst, append-nil}
use Rattle.tcp_server.specs.Tapes.{TapeOf, AheadOf, taped, Moves, HandsOn}
use Rattle.tcp_server.proofs.TapeLemmas.{Moves-one, Moves-failed, Moves-more, HandsOn-more}

-- after one call more that read ahead, nothing is given yet
pub read-ahead : (from next to : AheadOf) (n : ℕ) → HandsOn from [] next → (bytes : List ℕ) × (length bytes ≡ n) × (to ≡ record { ahead = next.ahead ++ bytes; tape = taped (Some bytes) next.tape }) → HandsOn from [] to
read-ahead from next to n before came =
    HandsOn-more from next to [] [] before (subst (HandsOn next []) (sym came.2) (came.0, Moves-one came.0 next.tape, refl))

-- nor after one that failed
pub read-failed : (from next to : AheadOf) → HandsOn from [] next → to ≡ record { ahead = next.ahead; tape = taped None next.tape } → HandsOn from [] to
read-failed from next to before failed =
    HandsOn-more from next to [] [] before (subst (HandsOn next []) (sym failed) ([], Moves-failed next.tape, append-nil next.ahead))

-- after calls that took nothing, one that takes bytes
pub written : (from next to : TapeOf) (bytes : List ℕ) → Moves from [] next → to ≡ taped (Some bytes) next → Moves from bytes to
written from next to bytes before taken = Moves-more from next to before (subst (Moves next bytes) (sym taken) (Moves-one bytes next))

-- or one that fails
pub unwritten : (from next to : TapeOf) → Moves from [] next → to ≡ taped None next → Moves from [] to
unwritten from next to before failed = Moves-more from next to before (subst (Moves next []) (sym failed) (Moves-failed next))
