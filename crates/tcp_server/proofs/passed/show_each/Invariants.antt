-- At each turn, what the history was shown to are sessions in it; nothing has changed but what is known.
use Rattle.std.proofs.Common.{◌≡◌, ℕ, ◌<◌, map, slice_index_or}
use Rattle.tcp_server.specs.Connections.{PassedOf, but_knew, IsSessionIn}
use Rattle.tcp_server.proofs.passed.show_each.Given as goal

abbrev pub invariant-loop-passed : goal.invariant-loop-passed
invariant-loop-passed g l =
    (map but_knew l.sessions ≡ map but_knew l.fn.sessions) × (l.history ≡ l.fn.history)
    × ((k : ℕ) (d : PassedOf) → k < l.passed-index → IsSessionIn g.L.DeskLedger.begun l.fn.history (slice_index_or l.sessions k d))
