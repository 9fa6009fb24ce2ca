-- The core tests whether words can be stored in a frame (`decide::is_outside`): at each turn, no store so far is
-- outside the frame.
use Rattle.sched_core.proofs.Common.{◌≡◌, drop, is_outside as is_outside_of}
use Rattle.sched_core.proofs.decide.is_outside.Given as goal

abbrev pub invariant-loop-store : goal.invariant-loop-store
invariant-loop-store l = is_outside_of l.stores l.words ≡ is_outside_of (drop l.store-index l.stores) l.words
