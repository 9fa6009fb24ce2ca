-- The core's store writes words of a node (`writing::store_words`): each stands at its place, and no other node
-- changes.
use Rattle.sched_store.proofs.Lookups.{set-set, arith, drop_all}
use Rattle.sched_store.proofs.FrameSteps.{first-store, outside-set, words-same, words-stay}
use Rattle.sched_store.proofs.store.writing.store_words.Goals as goal

pub store-requires-clause-in_bounds : goal.store-requires-clause-in_bounds
store-requires-clause-in_bounds g c =
    let first = first-store c.args.stores.now c.loop-at.at-index (0, 0) c.loop-at-test.true in grind (arith, first, c.loop-at.invariant.inside)

pub loop-at-preserved : goal.loop-at-preserved
loop-at-preserved g c =
    let first = first-store c.args.stores.now c.loop-at.at-index (0, 0) c.loop-at-test.true in
    grind (arith, first, outside-set, set-set, words-same, c.loop-at.invariant.is_open, c.loop-at.invariant.inside, c.loop-at.invariant.so_far, c.store.ensures)

pub returns : goal.returns
returns g c = grind (arith, drop_all, words-stay, c.loop-at.invariant.is_open, c.loop-at.invariant.so_far)
