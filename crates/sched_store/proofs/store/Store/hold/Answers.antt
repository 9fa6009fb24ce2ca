-- A worker gets a frame in the core's store (`Store::hold`): the frame runs or computes by this worker, the worker's
-- place names it, and the store is sound.
use Rattle.sched_store.proofs.Lookups.{◌≡◌, length, Some, set, parts_of, there-frame, there-has}
use Rattle.sched_store.proofs.FrameSteps.{StateSet, held-set}
use Rattle.sched_store.proofs.store.Store.hold.Goals.{After-set_state}
use Rattle.sched_store.proofs.store.Store.hold.Goals as goal

-- the worker has taken the frame
taken : (g : _) (c : After-set_state g) → StateSet (parts_of c.self.inside) c.set_state.new.self (set (parts_of c.self.inside).places c.number-number.result (Some c.args.name)) c.args.name c.args.state
taken g c =
    let limits = c.number-number.ensures.limits in
    -- (an array is as long as its type says: the sixth of what the fields' types tell is that of `places`)
    let long : length c.self.inside.places ≡ 33 = c.self.ranges.1.1.1.1.1.0.1.0.1 in
    let own = there-frame c.self.invariant c.args.name (rw (← c.self.view_is) at c.requires.there) in
    held-set c.args.name c.args.state c.self.invariant (record { frames = c.set_state.ensures.frames; kept = c.set_state.ensures.kept }) own.1 _ long limits.0 limits.1
    (rw (← c.self.view_is, ← c.number-number.ensures.value) at c.requires.free) (rw (← c.number-number.ensures.value) at c.requires.names)

pub set_state-requires : goal.set_state-requires
set_state-requires g c = there-has c.self.invariant c.args.name (rw (← c.self.view_is) at c.requires.there)

pub invariant_of-self : goal.invariant_of-self
invariant_of-self g c = (taken g (goal.at.invariant_of-self g c).After-set_state).stored

pub returns : goal.returns
returns g c = rw (← c.self.view_is) (taken g (goal.at.returns g c).After-set_state).shared
