-- A worker gives a frame back in the core's store (`Store::let_go`): the frame is in its new state, the worker's place
-- is empty, and the store is sound.
use Rattle.sched_store.proofs.Lookups.{None, set, parts_of, named-found, there-frame, there-has}
use Rattle.sched_store.proofs.FrameSteps.{StateSet, let-go-set}
use Rattle.sched_store.proofs.store.Store.let_go.Goals.{After-set_state}
use Rattle.sched_store.proofs.store.Store.let_go.Goals as goal

-- the worker has let the frame go
gone : (g : _) (c : After-set_state g) → StateSet (parts_of c.self.inside) c.set_state.new.self (set (parts_of c.self.inside).places c.number-number.result None) c.args.name c.args.state
gone g c =
    let own = there-frame c.self.invariant c.args.name (rw (← c.self.view_is) at c.requires.there) in
    let holds = rw (← c.self.view_is, ← c.number-number.ensures.value, named-found c.self.invariant c.args.name, own.1) at c.requires.held in
    let-go-set c.args.name c.args.state c.self.invariant (record { frames = c.set_state.ensures.frames; kept = c.set_state.ensures.kept }) own.1 _ holds c.requires.nobody

pub set_state-requires : goal.set_state-requires
set_state-requires g c = there-has c.self.invariant c.args.name (rw (← c.self.view_is) at c.requires.there)

pub invariant_of-self : goal.invariant_of-self
invariant_of-self g c = (gone g (goal.at.invariant_of-self g c).After-set_state).stored

pub returns : goal.returns
returns g c = rw (← c.self.view_is) (gone g (goal.at.returns g c).After-set_state).shared
