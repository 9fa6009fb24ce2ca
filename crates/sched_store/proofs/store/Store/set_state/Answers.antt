-- The core's store puts a frame into a state without a worker (`Store::set_state`): that frame alone changes, no
-- worker's place does, and the store is sound.
use Rattle.sched_store.proofs.Lookups.{parts_of, there-frame, there-has}
use Rattle.sched_store.proofs.FrameSteps.{StateSet, unheld-set}
use Rattle.sched_store.proofs.store.Store.set_state.Goals.{After-set_state}
use Rattle.sched_store.proofs.store.Store.set_state.Goals as goal

-- the frame has the state, and no worker another place
unheld : (g : _) (c : After-set_state g) → StateSet (parts_of c.self.inside) c.set_state.new.self (parts_of c.self.inside).places c.args.name c.args.state
unheld g c =
    let own = there-frame c.self.invariant c.args.name (rw (← c.self.view_is) at c.requires.there) in
    unheld-set c.args.name c.args.state c.self.invariant (record { frames = c.set_state.ensures.frames; kept = c.set_state.ensures.kept }) own.1 c.requires.nobody

pub set_state-requires : goal.set_state-requires
set_state-requires g c = there-has c.self.invariant c.args.name (rw (← c.self.view_is) at c.requires.there)

pub invariant_of-self : goal.invariant_of-self
invariant_of-self g c = (unheld g (goal.at.invariant_of-self g c).After-set_state).stored

pub returns : goal.returns
returns g c = rw (← c.self.view_is) (unheld g (goal.at.returns g c).After-set_state).shared
