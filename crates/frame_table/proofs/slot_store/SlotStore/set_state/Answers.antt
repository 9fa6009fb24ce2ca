-- The frame table changes the state of one frame (`SlotStore::set_state`), whether its key was guessed or searched
-- for: that slot alone changes, the old state is returned, and the store stays sound.
use Rattle.frame_table.proofs.Keys.{key-searched, state-changes, state-store}
use Rattle.frame_table.proofs.slot_store.SlotStore.set_state.Goals as goal

pub invariant_of-self : goal.invariant_of-self
invariant_of-self g c =
    let put = c.put_state.ensures in
    state-store c.self.invariant c.in-Some.ensures.1 put.len put.put put.capacity

pub invariant_of-self-in-None : goal.invariant_of-self-in-None
invariant_of-self-in-None g c =
    let k = c.search_key-key.ensures in
    let at = key-searched (rw (← c.self.view_is) at c.requires.index) k.1 k.2 k.3 in
    let put = c.put_state-in-None.ensures in
    state-store c.self.invariant at put.len put.put put.capacity

pub returns-in-Some : goal.returns-in-Some
returns-in-Some g c =
    let put = c.put_state.ensures in
    rw (← c.self.view_is) (state-changes c.self.invariant c.in-Some.ensures.1 put.len put.put put.was)

pub returns-in-None : goal.returns-in-None
returns-in-None g c =
    let k = c.search_key-key.ensures in
    let at = key-searched (rw (← c.self.view_is) at c.requires.index) k.1 k.2 k.3 in
    let put = c.put_state-in-None.ensures in
    rw (← c.self.view_is) (state-changes c.self.invariant at put.len put.put put.was)
