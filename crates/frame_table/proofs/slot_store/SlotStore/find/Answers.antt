-- The frame table finds a frame's slot by serial (`SlotStore::find`): where the guessed key was right, the slot is the
-- one of that serial.
use Rattle.frame_table.proofs.Keys.{are-keys, key-found, seen-at}
use Rattle.std.proofs.Common.{sym}
use Rattle.frame_table.proofs.slot_store.SlotStore.find.Goals as goal

pub returns-then-kept-serial-clause-found : goal.returns-then-kept-serial-clause-found
returns-then-kept-serial-clause-found g c =
    let are = are-keys c.self.invariant in
    let key = key-found are (sym c.in-Some.ensures) c.if-kept-serial.true in
    rw (← c.self.view_is) (key.0, seen-at are key.1 (sym c.in-Some.ensures))
