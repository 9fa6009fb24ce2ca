-- The frame table's guess where a frame's slot is (`slot_store::guessed_key`): a key that is returned is the key of
-- the slot with that serial.
use Rattle.frame_table.proofs.Keys.{key-found}
use Rattle.std.proofs.Common.{sym}
use Rattle.frame_table.proofs.slot_store.guessed_key.Goals as goal

pub returns-then-kept-serial : goal.returns-then-kept-serial
returns-then-kept-serial g c = key-found c.requires (sym c.in-Some.ensures) c.if-kept-serial.true
