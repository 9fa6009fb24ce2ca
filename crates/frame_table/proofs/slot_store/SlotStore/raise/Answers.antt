-- The frame table gets more places for slots (`SlotStore::raise`): the slots stay, whichever step is refused memory.
use Rattle.frame_table.proofs.Keys.{are-keys}
use Rattle.frame_table.proofs.SlotStores.{roomy-len, roomy-same, roomy-store}
use Rattle.std.proofs.Common.{ap, arith, length, ◌≤◌}
use Rattle.frame_table.proofs.slot_store.SlotStore.raise.Goals as goal

pub invariant_of-self-in_err-reserve : goal.invariant_of-self-in_err-reserve
invariant_of-self-in_err-reserve g c =
    rw c.raise.ensures.list (roomy-same c.reserve.ensures.rest_kept c.self.invariant c.raise.ensures.kept c.reserve.ensures.capacity)

pub invariant_of-self-in_err-guesses : goal.invariant_of-self-in_err-guesses
invariant_of-self-in_err-guesses g c =
    rw c.raise.ensures.list (roomy-same c.reserve.ensures.rest_kept c.self.invariant c.raise.ensures.kept c.reserve.ensures.capacity)

pub invariant_of-self-2 : goal.invariant_of-self-2
invariant_of-self-2 g c =
    let more : c.self.inside.places ≤ c.args.places = rw (← c.self.view_is) at c.requires.more in
    let same = roomy-len c.self.inside.slab c.reserve.new.self c.reserve.ensures.rest_kept in
    let room = c.in_ok-reserve.ensures.room in
    let long = ap length c.raise.ensures.list in
    rw c.raise.ensures.list (roomy-store c.reserve.ensures.rest_kept c.self.invariant more
    (omega (arith, same, room, long, c.len.ensures, c.self.invariant.counted, c.self.invariant.within, more)) c.in_ok-raise.ensures.more)

pub guess_all-requires : goal.guess_all-requires
guess_all-requires g c =
    rw c.raise.ensures.list (are-keys (roomy-same c.reserve.ensures.rest_kept c.self.invariant c.raise.ensures.kept c.reserve.ensures.capacity))
