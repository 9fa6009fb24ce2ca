-- A tenant's journal in the hall gets a step with a long entry (`Journal::write_long`): there is room for both
-- entries, and the long one stands for the step.
use Rattle.hall.proofs.Common.{length-append, arith, Long}
use Rattle.hall.proofs.Lists.{counted-after}
use Rattle.hall.proofs.Entries.{has-room, has-long-room, written-long, long_count-more}
use Rattle.hall.proofs.journal.Journal.write_long.Goals as goal

pub push_reserved-requires : goal.push_reserved-requires
push_reserved-requires g c =
    let room = has-room _ _ c.self.view_is c.self.invariant.2 c.requires.writable.place in
    omega (arith, room, c.self.invariant.0, c.self.inside.entries.ok.0)

pub push_reserved-requires-2 : goal.push_reserved-requires-2
push_reserved-requires-2 g c =
    let room = has-long-room _ _ c.self.view_is c.self.invariant.2 (c.requires.writable.long c.requires.long) in
    omega (arith, room, c.self.invariant.1, c.self.inside.longs.ok.0)

pub invariant_of-self : goal.invariant_of-self
invariant_of-self g c =
    let more = long_count-more Long c.self.inside.entries.items in
    let done = written-long _ _ c.self.view_is c.self.invariant.2 _ _ _ c.args.step.now c.push_reserved.ensures.items c.push_reserved-2.ensures.items (rw c.requires.writable.own at c.of.ensures) in grind (arith, counted-after, length-append)

pub returns : goal.returns
returns g c = written-long _ _ c.self.view_is c.self.invariant.2 _ _ _ c.args.step.now c.push_reserved.ensures.items c.push_reserved-2.ensures.items (rw c.requires.writable.own at c.of.ensures)
