-- A tenant's journal in the hall gets a step (`Journal::write`): there is room for the entry, which stands for the
-- step.
use Rattle.hall.proofs.Common.{None, ap, sym, ◌∙◌, arith, JournalOf, raise_count}
use Rattle.hall.proofs.Lists.{counted-after}
use Rattle.hall.proofs.Entries.{has-room, written-short, long_count-more}
use Rattle.hall.proofs.journal.Journal.write.Goals as goal

pub push_reserved-requires : goal.push_reserved-requires
push_reserved-requires g c =
    let room = has-room _ _ c.self.view_is c.self.invariant.2 c.requires.place in
    omega (arith, room, c.self.invariant.0, c.self.inside.entries.ok.0)

pub invariant_of-self : goal.invariant_of-self
invariant_of-self g c =
    let short = sym c.is_long.ensures ∙ c.if-is_long.false in
    let more = rw short at (long_count-more c.of-entry.result c.self.inside.entries.items) in
    let done = written-short _ _ c.self.view_is _ _ c.args.step.now c.push_reserved.ensures.items short (rw c.requires.own at (c.of-entry.ensures.short short)) in
    let raises = ap (λ (j : JournalOf). raise_count j.steps) done ∙ counted-after c.args.step.now c.args.self.now.steps None c.requires.raises_not in grind arith

pub returns : goal.returns
returns g c =
    let short = sym c.is_long.ensures ∙ c.if-is_long.false in
    written-short _ _ c.self.view_is _ _ c.args.step.now c.push_reserved.ensures.items short (rw c.requires.own at (c.of-entry.ensures.short short))
