-- The core's store looks up a frame's node (`store::node_of`): a frame that is there has one, so the case without is
-- never reached.
use Rattle.sched_store.proofs.Lookups.{sym, ◌∙◌, frame_at, frames_of, there-found, entry-none}
use Rattle.sched_store.proofs.store.node_of.Goals as goal

pub unreachable-requires : goal.unreachable-requires
unreachable-requires g c =
    let none = entry-none c.args.name.tenant (frame_at (frames_of c.args.table.now c.args.name.tenant) c.args.name.serial) (sym c.in-None.is ∙ c.find.ensures.entry) in
    cc (none, (there-found (frames_of c.args.table.now c.args.name.tenant) c.args.name.serial c.requires).1)
