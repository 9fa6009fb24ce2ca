-- A root's next act (`next::of_root`): one that isn't new goes on as any frame does.
use Rattle.std.proofs.Common.{None}
use Rattle.jamboree.proofs.next.of_root.Goals as goal

pub returns-in_default : goal.returns-in_default
returns-in_default c = c.later.ensures c.args.grain None
