-- A stack tells its free segments (`Stack::free_count`): all but what its open nodes take.
use Rattle.cactus_stack.proofs.Steps.{all-taken}
use Rattle.cactus_stack.proofs.stack.Stack.free_count.Goals as goal

pub returns : goal.returns
returns g c =
    let all = all-taken _ _ _ c.self.invariant.stored c.self.view_is in rw (all.0, all.1) c.free_count.ensures
