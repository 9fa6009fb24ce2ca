-- A new stack (`Stack::new`): it has no node, and all its segments are free.
use Rattle.cactus_stack.proofs.Steps.{none-at-first, stack-at-first}
use Rattle.cactus_stack.proofs.stack.Stack.new.Goals as goal

pub invariant_of-result : goal.invariant_of-result
invariant_of-result g c = rw (c.in_ok-region.ensures, c.in_ok-places.ensures.items_if_clones_equal (λ y h. h)) (stack-at-first c.args.segments c.requires.in_limits)

pub returns : goal.returns
returns g c = rw (c.in_ok-places.ensures.items_if_clones_equal (λ y h. h)) (none-at-first c.in_ok-region.region c.args.segments 0)
