-- A stack shows what a node sees (`Stack::sight`): the node's own words, and those of each parent above it.
use Rattle.cactus_stack.proofs.Steps.{is-read, sight-of}
use Rattle.cactus_stack.proofs.stack.Stack.sight.Goals as goal

pub of-requires : goal.of-requires
of-requires g c =
    let of = is-read c.self.invariant.stored c.self.view_is c.requires c.index.ensures c.first.ensures c.index-2.ensures in
    rw (c.view.ensures, of.is) (sight-of c.self.invariant c.self.view_is c.args.node c.requires)

pub returns : goal.returns
returns g c =
    let of = is-read c.self.invariant.stored c.self.view_is c.requires c.index.ensures c.first.ensures c.index-2.ensures in
    rw (c.of.ensures, c.view.ensures, of.is) (sight-of c.self.invariant c.self.view_is c.args.node c.requires).is_sight
