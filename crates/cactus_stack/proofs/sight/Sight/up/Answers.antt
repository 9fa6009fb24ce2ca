-- What a node of a stack sees (`Sight::up`): going up one parent for each level ends at that level's words, or at None
-- above the root.
use Rattle.cactus_stack.proofs.Common.{◌≡◌, ◌+◌, suc, [], Some, None, sym, ◌∙◌, arith, slice_get-get_or, node_parent}
use Rattle.cactus_stack.proofs.LawFacts.{sight-step, no-sight}
use Rattle.cactus_stack.proofs.sight.Sight.up.Goals as goal

pub parent-requires : goal.parent-requires
parent-requires c =
    let level = sight-step c.loop-above.node c.self.invariant c.self.view_is c.if-level-self.false c.loop-above.auto._above-end c.loop-above.invariant in level.0

pub unreachable-requires : goal.unreachable-requires
unreachable-requires c =
    let level = sight-step c.loop-above.node c.self.invariant c.self.view_is c.if-level-self.false c.loop-above.auto._above-end c.loop-above.invariant in
    let none : node_parent c.self.inside.stack c.loop-above.node ≡ None = sym c.parent.ensures ∙ c.in-None.is in
    no-sight c.self.inside.stack c.args.self.now (suc c.loop-above._above) (omega (arith, level.3, c.if-level-self.false, c.loop-above-test.true)) (rw none at level.2)

pub loop-above-preserved : goal.loop-above-preserved
loop-above-preserved c =
    let level = sight-step c.loop-above.node c.self.invariant c.self.view_is c.if-level-self.false c.loop-above.auto._above-end c.loop-above.invariant in
    let some : node_parent c.self.inside.stack c.loop-above.node ≡ Some c.in-Some.parent = sym c.parent.ensures ∙ c.in-Some.is in
    let next : c.loop-above._above + 1 ≡ suc c.loop-above._above = omega arith in
    rw next (rw some at level.2)

pub own-requires : goal.own-requires
own-requires c =
    let level = sight-step c.loop-above.node c.self.invariant c.self.view_is c.if-level-self.false c.loop-above.auto._above-end c.loop-above.invariant in level.0

pub returns : goal.returns
returns c =
    let level = sight-step c.loop-above.node c.self.invariant c.self.view_is c.if-level-self.false c.loop-above.auto._above-end c.loop-above.invariant in
    let end : c.loop-above._above ≡ c.args.level = omega (arith, c.loop-above-test.false, c.loop-above.auto._above-end) in
    rw (c.own.ensures, level.1, end) (sym (slice_get-get_or c.args.self.now c.args.level [] (omega (arith, level.3, c.if-level-self.false))))
