-- A stack opens a node (`Stack::open`): it has the words and then zeros, under a number that was unused; it is refused
-- exactly where too few segments are free.
use Rattle.cactus_stack.proofs.Common.{◌≡◌, ◌+◌, Some, refl, sym, ap, ◌∙◌, arith, set, padded, IsUnused, with_node, IsUnder, Place}
use Rattle.cactus_stack.proofs.Steps.{Shows, is-read, depth-in_limits, free-is, opened}
use Rattle.cactus_stack.proofs.stack.Stack.open.Goals.{in-Some, in-None, After-index_mut}
use Rattle.cactus_stack.proofs.stack.Stack.open.Goals as goal

-- the step that the region made
step : (g : _) (c : After-index_mut g) → IsUnused c.args.self.now c.in-Some-fresh_chain.first
    × Shows c.fresh_chain.new.region (set c.self.inside.places.items c.in-Some-fresh_chain.first (record { len = c.args.size; parent = c.match-parent.parent; depth = c.match-parent.depth }))
    (with_node c.args.self.now c.in-Some-fresh_chain.first (Some (record { parent = c.match-parent.parent; words = padded c.args.words.now c.args.size })))
step g c =
    let under : IsUnder c.args.self.now c.self.inside.places.items c.match-parent.parent c.match-parent.depth = elim c.match-parent.branch [
      | in-Some w ↦
          (let is_open = rw w.in-Some.is at c.requires.parent_is_open in
          let of = is-read c.self.invariant.stored c.self.view_is is_open w.index.ensures w.first.ensures w.index-in-Some.ensures in
          rw (w.parent-is, w.depth-is) (is_open, ap (λ (p : Place). p.depth + 1) of.is))
      | in-None w ↦ rw (w.parent-is, w.in-None.is) w.depth-is
    ] in
    opened c.self.invariant c.self.view_is c.match-parent.parent c.match-parent.depth under c.requires.some c.requires.in_limits c.requires.room c.charge-count.ensures c.in-Some-fresh_chain.ensures

pub overflow_add-depth : goal.overflow_add-depth
overflow_add-depth g c =
    let is_open = rw c.in-Some.is at c.requires.parent_is_open in
    let of = is-read c.self.invariant.stored c.self.view_is is_open c.index.ensures c.first.ensures c.index-in-Some.ensures in
    omega (arith, ap (λ (p : Place). p.depth) of.is, depth-in_limits c.self.invariant c.self.view_is c.in-Some.node is_open)

pub returns-then-free_count-count-clause-refused : goal.returns-then-free_count-count-clause-refused
returns-then-free_count-count-clause-refused g c =
    let free = free-is c.self.invariant.stored c.self.view_is c.free_count.ensures in
    ((λ _. omega (arith, free, c.charge-count.ensures, c.if-free_count-count.true)), (λ _. refl))

pub invariant_of-self : goal.invariant_of-self
invariant_of-self g c = rw c.index-in-Some-fresh_chain.ensures (step g (goal.at.invariant_of-self g c).After-index_mut).1.1

pub returns-clause-was_unused : goal.returns-clause-was_unused
returns-clause-was_unused g c = rw c.of_segment.ensures (step g (goal.at.returns-clause-was_unused g c).After-index_mut).0

pub returns-clause-opened : goal.returns-clause-opened
returns-clause-opened g c =
    let parent : c.match-parent.parent ≡ c.args.parent = elim c.match-parent.branch [ in-Some w ↦ w.parent-is ∙ sym w.in-Some.is | in-None w ↦ w.parent-is ] in
    rw (c.index-in-Some-fresh_chain.ensures, c.of_segment.ensures, ← parent) (step g (goal.at.returns-clause-opened g c).After-index_mut).1.0

pub returns-clause-refused : goal.returns-clause-refused
returns-clause-refused g c =
    let free = free-is c.self.invariant.stored c.self.view_is c.free_count.ensures in
    ((λ h. absurd (cc h)), (λ h. absurd (omega (arith, h, free, c.charge-count.ensures, c.if-free_count-count.false))))
