-- A stack closes a node (`Stack::close`): without it the other nodes are stored as before.
use Rattle.cactus_stack.proofs.Common.{[], ◌∷◌, refl, ◌∙◌}
use Rattle.cactus_stack.proofs.LawFacts.{alone}
use Rattle.cactus_stack.proofs.Steps.{closed, depths-stay}
use Rattle.cactus_stack.proofs.stack.Stack.close.Goals as goal

pub invariant_of-self : goal.invariant_of-self
invariant_of-self g c =
    closed c.self.invariant c.self.view_is (c.args.node ∷ []) c.free.ensures.stored (c.free.ensures.closed ∙ rw c.self.view_is refl)
    (λ m. rw c.free.ensures.length_alone (depths-stay c.self.inside.places.items c.args.node 0 m)) (alone c.args.self.now c.args.node c.requires.no_child)
