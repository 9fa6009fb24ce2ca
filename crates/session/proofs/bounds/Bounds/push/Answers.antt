-- The entries of a TABLE line (`Bounds::push`): one more than fewer than 64 is still within the list.
use Rattle.session.proofs.Common.{◌<◌, length, subst, sym}
use Rattle.session.proofs.PlaceLemmas.{one_more-held}
use Rattle.session.proofs.bounds.Bounds.push.Goals as goal

pub invariant_of-self : goal.invariant_of-self
invariant_of-self c = one_more-held c.self.inside _ c.self.invariant (subst (λ l. length l < 64) (sym c.self.view_is) c.requires)
