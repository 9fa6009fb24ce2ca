-- The hall admits a tenant that the core doesn't refuse (`Hall::let_in`): the new journal stands behind all others, as
-- its tenant is the newest.
use Rattle.hall.proofs.Common.{◌≡◌, ℕ, ◌+◌, [], ◌∷◌, ◌++◌, sym, ◌∙◌, ap, arith, admitted_journal}
use Rattle.hall.proofs.Halls.{admitted, is-free, is-last}
use Rattle.hall.proofs.hall.Hall.let_in.Given.{Over}
use Rattle.hall.proofs.hall.Hall.let_in.Goals.{After-insert}
use Rattle.hall.proofs.hall.Hall.let_in.Goals as goal

-- the journals with the new one
added : (g : Over) (c : After-insert g) → c.insert.new.self ≡ c.self.inside.journals ++ admitted_journal c.args.number c.args.reserve ∷ []
added g c =
    let last = is-last c.self.invariant c.args.number c.args.reserve (rw (← c.self.view_is) at c.requires) in grind arith

pub insert-requires-clause-room : goal.insert-requires-clause-room
insert-requires-clause-room g c = is-free c.self.invariant c.args.number c.args.reserve (rw (← c.self.view_is) at c.requires)

pub invariant_of-self : goal.invariant_of-self
invariant_of-self g c =
    let none = rw (← c.self.view_is) at c.requires in
    rw (c.step.ensures.procedure, added g (goal.at.invariant_of-self g c).After-insert)
    (admitted c.self.invariant (rw c.in-Ok-step.is at c.step.ensures.one) none c.new.ensures.limits c.step.ensures.known)

pub returns-in-Ok-step : goal.returns-in-Ok-step
returns-in-Ok-step g c = record {
  one = grind arith;
  taken = rw (← c.self.view_is, c.step.ensures.procedure, added g (goal.at.returns-in-Ok-step g c).After-insert) (grind arith);
  refused = tt;
  count = rw (← c.self.view_is) (sym (invariant_of-self g c).counted ∙ ap (λ (n : ℕ). n + 1) c.self.invariant.counted);
}
