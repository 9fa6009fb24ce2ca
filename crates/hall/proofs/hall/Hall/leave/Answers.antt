-- The hall does a tenant's Leave (`Hall::leave`): the tenant's own journal is taken out, and its steps are counted as
-- gone; or the step is refused, and nothing changes.
use Rattle.hall.proofs.Common.{arith, ◌≡◌, ℕ, ◌+◌, length, sym, ◌∙◌, ap, refl, rules, journal_in, said-found}
use Rattle.hall.proofs.Halls.{leaves-off}
use Rattle.hall.proofs.hall.Hall.leave.Given.{Over}
use Rattle.hall.proofs.hall.Hall.leave.Goals.{After-len}
use Rattle.hall.proofs.hall.Hall.leave.Goals as goal

-- the journal that was taken out is the tenant's
long : (g : Over) (c : After-len g) → c.len.result ≡ length (journal_in c.self.inside.journals c.args.number)
long g c = grind (arith, said-found)

pub remove-journal-requires-clause-there : goal.remove-journal-requires-clause-there
remove-journal-requires-clause-there g c =
    (leaves-off c.self.invariant (rw c.in-Ok.is at c.step.ensures.one) c.step.ensures.known).has

pub invariant_of-self : goal.invariant_of-self
invariant_of-self g c =
    let off = leaves-off c.self.invariant (rw c.in-Ok.is at c.step.ensures.one) c.step.ensures.known in
    rw (c.step.ensures.procedure, c.remove-journal.ensures.list, long g (goal.at.invariant_of-self g c).After-len) off.keeps

pub returns-in-Ok-clause-decided : goal.returns-in-Ok-clause-decided
returns-in-Ok-clause-decided g c = record {
  one = rw (← c.self.view_is) (rw c.in-Ok.is at c.step.ensures.one);
  taken = rw (← c.self.view_is, c.step.ensures.procedure, c.remove-journal.ensures.list, long g (goal.at.returns-in-Ok-clause-decided g c).After-len) refl;
  refused = tt;
  count = rw (← c.self.view_is) (sym (invariant_of-self g c).counted ∙ ap (λ (n : ℕ). n + 1) c.self.invariant.counted);
}

pub returns-in-Err-clause-decided : goal.returns-in-Err-clause-decided
returns-in-Err-clause-decided g c = record { one = rw (← c.self.view_is) (rw c.in-Err.is at c.step.ensures.one); taken = tt; refused = search rules; count = tt }
