-- The hall raises a tenant's reservation (`Hall::raise`): taken, the step goes on in its tenant's journal.
use Rattle.hall.proofs.Common.{◌≡◌, ℕ, ◌+◌, true, refl, ap, sym, ◌∙◌, rules, OnOk, is_ok, false≢true}
use Rattle.std.specs.Prelude.{Result, Ok, Err}
use Rattle.hall.proofs.Halls.{on-ok, is-ready, goes-on-where-ok}
use Rattle.hall.proofs.hall.Hall.raise.Goals as goal

ok-then : {T E P : Type 0} (answer : Result T E) → is_ok answer ≡ true → OnOk answer P → P
ok-then (Ok value) ok it = it
ok-then (Err error) ok it = absurd (false≢true ok)

pub raise-answer-requires-clause-there : goal.raise-answer-requires-clause-there
raise-answer-requires-clause-there g c = (is-ready c.self.invariant c.args.number c.args.reserve (rw (← c.self.view_is) at c.requires)).has

pub raise-answer-requires-clause-few : goal.raise-answer-requires-clause-few
raise-answer-requires-clause-few g c = (is-ready c.self.invariant c.args.number c.args.reserve (rw (← c.self.view_is) at c.requires)).few

pub raise-answer-requires-clause-place : goal.raise-answer-requires-clause-place
raise-answer-requires-clause-place g c = (is-ready c.self.invariant c.args.number c.args.reserve (rw (← c.self.view_is) at c.requires)).place

pub raise-answer-requires-clause-long : goal.raise-answer-requires-clause-long
raise-answer-requires-clause-long g c = (is-ready c.self.invariant c.args.number c.args.reserve (rw (← c.self.view_is) at c.requires)).long

pub invariant_of-self : goal.invariant_of-self
invariant_of-self g c =
    let ok = sym c.is_ok.ensures.value ∙ c.if-is_ok.true in
    let known = ok-then c.raise-answer.result ok c.raise-answer.ensures.known in
    let on = goes-on-where-ok c.self.invariant _ ok c.raise-answer.ensures.one refl c.raise-answer.ensures.limits tt known in
    rw (c.raise-answer.ensures.procedure, ok-then c.raise-answer.result ok c.raise-answer.ensures.written) on.keeps

pub returns-then-is_ok : goal.returns-then-is_ok
returns-then-is_ok g c = record {
  one = search rules;
  taken = search rules;
  refused = search rules;
  count = on-ok c.raise-answer.result (rw (← c.self.view_is) (sym (invariant_of-self g c).counted ∙ ap (λ (n : ℕ). n + 1) c.self.invariant.counted));
}
