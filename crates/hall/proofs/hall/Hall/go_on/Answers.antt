-- The hall does a step that is no admission and no Leave (`Hall::go_on`): taken, it goes on in its tenant's journal.
use Rattle.hall.proofs.Common.{ℕ, ◌+◌, true, ap, sym, ◌∙◌, rules, is_ok, is_appended, raise_in}
use Rattle.hall.proofs.Lists.{IsAllowed}
use Rattle.hall.proofs.Halls.{on-ok, goes-on-where-ok}
use Rattle.hall.proofs.hall.Hall.go_on.Goals as goal

pub write-requires : goal.write-requires
write-requires g c =
    let need = c.requires in
    let allowed : IsAllowed (raise_in c.args.step.now) = rw need.raises_not tt in
    let on = goes-on-where-ok c.self.invariant _ (sym c.is_ok.ensures.value ∙ c.if-is_ok.true) c.step-answer.ensures.one need.is_appended allowed need.search c.step-answer.ensures.known in
    record {
      rising = search rules;
      own = need.own;
      serial = on.serial;
      there = rw (← need.own) on.has;
      place = rw (← need.own) (on.place need.raises_not);
      long = rw (← need.own) (on.long need.raises_not);
      is_appended = need.is_appended;
      search = need.search;
      raises_not = need.raises_not;
    }

pub invariant_of-self : goal.invariant_of-self
invariant_of-self g c =
    let need = c.requires in
    let allowed : IsAllowed (raise_in c.args.step.now) = rw need.raises_not tt in
    let on = goes-on-where-ok c.self.invariant _ (sym c.is_ok.ensures.value ∙ c.if-is_ok.true) c.step-answer.ensures.one need.is_appended allowed need.search c.step-answer.ensures.known in
    rw (c.step-answer.ensures.procedure, c.write.ensures, ← need.own) on.keeps

pub returns-then-is_ok-clause-decided : goal.returns-then-is_ok-clause-decided
returns-then-is_ok-clause-decided g c = record {
  one = rw (← c.self.view_is) c.step-answer.ensures.one;
  taken = search rules;
  refused = search rules;
  count = on-ok c.step-answer.result (rw (← c.self.view_is) (sym (invariant_of-self g c).counted ∙ ap (λ (n : ℕ). n + 1) c.self.invariant.counted));
}

pub returns-else-is_ok-clause-decided : goal.returns-else-is_ok-clause-decided
returns-else-is_ok-clause-decided g c = record { one = rw (← c.self.view_is) c.step-answer.ensures.one; taken = search rules; refused = search rules; count = search rules }
