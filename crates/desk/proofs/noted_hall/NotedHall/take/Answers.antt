-- A hall with its history is offered a step of a maker (`NotedHall::take`): taken, it is the history's new end and the
-- maker's own; refused, hall and history stay. The maker has then seen all of the history.
use Rattle.desk.proofs.Common.{◌≡◌, ℕ, ◌≤◌, List, sym, ap, ◌∙◌, subst, refl, arith, OnOk, Ok, Err, Result, DidOf, Leaf, Refusal, tenant_of, Known, HasCome, own as own_by, newest_after, with_taken, IsTrueTo}
use Rattle.desk.proofs.Coming.{come-offered, leave-taken, no-leave-taken, told}
use Rattle.desk.proofs.Judged.{newest-stays}
use Rattle.desk.proofs.Noting.{moved}
use Rattle.desk.proofs.Owners.{Step, Entries, seats-taken, steps-are-mine}
use Rattle.desk.proofs.noted_hall.NotedHall.take.Goals as goal

pub returns-clause-step : goal.returns-clause-step
returns-clause-step g c =
    let o = c.offer-answer.ensures in
    rw (← c.self.view_is) (record { one = o.one; taken = o.taken; refused = o.refused; count = o.count })

not-fewer : (was now : ℕ) (step : Step) (answer : Result (DidOf Leaf) Refusal) → newest_after was step ≡ was → OnOk answer (now ≡ newest_after was step) → OnOk answer (was ≤ now)
not-fewer was now step (Ok did) same is = omega (arith, same, is)
not-fewer was now step (Err refusal) same is = tt

pub returns-clause-moved : goal.returns-clause-moved
returns-clause-moved g c =
    let o = c.offer-answer.ensures in
    let before = c.self.inside.hall in
    let after = c.offer-answer.new.self in
    let step = c.args.step.now in
    let answer = c.offer-answer.result in
    let more = not-fewer before.shared.newest after.shared.newest step answer (newest-stays before.shared.newest step c.requires.admitted) o.newest in
    rw (← c.self.view_is) (moved before after step answer o.taken o.refused o.count more o.explained)

pub returns-clause-come : goal.returns-clause-come
returns-clause-come g c = λ begun come.
    let o = c.offer-answer.ensures in
    let k = c.args.token.now.known in
    let here = subst (HasCome begun) (sym c.self.view_is) come in
    rw c.note.ensures.history
    (come-offered c.self.inside.hall here c.offer-answer.new.self k.maker k.mine c.args.step.now c.offer-answer.result c.requires.admitted c.requires.owner c.note.ensures.own o.one o.taken o.refused o.newest o.explained)

pub returns-clause-told : goal.returns-clause-told
returns-clause-told g c = λ begun come.
    let k = c.args.token.now.known in
    let note = c.note.ensures in
    let step = c.args.step.now in
    let answer = c.offer-answer.result in
    let here = subst (HasCome begun) (sym c.self.view_is) come in
    let token = note.token ∙ ap (λ (l : Entries). record { maker = k.maker; seen = l; mine = with_taken k.mine step answer }) note.history in
    told c.self.inside.hall here c.offer-answer.new.self step answer k c.note.new.token.known c.offer-answer.ensures.one note.seen note.own token

pub returns-clause-owner : goal.returns-clause-owner
returns-clause-owner g c = λ own.
    let step = c.args.step.now in
    let t = tenant_of step in
    rw c.note.ensures.token (seats-taken t step own refl c.args.token.now.known.mine c.offer-answer.result (c.requires.owner own))

pub returns-clause-stays : goal.returns-clause-stays
returns-clause-stays g c = λ other none_left. rw c.note.ensures.token (no-leave-taken c.args.step.now other c.args.token.now.known.mine c.offer-answer.result none_left)

pub returns-clause-left : goal.returns-clause-left
returns-clause-left g c = λ begun come is none_left.
    let k = c.args.token.now.known in
    let answer = c.offer-answer in
    let here = subst (HasCome begun) (sym c.self.view_is) come in
    leave-taken c.self.inside.hall here answer.new.self k.maker k.mine c.args.step.now answer.result is c.requires.owner none_left c.note.ensures.own answer.ensures.one

pub returns-clause-true_to : goal.returns-clause-true_to
returns-clause-true_to g c = λ begun come own.
    let o = c.offer-answer.ensures in
    let k = c.args.token.now.known in
    let step = c.args.step.now in
    let t = tenant_of step in
    let answer = c.offer-answer.result in
    let r = c.requires in
    let here = subst (HasCome begun) (sym c.self.view_is) come in
    let log : Entries = with_taken c.self.inside.log.entries (k.maker, step) answer in
    let mine : List Step = with_taken k.mine step answer in
    let after = come-offered c.self.inside.hall here c.offer-answer.new.self k.maker k.mine step answer r.admitted r.owner c.note.ensures.own o.one o.taken o.refused o.newest o.explained in
    let is : c.note.new.token.known ≡ record { maker = k.maker; seen = log; mine = mine } =
    c.note.ensures.token ∙ ap (λ (l : Entries). record { maker = k.maker; seen = l; mine = mine }) c.note.ensures.history in
    let whose : own_by k.maker log ≡ mine = subst (λ (x : Known Step). own_by x.maker x.seen ≡ x.mine) is c.recall.ensures in
    subst (λ (x : Known Step). IsTrueTo begun t x) (sym is)
    (after.legal, steps-are-mine k.maker log after.owners t mine (seats-taken t step own refl k.mine answer (r.owner own)) whose)
