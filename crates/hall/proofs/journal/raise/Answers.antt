-- The hall raises a journal among all (`journal::raise`): the one that is raised is the tenant's.
use Rattle.hall.proofs.Common.{◌≡◌, ℕ, List, Result, Ok, Err, ap, ◌∙◌, arith, StepOf, AdmitMore, LeafAnswer, owner_of_journal, journal_in, longer, put-changed, put-same, raise_count, said-found, thing-own}
use Rattle.std.specs.Prelude.{OnErr}
use Rattle.hall.proofs.journal.raise.Given.{Over}
use Rattle.hall.proofs.journal.raise.Goals.{After-get_mut-journal}
use Rattle.hall.proofs.journal.raise.Goals as goal
use Rattle.std.proofs.lemmas.Result.{on_ok_weaker}

on-err : {T E P Q : Type 0} (answer : Result T E) → (P → Q) → OnErr answer P → OnErr answer Q
on-err (Ok value) to it = tt
on-err (Err error) to it = to it

-- the journal that was read is the tenant's
own : (g : Over) (c : After-get_mut-journal g) → c.get_mut-journal.result.now.tenant ≡ c.args.tenant
own g c = grind (arith, thing-own)

steps : (g : Over) (c : After-get_mut-journal g) → journal_in c.args.journals.now c.args.tenant ≡ c.get_mut-journal.result.now.steps
steps g c = grind (arith, said-found)

pub raise-requires-clause-few : goal.raise-requires-clause-few
raise-requires-clause-few g c =
    let raises = ap (λ (steps : List (StepOf LeafAnswer)). raise_count steps) (steps g (goal.at.raise-requires-clause-few g c).After-get_mut-journal) in omega (arith, raises, c.requires.few)

pub raise-requires-clause-place : goal.raise-requires-clause-place
raise-requires-clause-place g c =
    let same = steps g (goal.at.raise-requires-clause-place g c).After-get_mut-journal in grind (arith, steps)

pub raise-requires-clause-long : goal.raise-requires-clause-long
raise-requires-clause-long g c =
    let same = steps g (goal.at.raise-requires-clause-long g c).After-get_mut-journal in grind (arith, steps)

pub raise-requires-clause-taken : goal.raise-requires-clause-taken
raise-requires-clause-taken g c = rw (own g (goal.at.raise-requires-clause-taken g c).After-get_mut-journal) c.requires.taken

pub returns-clause-one : goal.returns-clause-one
returns-clause-one g c = rw (own g (goal.at.returns-clause-one g c).After-get_mut-journal) at c.raise.ensures.one

pub returns-clause-written : goal.returns-clause-written
returns-clause-written g c =
    let at = (goal.at.returns-clause-written g c).After-get_mut-journal in
    on_ok_weaker c.raise.result
    (λ written. put-changed owner_of_journal c.args.tenant (longer (AdmitMore c.args.tenant c.args.reserve)) c.args.journals.now c.get_mut-journal.result.now c.raise.new.self c.get_mut-journal.ensures.value
    (written ∙ ap (λ (n : ℕ). longer (AdmitMore n c.args.reserve) c.get_mut-journal.result.now) (own g at))) c.raise.ensures.written

pub returns-clause-refused : goal.returns-clause-refused
returns-clause-refused g c = grind (arith, on-err, put-same)
