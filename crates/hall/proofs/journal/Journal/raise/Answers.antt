-- A tenant's journal in the hall gets an AdmitMore (`Journal::raise`): there is room for all entries that it has and
-- for the new ones; the long one stands for the step.
use Rattle.hall.proofs.Common.{◌≡◌, ◌+◌, ◌*◌, List, [], ◌∷◌, ◌++◌, length-append, refl, ap, ◌∙◌, arith, AdmitMore, JournalEntry, Long, Raised, JournalOf, longer, raise_count}
use Rattle.hall.proofs.Lists.{raise-more}
use Rattle.hall.proofs.Entries.{seen, counts, long_count-more, written-raise}
use Rattle.hall.proofs.journal.Journal.raise.Given.{Over}
use Rattle.hall.proofs.journal.Journal.raise.Goals.{After-push_reserved, After-push_reserved-2}
use Rattle.hall.proofs.journal.Journal.raise.Goals as goal

-- what a request for memory that was granted made
-- the entries and the long entries after the step
pushed : (g : Over) (c : After-push_reserved g) → c.push_reserved.new.self.items ≡ c.self.inside.entries.items ++ Long ∷ []
pushed g c = grind arith

added : (g : Over) (c : After-push_reserved-2 g) → c.push_reserved-2.new.self.items ≡ c.self.inside.longs.items ++ Raised c.args.reserve ∷ []
added g c = grind arith

-- they are those of the journal with the step
written : (g : Over) (c : After-push_reserved-2 g) →
    seen c.self.inside.tenant (16 * c.nodes.result + 770 + (c.self.inside.raises + 1)) (c.nodes-2.result + 513 + (c.self.inside.raises + 1)) c.push_reserved.new.self.items c.push_reserved-2.new.self.items
    ≡ longer (AdmitMore c.args.self.now.tenant c.args.reserve) c.args.self.now
written g c =
    let before = ap (λ (j : JournalOf). raise_count j.steps) c.self.view_is in
    let entries = c.push_reserved.ensures.items ∙ ap (λ (es : List JournalEntry). es ++ Long ∷ []) c.reserve_exact.ensures.items in
    written-raise c.self.inside.entries.items c.self.inside.longs.items c.self.view_is c.self.invariant.2 _ (Raised c.args.reserve) _ _ entries (added g c) refl _ _
    (omega (arith, c.nodes.ensures.value, c.self.invariant.3, before)) (omega (arith, c.nodes-2.ensures.value, c.self.invariant.3, before))

pub overflow_sub-places : goal.overflow_sub-places
overflow_sub-places g c =
    let are = counts _ _ c.self.view_is c.self.invariant.2 _ c.self.invariant.3 in grind arith

pub overflow_sub-long_places : goal.overflow_sub-long_places
overflow_sub-long_places g c =
    let are = counts _ _ c.self.view_is c.self.invariant.2 _ c.self.invariant.3 in grind arith

pub push_reserved-requires : goal.push_reserved-requires
push_reserved-requires g c =
    let are = counts _ _ c.self.view_is c.self.invariant.2 _ c.self.invariant.3 in
    grind arith

pub push_reserved-requires-2 : goal.push_reserved-requires-2
push_reserved-requires-2 g c =
    let are = counts _ _ c.self.view_is c.self.invariant.2 _ c.self.invariant.3 in
    grind arith

pub invariant_of-self-2 : goal.invariant_of-self-2
invariant_of-self-2 g c =
    let raises = ap (λ (j : JournalOf). raise_count j.steps) (written g (goal.at.invariant_of-self-2 g c).After-push_reserved-2) ∙ raise-more c.args.self.now.steps (AdmitMore c.args.self.now.tenant c.args.reserve) in grind (arith, pushed, long_count-more, added, length-append)

pub returns-clause-written : goal.returns-clause-written
returns-clause-written g c = written g (goal.at.returns-clause-written g c).After-push_reserved-2
