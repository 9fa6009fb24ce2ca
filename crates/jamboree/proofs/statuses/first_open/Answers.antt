-- The entries in a search's frame (`statuses::first_open`): the number found is that of the first choice that
-- isn't settled.
use Rattle.jamboree.proofs.Common.{◌∙◌, ap}
use Rattle.std.proofs.Common.{ℕ, ◌+◌}
use Rattle.jamboree.proofs.StatusLemmas.{open-found}
use Rattle.jamboree.proofs.statuses.first_open.Goals as goal

pub returns-then-open-entries-clause-value : goal.returns-then-open-entries-clause-value
returns-then-open-entries-clause-value c =
    ap (λ (n : ℕ). n + c.open_in-open.result) c.first_number.ensures
    ∙ open-found c.args.words.now c.entries-entries.result.now c.loop-number.number c.entries-entries.ensures c.open_in-open.result c.open_in-open.ensures
    c.if-open-entries.true c.requires c.loop-number.invariant
