-- The promise on values (`value_in`): what a hall tells of a done job is the minimax value and the best choice of what
-- was asked.
use Rattle.promises.proofs.Common.{◌∙◌, rules, w32, to_z-of_z, SFits}
use Rattle.promises.proofs.HallLemmas.{value-of}
use Rattle.promises.proofs.value_in.Goals as goal

pub returns-in-Some-Done : goal.returns-in-Some-Done
returns-in-Some-Done g c =
    let fits : SFits w32 c.value.result = search rules in
    let asked = rw c.in-Some-Done.field-0-is at c.in-Some-Done.ensures.asked in
    let value = to_z-of_z w32 c.value.result fits ∙ c.value.ensures in
    value-of _ c.args.job c.in-Some-Done.reply (c.count-count.ensures.explained.searches c.args.tenant) asked _ _ value c.choice.ensures
