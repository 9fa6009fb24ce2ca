-- The promise that an entry is true (`entry_in`): the hall's reply to the job has the entry, which is true of what the
-- job's Submit asked for.
use Rattle.promises.proofs.HallLemmas.{entry-in}
use Rattle.promises.proofs.entry_in.Goals as goal

pub returns-in-Some-Done : goal.returns-in-Some-Done
returns-in-Some-Done g c =
    let asked = rw c.in-Some-Done.field-0-is at c.in-Some-Done.ensures.asked in
    let searches = c.count-count.ensures.explained.searches c.args.tenant in
    entry-in _ c.args.job c.in-Some-Done.reply searches asked _ c.args.number c.bound_count-entries.ensures.table c.bound.result c.bound.ensures.value
