-- The entries in a search's frame (`statuses::has_failed`): it says yes exactly where the entry's status is that
-- of a failed test.
use Rattle.jamboree.proofs.Common.{sym, ◌∙◌}
use Rattle.jamboree.proofs.StatusLemmas.{entry-some, entry-none}
use Rattle.jamboree.proofs.statuses.has_failed.Goals as goal

pub returns-in-Some : goal.returns-in-Some
returns-in-Some c = c.is_entry_of.ensures ∙ entry-some c.args.words.now c.args.number c.in-Some.entry 3 (sym c.in-Some.is ∙ c.entry.ensures)

pub returns-in-None : goal.returns-in-None
returns-in-None c = entry-none c.args.words.now c.args.number 3 (sym c.in-None.is ∙ c.entry.ensures)
