-- Of a frame that stores each answer beyond its words: it has no answer that it can take.
use Rattle.std.proofs.Common.{sym}
use Rattle.std.proofs.lemmas.Bool.{false≢true}
use Rattle.toys.proofs.going_rows.one_that_no_answer_fits.Goals as goal

pub returns-clause-none : goal.returns-clause-none
returns-clause-none c has = false≢true (sym has.2)
