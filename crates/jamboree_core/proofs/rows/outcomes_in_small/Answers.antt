-- Rows of outcomes: the words of a job by its number, and what is no outcome, by computing the definitions.
use Rattle.jamboree_core.proofs.Common.{refl}
use Rattle.jamboree_core.proofs.rows.outcomes_in_small.Goals as goal

pub returns : goal.returns
returns c = record { first = refl; second = refl; zeroth = refl; third = refl; pending = tt; forgotten = λ is. is; unasked = λ is. is; spent = refl; live = λ is. cc }
