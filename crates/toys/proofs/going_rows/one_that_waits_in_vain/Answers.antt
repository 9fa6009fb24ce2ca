-- Of a root that waits without a child: it breaks the rule that a frame waits only for children.
use Rattle.std.proofs.Common.{refl}
use Rattle.std.proofs.lemmas.Bool.{false≢true}
use Rattle.toys.proofs.going_rows.one_that_waits_in_vain.Goals as goal

pub returns-clause-alone : goal.returns-clause-alone
returns-clause-alone c waits = false≢true (waits 1 _ refl refl)
