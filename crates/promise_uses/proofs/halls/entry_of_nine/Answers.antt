-- A use of the promise on tables (`entry_of_nine`): the third entry of tenant 9's job 5 is the third choice's, and
-- true of it.
use Rattle.promise_uses.proofs.Parts.{if-some, low-says, high-says, exact-says}
use Rattle.promise_uses.proofs.halls.entry_of_nine.Goals as goal

pub returns : goal.returns
returns g c =
    if-some c.entry_in.result (λ entry is. (
      is.own,
      is.opp,
      is.depth,
      is.asked.shallow,
      is.asked.words,
      is.of,
      low-says entry.kind entry.score _ is.holds,
      high-says entry.kind entry.score _ is.holds,
      exact-says entry.kind entry.score _ is.holds,
      is.best,
    )) c.entry_in.ensures
