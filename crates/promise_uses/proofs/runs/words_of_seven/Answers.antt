-- A use of the promise on lists of searches (`words_of_seven`): tenant 7's job 3, where it is done, has the value,
-- choice and table of what its third Submit asked for.
use Rattle.promises.proofs.Answered.{if-ok}
use Rattle.promise_uses.proofs.Replied.{reply-at}
use Rattle.promise_uses.proofs.runs.words_of_seven.Goals as goal

pub returns : goal.returns
returns g c =
    if-ok c.run.result (λ run headline tenant words there done.
    let has = reply-at _ tenant.jobs 3 words (headline.replies 7 tenant there) done in
    let is = has.reply in
    (has.origin, has.at, is.own, is.opp, is.depth, is.value, is.choice, is.table)) c.run.ensures.headline
