-- A use of the promise on lists of searches (`table_of_nine`): tenant 9's job 5, where it is done, has a table of what
-- its fifth Submit asked for.
use Rattle.promises.proofs.Answered.{if-ok}
use Rattle.promise_uses.proofs.Replied.{reply-at}
use Rattle.promise_uses.proofs.runs.table_of_nine.Goals as goal

pub returns : goal.returns
returns g c =
    if-ok c.run.result (λ run headline tenant words there done.
    let has = reply-at _ tenant.jobs 5 words (headline.replies 9 tenant there) done in
    (has.origin, has.at, has.reply.table.each, has.reply.table.holds, has.reply.table.best)) c.run.ensures.headline
