-- A test at a site's desk (`trials::try_all`): the first of the desks has what the clauses name for its place.
use Rattle.std.proofs.Common.{rules}
use Rattle.site_desk.proofs.Stocks.{stocked}
use Rattle.server_tests.proofs.tests.trials.try_all.Goals as goal

pub try_at-requires : goal.try_at-requires
try_at-requires g c =
    let there = stocked c.args.stocks.items in
    search rules
