-- A test at a site's desk (`trials::try_all`): the names that the desks' clauses use for their histories, halls and
-- plans.
use Rattle.site_desk.specs.Stocks.{desk_names}
use Rattle.server_tests.proofs.tests.trials.try_all.Given as goal

abbrev pub ghosts-try_at : goal.ghosts-try_at
ghosts-try_at g a =
    let names = desk_names a.stocks.items in
    record { table = names.table; begun = names.begun; granted = names.granted; plan = names.plan }
