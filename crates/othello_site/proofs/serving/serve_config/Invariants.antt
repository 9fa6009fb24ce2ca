-- A site begins to serve (`serving::serve_config`): the names that its desks' clauses use for their histories, halls
-- and plans.
use Rattle.site_desk.specs.Stocks.{desk_names}
use Rattle.othello_site.proofs.serving.serve_config.Given as goal

abbrev pub ghosts-serve_halls : goal.ghosts-serve_halls
ghosts-serve_halls g a =
    let names = desk_names a.stocks.items in
    record { table = names.table; begun = names.begun; granted = names.granted; plan = names.plan }
