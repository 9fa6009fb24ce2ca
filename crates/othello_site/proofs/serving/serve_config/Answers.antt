-- A site begins to serve (`serving::serve_config`): each of its desks has what the clauses name for its place.
use Rattle.std.proofs.Common.{rules}
use Rattle.site_desk.proofs.Stocks.{stocked}
use Rattle.othello_site.proofs.serving.serve_config.Goals as goal

pub serve_halls-requires : goal.serve_halls-requires
serve_halls-requires g c =
    let there = stocked c.in-Some.stocks.items in
    search rules
