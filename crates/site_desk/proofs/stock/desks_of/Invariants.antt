-- A site's desks are made, one of each stock (`stock::desks_of`): at each turn, the desks so far have the numbers from
-- 0 on, and there is room for the rest.
use Rattle.std.specs.Prelude.{length}
use Rattle.site_desk.specs.Stocks.{AreStocked}
use Rattle.site_desk.proofs.stock.desks_of.Given as goal

abbrev pub invariant-loop-stock : goal.invariant-loop-stock
invariant-loop-stock g l = AreStocked (record { table = g.J.SiteNaming.table; begun = g.J.SiteNaming.begun; granted = g.J.SiteNaming.granted; plan = g.J.SiteNaming.plan }) 0 l.rest.items

abbrev pub decreases-loop-stock : goal.decreases-loop-stock
decreases-loop-stock g l = length l.rest.items
