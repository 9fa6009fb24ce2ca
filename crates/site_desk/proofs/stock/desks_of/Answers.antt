-- A site's desks are made, one of each stock (`stock::desks_of`): each has the hall and the book that the clauses name
-- for its place.
use Rattle.site_desk.proofs.Common.{◌≡◌, ◌+◌, length, subst, arith}
use Rattle.site_desk.specs.Stocks.{IsStock, AreStocked, NamesOf}
use Rattle.site_desk.proofs.Stocks.{last-of}
use Rattle.site_desk.proofs.stock.desks_of.Goals as goal

pub new-requires : goal.new-requires
new-requires g c =
    let named = g.J.SiteNaming in
    let names : NamesOf = record { table = named.table; begun = named.begun; granted = named.granted; plan = named.plan } in
    let rest = c.pop.new.self.items in
    let all = subst (λ stocks. AreStocked names 0 stocks) c.in-Some.ensures.items c.loop-stock.invariant in
    let many : 0 + length rest ≡ c.len.result = omega (arith, c.pop.new.self.ok, c.len.ensures) in
    let stock = subst (λ n. IsStock names n c.in-Some.stock) many (last-of names 0 rest c.in-Some.stock all).1 in
    record { history = stock.0; begun = stock.1; granted = stock.2; plan = stock.3 }

pub loop-stock-preserved : goal.loop-stock-preserved
loop-stock-preserved g c =
    let named = g.J.SiteNaming in
    let names : NamesOf = record { table = named.table; begun = named.begun; granted = named.granted; plan = named.plan } in
    let all = subst (λ stocks. AreStocked names 0 stocks) c.in-Some.ensures.items c.loop-stock.invariant in
    (last-of names 0 c.pop.new.self.items c.in-Some.stock all).0
