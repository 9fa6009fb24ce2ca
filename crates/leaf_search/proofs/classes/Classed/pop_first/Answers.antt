-- A list of choices by class (`Classed::pop_first`): what it takes is the first choice left, and the rest stay in
-- order.
use Rattle.leaf_search.proofs.Common.{sym, ◌∙◌, rules, arith}
use Rattle.leaf_search.proofs.ClassLemmas.{classed-first, classed-second, classed-third, classed-pass, classed-none}
use Rattle.leaf_search.proofs.classes.Classed.pop_first.Goals as goal

pub returns-then-self-ne0 : goal.returns-then-self-ne0
returns-then-self-ne0 c =
    let f = c.self.inside in sym c.self.view_is ∙ classed-first f.corners f.class f.others f.passes (omega arith) (omega arith)

pub returns-then-self-ne0-2 : goal.returns-then-self-ne0-2
returns-then-self-ne0-2 c =
    let f = c.self.inside in sym c.self.view_is ∙ classed-second f.corners f.class f.others f.passes (omega arith) (omega arith) (omega arith)

pub returns-then-self-ne0-3 : goal.returns-then-self-ne0-3
returns-then-self-ne0-3 c =
    let f = c.self.inside in sym c.self.view_is ∙ classed-third f.corners f.class f.others f.passes (omega arith) (omega arith) (omega arith) (omega arith)

pub returns-then-self : goal.returns-then-self
returns-then-self c =
    let f = c.self.inside in sym c.self.view_is ∙ classed-pass f.corners f.class f.others f.passes (omega arith) (omega arith) (omega arith) (search rules)

pub returns : goal.returns
returns c =
    let f = c.self.inside in sym c.self.view_is ∙ classed-none f.corners f.class f.others f.passes (omega arith) (omega arith) (omega arith) (search rules)
