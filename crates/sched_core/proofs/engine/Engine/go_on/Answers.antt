-- The core does what follows an act's stores (`Engine::go_on`): going on, growing, spawning, computing, waiting or
-- returning each leave the tenant as the definition says.
use Rattle.sched_core.proofs.Common.{inl, inr, sym, found-there, arith}
use Rattle.sched_core.proofs.Acting.{go-came, grow-came, spawn-came, compute-came, waits-came, wait-came, return-came}
use Rattle.sched_core.proofs.engine.Engine.go_on.Goals as goal

pub open-requires-clause-parent : goal.open-requires-clause-parent
open-requires-clause-parent g c = grind (arith, found-there)

pub returns-in-Go-clause-came : goal.returns-in-Go-clause-came
returns-in-Go-clause-came g c tenant frame on root = grind (arith, go-came)

pub returns-in-Grow-clause-came : goal.returns-in-Grow-clause-came
returns-in-Grow-clause-came g c tenant frame on root =
    grow-came (g.P.Procedure.functions c.args.self.now.procedure) _ _ _ _ on.owner c.in-Grow.is on.found c.grow.ensures

pub returns-in-Spawn-clause-came : goal.returns-in-Spawn-clause-came
returns-in-Spawn-clause-came g c tenant frame on root =
    spawn-came (g.P.Procedure.functions c.args.self.now.procedure) _ _ _ frame on.owner c.in-Spawn.is (rw (c.as_slice.ensures.words, c.number.ensures.value) at c.open.ensures.opened) c.open.ensures.name

pub returns-in-Compute-clause-came : goal.returns-in-Compute-clause-came
returns-in-Compute-clause-came g c tenant frame on root =
    compute-came (g.P.Procedure.functions c.args.self.now.procedure) c.args.self.now.store c.args.worker c.args.name frame on.owner c.in-Compute.is on.found (rw c.number-in-Compute.ensures.value at c.hold.ensures)
    (rw (← c.own.ensures) c.input-input.ensures)

pub returns-then-not-has_child-clause-came : goal.returns-then-not-has_child-clause-came
returns-then-not-has_child-clause-came g c tenant frame on root = grind (arith, wait-came)

pub returns-else-not-has_child-clause-came : goal.returns-else-not-has_child-clause-came
returns-else-not-has_child-clause-came g c tenant frame on root =
    waits-came (g.P.Procedure.functions c.args.self.now.procedure) _ _ _ frame on.owner (inl c.in-Wait.is) (sym c.if-not-has_child.ensures) c.let_go.ensures

pub returns-then-has_child-clause-came : goal.returns-then-has_child-clause-came
returns-then-has_child-clause-came g c tenant frame on root =
    waits-came (g.P.Procedure.functions c.args.self.now.procedure) _ _ _ frame on.owner (inr c.in-Return.is) (sym c.if-has_child.ensures) c.let_go-then-has_child.ensures

pub returns-else-has_child-clause-came : goal.returns-else-has_child-clause-came
returns-else-has_child-clause-came g c tenant frame on root =
    return-came (g.P.Procedure.functions c.args.self.now.procedure) _ _ _ _ on.owner c.in-Return.is on.found (sym c.if-has_child.ensures) c.let_go-in-Return.ensures root

pub let_go-requires-clause-held : goal.let_go-requires-clause-held
let_go-requires-clause-held g c = grind arith

pub let_go-requires-then-has_child-clause-held : goal.let_go-requires-then-has_child-clause-held
let_go-requires-then-has_child-clause-held g c = grind arith

pub let_go-requires-in-Return-clause-held : goal.let_go-requires-in-Return-clause-held
let_go-requires-in-Return-clause-held g c = grind arith
