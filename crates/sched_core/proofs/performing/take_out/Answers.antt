-- The core takes a returned child out for an Inlet (`performing::take_out`): it alone is removed, or at an abort all
-- below its parent, which is still there.
use Rattle.sched_core.proofs.Common.{◌≡◌, true, refl, sym, ◌∙◌, without_frame, without_under, staying_with}
use Rattle.sched_core.proofs.TakenStep.{begins, then-changed}
use Rattle.sched_core.proofs.Ending.{as-change}
use Rattle.sched_core.proofs.Deciding.{some-is}
use Rattle.sched_core.proofs.Inlets.{parent-found, stays-beside, aborts-child}
use Rattle.sched_core.proofs.performing.take_out.Goals as goal

pub abort-requires : goal.abort-requires
abort-requires g c =
    let s = c.requires in
    let m = s.2 in
    let above = parent-found s.0.frames c.args.child.serial c.args.parent.serial s.1 m.tree m.found m.under in
    let w = begins c.args.child.tenant c.args.store.now m.owner in
    let w1 = then-changed (without_frame c.args.child.serial) w c.remove.ensures in
    let stays = stays-beside s.0.frames c.args.child.serial c.args.parent.serial s.1 m.tree m.found m.under above.0 above.1 in
    let same = m.same in let there = w1.there in rw (same, there, stays) refl

pub returns-then-abort-clause-left : goal.returns-then-abort-clause-left
returns-then-abort-clause-left g c =
    let s = c.requires in
    let m = s.2 in
    let w = begins c.args.child.tenant c.args.store.now m.owner in
    let w1 = then-changed (without_frame c.args.child.serial) w c.remove.ensures in
    let w2 = then-changed (without_under c.args.parent.serial) w1 (rw m.same at c.abort.ensures.aborted) in
    let all = aborts-child c.args.parent.serial c.args.child.serial s.0.frames s.1 m.tree m.found m.under in
    let stays = staying_with c.args.child.serial c.args.parent.serial true in
    let same : without_under c.args.parent.serial (without_frame c.args.child.serial s.0) ≡ stays s.0 = rw all refl in
    rw c.if-abort.true (as-change s.0 stays m.owner (rw same at w2))

pub returns-then-abort-clause-count : goal.returns-then-abort-clause-count
returns-then-abort-clause-count g c tenant owner =
    let s = c.requires in
    let m = s.2 in
    let w = begins c.args.child.tenant c.args.store.now m.owner in
    let w1 = then-changed (without_frame c.args.child.serial) w c.remove.ensures in
    rw (c.if-abort.true, ← (some-is s.0 tenant (sym m.owner ∙ owner))) (c.abort.ensures.count ∙ rw (m.same, w1.there) refl)
