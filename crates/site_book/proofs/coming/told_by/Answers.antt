-- A site's book lists its sessions for another plan (`coming::told_by`): the session that the loop is at is told to
-- end exactly where it doesn't stay.
use Rattle.site_book.proofs.Common.{◌≡◌, [], ◌∷◌, ◌++◌, length, ap, sym, ◌∙◌, arith, length-append, told_by, stays}
use Rattle.site_book.proofs.ComingLemmas.{told-step, staying-length}
use Rattle.site_book.proofs.coming.told_by.Goals as goal

pub loop-held-preserved : goal.loop-held-preserved
loop-held-preserved c =
    let plan = c.args.plan.now in
    let before = c.loop-held.before.items in
    let told = c.loop-held.told.items in
    let all : told ++ told_by plan before (c.in-Some.held.now ∷ c.in-Some.later.now) (c.in-Some-split_first.present.now ∷ c.in-Some-split_first.others.now) ≡ told_by plan [] c.args.grants.now c.args.roll.now =
    (λ i. told ++ told_by plan before (sym c.in-Some.ensures.cases.0 i) (sym c.in-Some-split_first.ensures.cases.0 i)) ∙ c.loop-held.invariant.told in
    let more = staying-length (stays plan before c.in-Some.held.now c.in-Some-split_first.present.now) before c.judged.new.before.items c.in-Some.held.now c.judged.ensures.before in
    let rest = ap length c.in-Some.ensures.cases.0 in
    record {
      told = told-step plan before c.judged.new.before.items c.in-Some.later.now c.in-Some.held.now c.in-Some-split_first.others.now c.in-Some-split_first.present.now c.judged.result told c.push.new.self.items _ c.judged.ensures.present c.judged.ensures.before c.push.ensures.items all;
      few = omega (arith, c.loop-held.invariant.few, ap length c.push.ensures.items ∙ length-append told (c.judged.result ∷ []), rest);
      few_before = omega (arith, c.loop-held.invariant.few_before, more, rest);
      alike = omega (arith, c.loop-held.invariant.alike, rest, ap length c.in-Some-split_first.ensures.cases.0);
    }
