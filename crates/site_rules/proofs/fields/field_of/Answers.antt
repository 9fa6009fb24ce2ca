-- A proxy's header is read field by field (`fields::field_of`): a field of this type that is met is the first of it,
-- and after one of another type those left decide.
use Rattle.std.proofs.Common.{◌≡◌, ◌-◌, ◌+◌, suc, length, sym, ◌∙◌, arith}
use Rattle.site_rules.proofs.FieldLemmas.{field-found, field-next}
use Rattle.site_rules.proofs.fields.field_of.Goals as goal

pub returns-then-found-kind : goal.returns-then-found-kind
returns-then-found-kind c =
    let more : length c.args.fields.now - c.loop.counter ≡ suc (length c.args.fields.now - (c.loop.counter + 1)) = omega (arith, c.loop-test.true) in
    sym (field-found (length c.args.fields.now - c.loop.counter) (length c.args.fields.now - (c.loop.counter + 1)) c.args.kind c.in-Some.found c.loop.rest.now c.in-Some.value.now c.in-Some.next.now more c.in-Some.ensures c.if-found-kind.true) ∙ c.loop.invariant

pub loop-preserved : goal.loop-preserved
loop-preserved c =
    let more : length c.args.fields.now - c.loop.counter ≡ suc (length c.args.fields.now - (c.loop.counter + 1)) = omega (arith, c.loop-test.true) in
    sym (field-next (length c.args.fields.now - c.loop.counter) (length c.args.fields.now - (c.loop.counter + 1)) c.args.kind c.in-Some.found c.loop.rest.now c.in-Some.value.now c.in-Some.next.now more c.in-Some.ensures c.if-found-kind.false) ∙ c.loop.invariant
