-- A proxy's header is read field by field (`fields::field_of`): at each turn, no field so far has the type, and those
-- left decide.
use Rattle.std.proofs.Common.{◌≡◌, ◌-◌, length}
use Rattle.site_rules.specs.Fields.{field_within}
use Rattle.site_rules.proofs.fields.field_of.Given as goal

abbrev pub invariant-loop : goal.invariant-loop
invariant-loop l =
    field_within (length l.fields - l.counter) l.kind l.rest ≡ field_within (length l.fields) l.kind l.fields
