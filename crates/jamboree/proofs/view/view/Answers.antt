-- The words of a search's frame (`view::view`): they have the form that the typed view asks for, and it counts as many
-- entries as there are.
use Rattle.jamboree.proofs.Common.{arith, head_of}
use Rattle.std.proofs.Common.{refl}
use Rattle.jamboree.proofs.ViewLemmas.{formed-parts}
use Rattle.jamboree.proofs.view.view.Goals as goal

pub view-requires-clause-form : goal.view-requires-clause-form
view-requires-clause-form c = (formed-parts c.args.words.now c.read_head.result c.read_head.ensures c.requires).1

pub view-requires-clause-counted : goal.view-requires-clause-counted
view-requires-clause-counted c =
    let parts = formed-parts c.args.words.now c.read_head.result c.read_head.ensures c.requires in omega (arith, c.len-count.ensures.value, parts.0.0)

pub returns-clause-entries : goal.returns-clause-entries
returns-clause-entries c =
    omega (arith, c.len-count.ensures.value, (formed-parts c.args.words.now c.read_head.result c.read_head.ensures c.requires).0.0, c.view.ensures.count)

pub read_head-requires : goal.read_head-requires
read_head-requires c = let parts = formed-parts c.args.words.now (head_of c.args.words.now) refl c.requires in omega (arith, parts.0.0)
