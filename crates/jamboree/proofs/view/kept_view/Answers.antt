-- The words of a returned root (`view::kept_view`): what a job keeps has the form that the typed view asks for.
use Rattle.jamboree.proofs.ViewLemmas.{formed-parts}
use Rattle.jamboree.proofs.view.kept_view.Goals as goal

pub view-requires-clause-form : goal.view-requires-clause-form
view-requires-clause-form c = (formed-parts c.args.words.now c.head_in.result c.head_in.ensures c.requires.form).1
