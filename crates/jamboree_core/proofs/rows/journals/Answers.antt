-- Rows of journals: two lists that are a tenant's journal, and three that aren't, by computing the definition.
use Rattle.jamboree_core.proofs.Common.{refl}
use Rattle.jamboree_core.proofs.rows.journals.Goals as goal

pub returns : goal.returns
returns c = record {
  admitted = record { taken = (tt, tt); comes = refl };
  submitted = record { taken = (tt, (tt, tt)); comes = refl };
  refused = λ tenant is. is.taken.1.0;
  not_admitted = λ tenant is. is.taken.0;
  left = λ tenant is. is.taken.1.0;
}
