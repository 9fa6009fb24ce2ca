-- Rows of sums: what suffices for several searches of the opening, who has it and who hasn't, by computing the
-- definitions.
use Rattle.jamboree_core.proofs.Common.{refl, arith, squares}
use Rattle.jamboree_core.proofs.rows.sums_of_jobs.Goals as goal

pub returns : goal.returns
unfolding squares
returns c = record {
  one = (refl, refl);
  several = (refl, refl);
  own = refl;
  has = record { nodes = omega arith; segments = omega arith };
  few_nodes = λ has. let few = has.nodes in omega (arith, few);
  few_segments = λ has. let few = has.segments in omega (arith, few);
  more = (omega arith, omega arith);
  few_more_nodes = λ finds. let few = finds.0 in omega (arith, few);
  few_more_segments = λ finds. let few = finds.1 in omega (arith, few);
}
