-- Of the segments that a tenant of searches reserved: once enough, they stay so after each step, if each further
-- Submit finds room too; the law `segments_reserved_suffice`.
use Rattle.jamboree_core.proofs.NeverSpent.{segments-begin, roots-use, more-segments}
use Rattle.jamboree_core.proofs.Weights.{step-room}
use Rattle.jamboree_core.proofs.reserves.segments_reserved_suffice.Goals as goal

pub returns-clause-begins : goal.returns-clause-begins
returns-clause-begins c size tenant number own opp depth shape idle room = segments-begin size tenant shape idle number own opp depth room

pub returns-clause-step : goal.returns-clause-step
returns-clause-step c grain size origins tenant step outcome shape searches has too is = step-room (roots-use grain size) shape searches.fits more-segments has step outcome too is
