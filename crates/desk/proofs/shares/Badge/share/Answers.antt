-- A worker's badge at a desk (`Badge::share`): its share is the number that its clauses call so.
use Rattle.desk.proofs.Common.{rules}
use Rattle.desk.proofs.shares.Badge.share.Goals as goal

pub returns : goal.returns
returns g c = search rules
