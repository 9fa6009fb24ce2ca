-- Two workers' badges of a desk are joined (`Badge::join`): the new one has the sums of their shares and parts, and
-- the first one's maker.
use Rattle.desk.proofs.Common.{rules}
use Rattle.desk.proofs.shares.Badge.join.Goals as goal

pub invariant_of-result : goal.invariant_of-result
invariant_of-result g c = search rules

pub returns : goal.returns
returns g c = search rules
