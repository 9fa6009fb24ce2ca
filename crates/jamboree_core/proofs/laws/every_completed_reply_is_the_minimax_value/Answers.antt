-- Of any run of searches on a new core: each job that is done holds the minimax value, so the law
-- `every_completed_reply_is_the_minimax_value`.
use Rattle.jamboree_core.proofs.Common.{origins_of, TenantFits, taken_steps, only}
use Rattle.jamboree_core.proofs.Replying.{searched, replies-held}
use Rattle.jamboree_core.proofs.laws.every_completed_reply_is_the_minimax_value.Goals as goal

pub returns : goal.returns
returns c grain totals steps answers number tenant right searches at =
    replies-held tenant.frames (origins_of (only number (taken_steps steps answers))) tenant.jobs (TenantFits.jobs (searched grain totals steps answers number tenant right searches at))
