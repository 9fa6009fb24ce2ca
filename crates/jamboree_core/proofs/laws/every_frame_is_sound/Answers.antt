-- Of any run of searches on a new core: every frame is sound, so the law `every_frame_is_sound`.
use Rattle.jamboree_core.proofs.Common.{TenantFits}
use Rattle.jamboree_core.proofs.Replying.{searched, all-sound}
use Rattle.jamboree_core.proofs.laws.every_frame_is_sound.Goals as goal

pub returns : goal.returns
returns c grain totals steps answers number tenant right searches at =
    all-sound tenant.frames tenant.frames (TenantFits.frames (searched grain totals steps answers number tenant right searches at))
