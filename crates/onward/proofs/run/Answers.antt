-- After a list of steps on a new core (`run`): each frame that waits has a child, so no job is stuck.
use Rattle.std.proofs.Common.{◌≡◌}
use Rattle.sched_laws.specs.Onward.{EachWaitsForChildren}
use Rattle.sched_laws.specs.Shapes.{AreShaped}
use Rattle.onward.proofs.run.Goals as goal

pub returns-clause-waits : goal.returns-clause-waits
returns-clause-waits g c =
    let head = c.in_ok-run.ensures.headline in
    let shaped : AreShaped c.in_ok-core.core.shared.tenants = rw c.in_ok-core.ensures.empty tt in
    let waits : EachWaitsForChildren c.in_ok-core.core.shared = rw c.in_ok-core.ensures.empty (c.a_frame_waits_only_for_children.ensures.nobody c.args.config) in
    rw head.2.left (c.a_frame_waits_only_for_children.ensures.run c.in_ok-core.core.procedure c.in_ok-core.core.shared c.args.steps.now head.0 shaped waits)

pub returns-clause-going : goal.returns-clause-going
returns-clause-going g c answers = c.no_job_is_stuck.ensures.going (returns-clause-waits g c) answers
