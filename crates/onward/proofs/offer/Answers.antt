-- A step that is offered to a hall (`offer`): no search was stuck, as the journals explain the hall.
use Rattle.std.proofs.Common.{◌≡◌, Some, ℕ}
use Rattle.sched_rules.specs.declared.job.Job.TheVariants.{Live}
use Rattle.sched_rules.specs.Views.{job_of}
use Rattle.sched_laws.specs.Onward.{EachHasAnswer, EachWaitsForChildren, IsNotStuck}
use Rattle.sched_laws.specs.Shapes.{AreShaped}
use Rattle.jamboree_rules.specs.Procedure.{jamboree}
use Rattle.onward.proofs.Halls.{hall-answers, hall-waits}
use Rattle.onward.proofs.Taken.{taken}
use Rattle.onward.proofs.offer.Goals as goal

pub returns-clause-going : goal.returns-clause-going
returns-clause-going g c number job root lives =
    let hall = c.args.hall.now in
    let shaped : AreShaped hall.shared.tenants = rw (← c.core.ensures.shared) c.no_job_is_stuck.ensures.kept.shaped in
    let going : EachWaitsForChildren hall.shared → EachHasAnswer (jamboree hall.grain) hall.shared → (number job root : ℕ) → job_of hall.shared number job ≡ Some (Live root) →
    IsNotStuck (jamboree hall.grain) hall.shared number root = rw (← c.core.ensures.shared, ← c.core.ensures.grain) c.no_job_is_stuck.ensures.going in
    going (hall-waits hall c.count-count.ensures.explained) (hall-answers hall c.count-count.ensures.explained shaped) number job root lives

pub returns-clause-taken : goal.returns-clause-taken
returns-clause-taken g c other none = taken (jamboree c.args.hall.now.grain) c.args.hall.now.shared c.args.step.now c.offer.result c.offer.ensures.one.answered other none
