-- A use of the law on frames that fit (`frames_of_seven_and_nine`): each of tenant 9's fits after any list, and each of
-- tenant 7's after two steps.
use Rattle.promise_uses.proofs.Common.{ℕ, [], ◌∷◌}
use Rattle.sched_rules.specs.Cores.{shared_by_nobody}
use Rattle.sched_rules.specs.Headline.{after_answer}
use Rattle.sched_laws.specs.Fitted.{origins_after}
use Rattle.promise_uses.proofs.Fitting.{fits-now}
use Rattle.promise_uses.proofs.fits.frames_of_seven_and_nine.Goals as goal

pub returns-clause-nine : goal.returns-clause-nine
returns-clause-nine g c procedure totals steps answers tenant right roots there =
    let law = c.every_frame_fits.ensures in
    let fit = (law.at_end procedure (λ (number : ℕ). []) (shared_by_nobody totals) steps answers tt tt (law.nobody procedure totals) right roots).tenants 9 tenant there in (fit.frames, fit.jobs)

pub returns-clause-seven : goal.returns-clause-seven
returns-clause-seven g c procedure origins before first second later one two more tenant known shaped core right root root_then there =
    let functions = g.P.Procedure.functions procedure in
    let stays = c.every_frame_fits.ensures.each_step procedure origins before (first ∷ second ∷ later) (one ∷ two ∷ more) known shaped core right in
    let now = fits-now functions (g.P.Procedure.fits procedure) (g.P.Procedure.rooted procedure)
    (origins_after (origins_after origins first one) second two, after_answer functions (after_answer functions before first one) second two) later more ((stays.1 root).1 root_then) in
    (now.tenants 7 tenant there).frames
