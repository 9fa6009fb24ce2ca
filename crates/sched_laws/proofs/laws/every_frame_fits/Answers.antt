-- Of a core whose frames all fit its procedure: they still fit after any steps that were answered rightly, as long as the
-- roots of taken Submits fit, so the law `every_frame_fits`.
use Rattle.sched_laws.proofs.FitAnswers.{stays-fitting, run-fits, nobody-fits}
use Rattle.sched_laws.proofs.laws.every_frame_fits.Goals as goal

pub returns : goal.returns
returns g c =
    let own = g.met.P.Procedure in
    record {
      each_step = λ procedure origins before steps answers known shaped core right.
          stays-fitting (g.P.Procedure.functions procedure) (g.P.Procedure.fits procedure) (g.P.Procedure.rooted procedure)
          (record { next = own.next_keeps procedure; inlet = own.inlet_keeps procedure; accept = own.accept_keeps procedure }) origins before steps answers known shaped core right;
      at_end = λ procedure origins before steps answers known shaped core right roots.
          run-fits (g.P.Procedure.functions procedure) (g.P.Procedure.fits procedure) (g.P.Procedure.rooted procedure) origins before steps answers
          (record { next = own.next_keeps procedure; inlet = own.inlet_keeps procedure; accept = own.accept_keeps procedure }) known shaped core right roots;
      nobody = λ procedure totals. nobody-fits (g.P.Procedure.fits procedure) (g.P.Procedure.rooted procedure) totals;
    }
