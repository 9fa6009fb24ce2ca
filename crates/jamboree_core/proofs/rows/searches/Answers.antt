-- Rows of searches: tenants whose jobs are searches, and tenants whose aren't.
use Rattle.jamboree_core.proofs.Common.{refl, arith, few, admitted_then, submit_of, asked_once, admitted_with}
use Rattle.std.specs.Prelude.{[], ◌∷◌}
use Rattle.jamboree_core.proofs.JournalLemmas.{journal-searches}
use Rattle.jamboree_core.proofs.rows.searches.Goals as goal

pub returns : goal.returns
returns c = record {
  admitted = journal-searches 0 (admitted_then []) (admitted_with few) (record { taken = (tt, tt); comes = refl }) (tt, tt);
  asked = journal-searches 0 (admitted_then (submit_of 12 ∷ [])) asked_once (record { taken = (tt, (tt, tt)); comes = refl })
      (tt, ((record { own = 34628173824; opp = 68853694464; depth = 1; are = refl; apart = refl; shallow = omega arith }, refl), tt));
  more = λ searches. searches.fits.jobs.1;
  fewer = λ searches. searches.fits.jobs;
}
