-- A search's next act (`next::later`): what the functions for each phase need of the frame's words holds.
use Rattle.jamboree.proofs.Common.{inl, inr, ap, frame-told, phase_number, frame_in}
use Rattle.jamboree.proofs.next.later.Goals as goal

pub first_search-requires : goal.first_search-requires
first_search-requires c =
    let told = (frame-told (frame_in c.args.frame.now) c.args.frame.now.form).counts (inl (ap phase_number c.in-First.is)) in
    record { deep = told.0; choices = told.2; some = told.1 }

pub tests-requires : goal.tests-requires
tests-requires c =
    let told = (frame-told (frame_in c.args.frame.now) c.args.frame.now.form).counts (inr (ap phase_number c.in-Tests.is)) in
    record { deep = told.0; choices = told.2; entries = c.requires.entries }
