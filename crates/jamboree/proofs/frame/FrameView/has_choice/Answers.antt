-- The view of a search's frame (`FrameView::has_choice`): while choices are searched, the frame's count of choices is
-- its board's.
use Rattle.jamboree.proofs.Common.{inl, inr, ⊎_elim, ap, arith, nat_tests, frame-told, phase_number, frame_in}
use Rattle.jamboree.proofs.frame.FrameView.has_choice.Goals as goal

pub returns-in-First : goal.returns-in-First
returns-in-First c =
    let v = c.args.self.now in
    let told = (frame-told (frame_in v) v.form).counts (⊎_elim (λ first. inl (ap phase_number first)) (λ tests. inr (ap phase_number tests)) c.in-First.is) in
    grind (arith, nat_tests, told.2, c.if-self-number.false)
