-- One tenant's list of ready frames (`ready::forget`): the frame that is forgotten goes, and the list stays where it
-- was not there.
use Rattle.frame_table.proofs.Common.{ReadyFrame, ap, arith, refl, ℕ, ◌∙◌}
use Rattle.frame_table.proofs.Places.{alike, filter-not-absent, remove-rising}
use Rattle.frame_table.proofs.ready.forget.Goals.{else-at-len-via-else-at-len, else-at-len-via-then-at-len+else-at-serial}
use Rattle.frame_table.proofs.ready.forget.Goals as goal

pub returns-then-at-serial : goal.returns-then-at-serial
returns-then-at-serial g c =
    let frames = c.args.ready.now.list in
    let gone = remove-rising (λ (frame : ReadyFrame). frame.serial) frames c.place_for-at.result c.at.result c.requires (omega arith) c.at.ensures in
    rw (c.remove.ensures.left, gone, c.if-at-serial.true) refl

pub returns-else-at-len : goal.returns-else-at-len
returns-else-at-len g c =
    let frames = c.args.ready.now.list in
    let serial_of : ReadyFrame → ℕ = λ frame. frame.serial in
    let stays = filter-not-absent serial_of frames c.args.serial c.place_for-at.result c.requires c.place_for-at.ensures.place in
    ap (λ fs. record { places = c.args.ready.now.places; list = fs }) (stays (λ x lt is e. elim c.else-at-len.branch [
      | else-at-len-via-then-at-len+else-at-serial w ↦ w.if-at-serial.false (ap serial_of (alike frames _ _ x lt w.at.ensures is) ∙ e)
      | else-at-len-via-else-at-len w ↦ omega (arith, lt, w.if-at-len.false)
    ]))
