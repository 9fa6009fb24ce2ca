-- The frame table's list with free places at both ends (`ListWindow::remove_near_front`): the element is gone after
-- those before it were moved one place on.
use Rattle.frame_table.proofs.Common.{copy_within, refl, ◌+◌, ◌≡◌}
use Rattle.frame_table.proofs.Places.{place-within, removed-front}
use Rattle.frame_table.proofs.window.ListWindow.remove_near_front.Goals as goal

pub returns : goal.returns
returns g c =
    let items = c.self.inside.items.items in
    let start = c.self.inside.start in
    let within = place-within items start c.args.at c.self.invariant.within (rw (← c.self.view_is) at c.requires) in
    let moved : c.copy_within.new.self.items ≡ copy_within items start (start + c.args.at) (start + 1) = c.copy_within.ensures.items in
    rw (← c.self.view_is, moved, removed-front items start c.args.at within) refl
