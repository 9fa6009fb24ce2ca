-- The frame table's list with free places at both ends (`ListWindow::remove`): what is left is the other elements in
-- their order, whichever side was moved.
use Rattle.frame_table.proofs.Places.{place-within, removed-back}
use Rattle.std.proofs.Common.{refl}
use Rattle.frame_table.proofs.window.ListWindow.remove.Goals as goal

pub returns-clause-left : goal.returns-clause-left
returns-clause-left g c =
    let items = c.self.inside.items.items in
    let start = c.self.inside.start in
    let within = place-within items start c.args.at c.self.invariant.within (rw (← c.self.view_is) at c.requires) in
    rw (← c.self.view_is, c.remove.ensures.items, removed-back items start c.args.at within) refl
