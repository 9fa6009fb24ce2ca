-- The frame table's list with free places at both ends (`ListWindow::insert`): the element stands at its place, those
-- before and behind it in their order; the reserved place is enough.
use Rattle.frame_table.proofs.Places.{inserted-back}
use Rattle.std.proofs.Common.{IsOk, ap, arith, length-drop, not, refl, sym, ◌∙◌}
use Rattle.std.proofs.lemmas.Bool.{false≢true}
use Rattle.frame_table.proofs.window.ListWindow.insert.Goals as goal

pub unreachable-requires : goal.unreachable-requires
unreachable-requires g c =
    let done : IsOk c.insert.result = c.insert.ensures.succeeds (omega (arith, c.if-len-self.false, c.len.ensures, c.self.invariant.room_left)) in
    false≢true (sym (rw done at c.is_err.ensures.negation ∙ ap not c.if-is_err.true))

pub invariant_of-self : goal.invariant_of-self
invariant_of-self g c =
    let done : IsOk c.insert.result = c.insert.ensures.succeeds (omega (arith, c.if-len-self.false, c.len.ensures, c.self.invariant.room_left)) in
    let longer = rw done at c.insert.ensures.len in
    let rest = length-drop c.self.inside.start c.self.inside.items.items in
    record {
      within = omega (arith, c.self.invariant.within, longer, c.self.inside.items.ok.0, c.insert.new.self.ok.0);
      held = omega (arith, c.self.invariant.within, longer, rest, (rw (← c.self.view_is) at c.requires.room), c.self.inside.items.ok.0, c.insert.new.self.ok.0);
      few = c.self.invariant.few;
      filled = omega (arith, c.if-len-self.false, c.len.ensures, longer, c.self.inside.items.ok.0, c.insert.new.self.ok.0);
      room_left = omega (arith, c.insert.ensures.capacity, c.self.invariant.room_left);
    }

pub returns : goal.returns
returns g c =
    let items = c.self.inside.items.items in
    let within = rw (← c.self.view_is) at c.requires.within in
    let done : IsOk c.insert.result = c.insert.ensures.succeeds (omega (arith, c.if-len-self.false, c.len.ensures, c.self.invariant.room_left)) in
    let put = inserted-back items c.self.inside.start c.args.at c.args.element (omega (arith, within, length-drop c.self.inside.start items, c.self.invariant.within)) in
    rw (← c.self.view_is, c.insert.ensures.items, done, put) refl
