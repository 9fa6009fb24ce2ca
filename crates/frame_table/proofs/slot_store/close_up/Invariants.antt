-- The frame table closes the gaps in its list of keys (`slot_store::close_up`): at each turn, the keys passed so far
-- are filtered in place, and the list has as many places as before.
use Rattle.frame_table.proofs.Common.{has_slot_under, ◌≡◌}
use Rattle.std.proofs.lemmas.List.Filters.{FiltersInPlace}
use Rattle.frame_table.proofs.slot_store.close_up.Given as goal

abbrev pub invariant-loop-at : goal.invariant-loop-at
invariant-loop-at g l = FiltersInPlace (has_slot_under l.slab) l.initial.order.list l.order.list l.kept l.at × (l.order.places ≡ l.initial.order.places)
