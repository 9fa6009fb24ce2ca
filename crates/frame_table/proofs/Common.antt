-- The names that the frame table's proofs use, imported in one place.
pub use Rattle.frame_table.specs.Frames.{AllBelow, Frame, IsNextFrame, IsReadyAt, IsTree, IsTreeAfter, TenantTree, aborted, children_of, first_of_two, frame_at, frames_in, frames_under, frames_without, goes_under, has_frame, has_parent, is_one_more, is_ready, names_of, new_frame, newest_ready_of, owner_of_tree, parent_of, path_in, path_under, ready_frames, root_of, values_of, with_state}
pub use Rattle.frame_table.specs.Places.{AllFromBy, IsPlaceFor, has_number}
pub use Rattle.frame_table.specs.Readies.{last_ready, ready_in}
pub use Rattle.frame_table.specs.SlotStores.{AllHere, AreApartKeys, AreKeys, ChangesSlot, HasSerial, IsHere, IsKeyAt, IsSeenAt, IsSlotStore, KnowsParent, Leaves, gone_among, has_slot_under, new_slot, slots_in}
pub use Rattle.frame_table.specs.Slots.{AllAbove, IsCutAt, KeepsTree, Rises, child_slots, frames_from, gone_values, has_slot, if_named, kept_slots, recounted, restated, serials_of, stays_under, with_child, with_slot, without_child}
pub use Rattle.frame_table.specs.TreeLaws.{AllAboveSerial, AreAlike, AreSerialsRising, Each, if_kept, is_child_of, is_that, map_value, map_values}
pub use Rattle.frame_table.specs.declared.names.FrameId.{FrameId}
pub use Rattle.frame_table.specs.declared.names.State.{State}
pub use Rattle.frame_table.specs.declared.ready.ReadyFrame.{ReadyFrame}
pub use Rattle.frame_table.specs.declared.slot.Slot.{Slot}
pub use Rattle.frame_table.specs.declared.slot_store.StoredSlot.{StoredSlot}
pub use Rattle.numbered_list.proofs.Edits.{all-at, all-map, length-inserted, length-with, rising-push, said-inserted-other}
pub use Rattle.numbered_list.specs.Places.{AreAbove, AreRising, count_below, inserted}
pub use Rattle.slab.specs.Slab.{ContainsKey, Slab, Updates, get, slab_len}
pub use Rattle.std.proofs.Common.{Bool, List, None, Option, Some, [], ap, append-nil, append_assoc, arith, cond, drop, eq-eqb, eqb, eqb-true, false, get_or, inl, inr, length, length-append, length-set, length-take, map, map-id, ne_eqb, not, option_map, refl, set, slice_index, subst, suc, sym, take, take_all, true, true≢false, zero, ℕ, ◌++◌, ◌+◌, ◌-◌, ◌<◌, ◌||◌, ◌∙◌, ◌∷◌, ◌≡◌, ◌≢◌, ◌≤◌, ◌⊎◌}
pub use Rattle.std.proofs.Math.Seq.{map-set_same}
pub use Rattle.std.proofs.lemmas.Bool.{cases_Bool, cases_eq, false≢true, not-true, not_from_false, not_from_true, or_cases, or_right}
pub use Rattle.std.proofs.lemmas.Grind.{common_steps}
pub use Rattle.std.proofs.lemmas.List.{at_drop_more, drop-append-le, drop-map, drop-set-add, drop-take, drop_all, get_or-map, get_or_default, length-map, map-append, take-map, take-set, take_more}
pub use Rattle.std.proofs.lemmas.List.Edits.{length-remove}
pub use Rattle.std.proofs.lemmas.List.Elements.{All-from_get_or, filter-append, filter_more, recursion_from_All}
pub use Rattle.std.proofs.lemmas.List.Recursion.{or_at, or_from_places}
pub use Rattle.std.proofs.lemmas.List.Sums.{count_by-le-length, length-filter, sum_by-cons, sum_by-set}
pub use Rattle.std.proofs.lemmas.Simd.{map-map}
pub use Rattle.std.specs.List.{AllByRecursion, copy_within, filter, insert, remove}
