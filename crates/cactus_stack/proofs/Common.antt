-- The names that the cactus stack's proofs use, imported in one place.
pub use Rattle.std.proofs.Common.{AllPairs, Contains, IsSome, List, None, Option, Some, [], ap, arith, drop, get_or, get_or-set_other, get_or-set_same, inl}
pub use Rattle.std.proofs.Common.{inr, length, map, min, refl, replicate, rules, slice_get, subst, suc, sum_by, sym, take, zero, zero-add, ℕ, ◌%◌, ◌*◌, ◌++◌}
pub use Rattle.std.proofs.Common.{◌+◌, ◌-◌, ◌/◌, ◌<◌, ◌∙◌, ◌∷◌, ◌≡◌, ◌≢◌, ◌≤◌}
pub use Rattle.std.proofs.Math.ListN.{get_or-append, set}
pub use Rattle.std.proofs.Math.Seq.{drop-append-add, take-append-add, take-length, take-set-lt}
pub use Rattle.std.proofs.lemmas.Bool.{cases_eq}
pub use Rattle.std.proofs.lemmas.List.{append-nil, append_assoc, drop-replicate, drop-set-lt, drop_all, ext_get_or, get_or-append_right, get_or-drop}
pub use Rattle.std.proofs.lemmas.List.{get_or-take, get_or_default, length-append, length-drop, length-replicate, length-set, length-take, length-take-le}
pub use Rattle.std.proofs.lemmas.List.{replicate-append-replicate, set-append_left, set-append_right, set-get_or, set-set, take-append-drop, take-replicate}
pub use Rattle.std.proofs.lemmas.List.{take_all}
pub use Rattle.std.proofs.lemmas.List.Folds.{sum_by-replicate}
pub use Rattle.std.proofs.lemmas.List.Sums.{sum_by-cons, sum_by-set}
pub use Rattle.std.proofs.lemmas.Option.{slice_get-get_or}
pub use Rattle.segment_region.proofs.Counts.{lt-of-IsTaken, taken_count-give, taken_count-replicate, taken_count-take, taken_count-write}
pub use Rattle.segment_region.specs.Segments.{IsFree, IsTaken, Segment, Segments, blank, link_at, link_of, segment_at, taken_count, with_entry, with_link}
pub use Rattle.segment_region.proofs.Lists.{get_or-blanks, set-holds, set-keeps}
pub use Rattle.segment_region.specs.Segments.{with_segment_words, words_at, words_of_segment}
pub use Rattle.cactus_stack.specs.Chains.{AgreesOn, AllBlocks, AllFree, AreApart, IsChain, IsFreshChain, IsGivenBack, IsGrownChain, IsOnce, Lacks, chain}
pub use Rattle.cactus_stack.specs.Chains.{content, filled}
pub use Rattle.cactus_stack.specs.Nodes.{HasAllChildren, HasNoChild, IsOpen, IsPath, IsSight, IsUnused, Node, Nodes, charge, charge_of, free_segments, node_at}
pub use Rattle.cactus_stack.specs.Nodes.{node_parent, node_words, padded, parent_of_node, total_charge, with_node, with_node_words, without}
pub use Rattle.cactus_stack.specs.Places.{AreStored, IsForest, IsSoundList, IsStack, IsUnder, IsWholeSight, charge_of_place, len_at, node_in, nodes_from}
pub use Rattle.cactus_stack.specs.Places.{nowhere, place_at, resized, segments_of, sight_within, with_len, words_in_chain}
pub use Rattle.cactus_stack.specs.declared.place.Place.{Place}
