-- The names that the proofs of the search procedure use, imported in one place.
pub use Rattle.std.proofs.Common.{add-one, ap, arith, drop-cons, inl, inr, of_z, subst, sym, take, to_z, w32, zero-add, ⊎_elim, ◌∙◌}
pub use Rattle.std.proofs.Math.Bool.{and_assoc}
pub use Rattle.std.proofs.Math.ListN.{drop_of_length-le, get_or-map}
pub use Rattle.std.proofs.lemmas.Bool.{and_parts, cases_lt, cond_both, eq-eqb, eqb-true, false_from_ne_true, false≢true, le-leb, le-ltb, lt-leb, lt-ltb}
pub use Rattle.std.proofs.lemmas.Bool.{ltb-true}
pub use Rattle.std.proofs.lemmas.Bool.Decides.{nat_tests}
pub use Rattle.std.proofs.lemmas.Int.{clamps, ints}
pub use Rattle.std.proofs.lemmas.List.{drop-drop, drop-take, get_or-drop, get_or-take, length-append, length-drop, length-map, length-take, map-append}
pub use Rattle.std.proofs.lemmas.List.{take-append-drop, take_all}
pub use Rattle.std.proofs.lemmas.List.Elements.{All-head, All-tail}
pub use Rattle.std.proofs.lemmas.Option.{slice_get-get_or, slice_get_within, unwrap_or-slice_get}
pub use Rattle.std.specs.Prelude.{All, Bool, IfSome, List, None, Option, Some, [], bit_and, cond, drop, false, find, if◌then◌else◌, int_le, int_lt, length, map}
pub use Rattle.std.specs.Prelude.{nat_le, nat_lt, neg_ℤ, negsuc, pos, refl, slice_get, slice_index, slice_index_or, suc, true, unwrap_or, zero, ℕ, ℤ, ◌&&◌, ◌*◌}
pub use Rattle.std.specs.Prelude.{◌++◌, ◌+ℤ◌, ◌+◌, ◌-ℤ◌, ◌-◌, ◌<ℤ◌, ◌<◌, ◌==◌, ◌^◌, ◌∷◌, ◌≡◌, ◌≢◌, ◌≤ℤ◌, ◌≤◌}
pub use Rattle.cactus_stack.specs.Nodes.{padded}
pub use Rattle.jamboree_rules.proofs.EvalLemmas.MinimaxLemmas.{best_choice-deeper, best_choice-leaf}
pub use Rattle.jamboree_rules.proofs.Forms.{IsFormed, IsFrame, child-told, formed-told, frame-told}
pub use Rattle.jamboree_rules.proofs.LeafLemmas.{leaf-is, opp-is, own-is}
pub use Rattle.jamboree_rules.proofs.Rooted.{entered-few, root_value, root-whole}
pub use Rattle.jamboree_rules.specs.Acts.{act_by, act_of, changes_by, changes_of, first_open, first_search, inlet_act, inlet_of, kind_by, kind_of, next_act}
pub use Rattle.jamboree_rules.specs.Acts.{opening_on, returns, seen, spawns, tests, tests_from, wakes}
pub use Rattle.jamboree_rules.specs.Entries.{bounds_in, bounds_of}
pub use Rattle.jamboree_rules.specs.Fits.{AreFitting, IsKeptRoot, IsRoot}
pub use Rattle.jamboree_rules.specs.Frames.{Frame, board, choice_at, code_of, coded, floor, greatest, is_frame, is_leaf, least, may_be_child, opp_word}
pub use Rattle.jamboree_rules.specs.Frames.{own_word, rest_at, unscored}
pub use Rattle.jamboree_rules.specs.Leaves.{IsLeaf, leaf-told}
pub use Rattle.jamboree_rules.specs.Places.{Change, Spawned, Status, are_entries, entry_rest, frame_of, is_entry, is_formed, is_rest, pairs_of, score_of}
pub use Rattle.jamboree_rules.specs.Places.{status_of}
pub use Rattle.jamboree_rules.specs.othello_eval.Minimax.{best_choice, choice_value, int_equal, minimax}
pub use Rattle.jamboree_rules.specs.othello_eval.Tables.{IsExactIfBest, IsTable, IsTrueBound, entered}
pub use Rattle.jamboree_rules.specs.othello_eval.declared.bound.Bound.{Bound}
pub use Rattle.jamboree_rules.specs.othello_eval.declared.bound.BoundKind.TheVariants.{Low}
pub use Rattle.jamboree_rules.specs.sched_rules.Laws.{AllFit, HasReturned, Neither}
pub use Rattle.jamboree_rules.specs.sched_rules.declared.act.Act.{Act}
pub use Rattle.jamboree_rules.specs.sched_rules.declared.act.Continuation.{Continuation}
pub use Rattle.jamboree_rules.specs.sched_rules.declared.act.InletAct.{InletAct}
pub use Rattle.othello_board.specs.Words.{cells, cells_of}
pub use Rattle.othello_board.specs.declared.cells.Cell.{Cell}
pub use Rattle.othello_moves.proofs.AllowedLemmas.{choices_allowed, choices-fit}
pub use Rattle.othello_moves.specs.Choices.{IsAllowed, after, choices, plies}
pub use Rattle.othello_moves.specs.Depths.{greatest_depth}
pub use Rattle.othello_moves.specs.declared.choices.Choice.{Choice}
pub use Rattle.othello_moves.specs.declared.choices.Choice.TheVariants.{Pass, Square}
pub use Rattle.jamboree.specs.Codes.{decoded}
pub use Rattle.jamboree.specs.InletPlans.{inlet_for}
pub use Rattle.jamboree.specs.Knowledge.{bound_by, bounds_by, known_of}
pub use Rattle.jamboree.specs.Levels.{above_of}
pub use Rattle.jamboree.specs.Numbers.{frame_by, phase_number, role_number}
pub use Rattle.jamboree.specs.Plans.{act_for}
pub use Rattle.jamboree.specs.Replies.{table_of}
pub use Rattle.jamboree.specs.Views.{entries_in, entries_of, frame_from, frame_in, frame_with, head_of, rests_in, statuses_in}
pub use Rattle.jamboree.specs.declared.entry.KnownBound.{KnownBound}
pub use Rattle.jamboree.specs.declared.frame.FrameView.{FrameView}
pub use Rattle.jamboree.specs.declared.phases.Phase.{Phase}
pub use Rattle.jamboree.specs.declared.phases.Role.{Role}
pub use Rattle.jamboree.specs.declared.phases.Role.TheVariants.{Test}
pub use Rattle.jamboree.specs.declared.plan.FramePlan.TheVariants.{Ends, Waits}
pub use Rattle.jamboree.specs.declared.reply.Reply.{Reply}
pub use Rattle.jamboree.specs.declared.view.Head.{Head}
