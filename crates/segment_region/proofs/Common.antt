-- The names that the proofs of the region of segments use, imported in one place.
pub use Rattle.std.proofs.Common.{Bool, IsSome, ap, arith, false, get_or-set_other, get_or-set_same, if◌then◌else◌, replicate, suc, sym, true, zero, ◌-◌, ◌∙◌}
pub use Rattle.std.proofs.Common.{◌≢◌, ◌≤◌}
pub use Rattle.std.proofs.Math.ListN.{set}
pub use Rattle.std.proofs.lemmas.List.{length-replicate}
pub use Rattle.std.proofs.raw_atomic.Walks.{proved_at}
pub use Rattle.std.specs.Mem.{type_size}
pub use Rattle.std.specs.Prelude.{Err, IfOk, None, Ok, Option, Some}
pub use Rattle.std.specs.Vec.Ownership.{FitsInBlock}
pub use Prim.Native.Nat.{ℕ, ◌*◌, ◌+◌, ◌<◌, ◌^◌}
pub use base.Fml.{Fml, GName, Incl, Incl-trans, Lft, fat, fbor, ffalse, flft, fobs, froom, fsep, ftrue}
pub use base.Fraction.{full_share}
pub use base.Logic.{SProp, emp, ent, id⊢, never, sep}
pub use base.Shift.{Keyless}
pub use borrow.Table.OneValue.{part_in, part_out}
pub use contract.BorrowLft.{meet_⊑_left, ◌⊑◌}
pub use contract.Monad.{Fun, fact}
pub use contract.Running.{tables}
pub use denote.Builtin.{RefOf, usize}
pub use denote.Exit.{no, yes}
pub use denote.Follow.{Part, follows, lends_Part}
pub use denote.Laws.{Is, shows}
pub use denote.Memory.{cell_at, hidden_shr, mem, part_at}
unfoldable pub use denote.Memory.{part_of}
pub use denote.Opens.{hide, unhide}
pub use denote.Param.{layout}
pub use denote.Param.Laws.{Laws}
pub use denote.Param.Send.{AllSend, Common, Frees, IsSend, IsSync, owning_send, part_keyless, sendable, struct_send, struct_sync}
pub use denote.Param.Shared.{copy_shared}
pub use denote.RattleType.{RattleType, RowLaws, Valss, owns}
pub use denote.RawPtr.{Ptr, RawPtr, block_ptr, in_a_block, null_ptr, ptr_val}
pub use denote.Ref.{Bor, MutBor, MutRef, ShrRef}
pub use denote.Shadow.{makes_shadow}
pub use denote.Shares.{Shares-less}
pub use denote.Sharing.{ShrLaws, said}
pub use denote.SharingLaws.{beside_shr_laws, nothing_shr_laws, said_shr_laws}
pub use denote.Signature.{plain, types_at}
pub use denote.Steps.{closes, heard, nothing, opens, owned, peeks}
pub use denote.Struct.Laws.{field_copy}
pub use denote.Struct.Lending.{Lends, Lends-both, Lends-false, Lends-nothing, Lends-said, of_Lends}
pub use denote.Struct.Owning.{fields, shape, to}
pub use denote.Struct.Struct.{Struct, Struct-Makes, exits_of, within}
pub use denote.Struct.Tuple.{Tuple, tuple_type}
pub use denote.Triple.Call.{calls_at, calls_at_last}
pub use denote.Triple.Statement.{Triple}
pub use denote.Triple.Table.{framed}
pub use denote.Triple.Walked.{Goes-dropped, Goes-ref, Goes-spent_ref, Stays, ends_at, says, stay_dropped, stay_ref, walk_of}
pub use lib.Dec.{T, lit<}
pub use lib.ListN.{get_or, length, length-set}
pub use mathlib.Core.List.{List, [], ◌++◌, ◌∷◌}
pub use mathlib.Core.Path.{refl, subst, ◌≡◌}
pub use mir.MapTy.{inst_fn}
pub use mir.Syntax.{Fn, named, ty_array, ty_unit, w64}
pub use mir.Val.{Val, WT, has_ty, of_list, vcons, vint, vnil, vptr, vstruct, vunit}
pub use native.Mathlib.Nat.{suc-mul, zero-mul}
pub use prog.Capped.{capped_fits}
pub use prog.Memory.{Memory, align, capped}
pub use prog.Routine.{Routine}
pub use prog.Wp.{Calls, Env, Loops, Wp, WpFn, after_seq, at_return}
pub use seplogic.Ra.Ura.{Ura}
pub use sound.WpLaws.{FmC}
pub use types.ByLocal.{alloc_all, env, free_all, get, get_in, get_tag, give_at, is, lands_as, lands_last, look_at, pass_all, sets, sets_last, take_at, through}
pub use types.Kit.{ !, Goal, Item, Post, Seq, Step, any_q, at_ret, await, by, done, drop, feq_i, feq_l, fjoin, fjoin3, flt_i, flt_l, fpack, fpick, frame, fsplit}
pub use types.Kit.{fsplit3, given, group, join, keep, later, learn, move, pick, qed, raw, rewrite, some, split, step, suffices, use0, use1, use2, use3, ‵, ⋆}
pub use types.Kit.{◌$◌, ◌∵◌, ◌⊛◌}
pub use types.Logic.{Logic, sem}
pub use types.Match.{in_variant, live, vrt}
pub use types.Part.{agg, sub, whole}
pub use types.Run.{addr, align_word, and_then, assigns_last, bin, blocks, enter, exec, first, fld, init, lit, no_more, of_opd, returns, size_lit, size_word}
pub use types.Run.{stop, switches_on, unit_lit}
pub use types.SemTy.{Body}
pub use Rattle.core.proofs.alloc.Calls.{Al, Answer-typed, Answered, Gives, Gives-Gives, Gives-goes, Goes-blank, Takes, Takes-gives, Takes-goes, answers}
pub use Rattle.core.proofs.alloc.Calls.{at_gives, at_takes, gives_key, takes_key, token}
pub use Rattle.core.proofs.mem.Param.{El, R, args, el_x, elτ, lawful, one}
pub use Rattle.core.proofs.ptr.Rows.{one_below, times_below}
pub use Rattle.core.proofs.slots.Leases.{P, block_align, block_size, block_ty, uncapped}
pub use Rattle.core.specs.declared.alloc.Allocator.{Ghosts}
pub use Rattle.std_alloc.proofs.RawLayout.{as_raw, as_written}
pub use Rattle.std_alloc.proofs.RcSteps.{Good, first_Good, word, word-Good}
pub use Rattle.std_alloc.proofs.ResultValues.{err_of, ok_of}
pub use Rattle.std_alloc.proofs.SendSync.{FreesAnywhere, quiet}
pub use Rattle.std_alloc.proofs.VecSteps.Shapes.{after, arm_body, head}
pub use Rattle.segment_region.specs.Blocks.{IsFreeList, IsLink, IsWhole, WordBlock, link_in, next_of, place_entry, place_link, segment_of_block}
pub use Rattle.segment_region.specs.Blocks.{segments_of_blocks}
pub use Rattle.segment_region.specs.Lends.{with_place}
pub use Rattle.segment_region.specs.Ownership.{fits, place_lent, place_owned, places_lent, places_owned, row_lent, row_owned, title_owned}
pub use Rattle.segment_region.specs.Places.{IsFilled}
pub use Rattle.segment_region.specs.Segments.{IsFree, IsTaken, Segment, Segments, link_at, link_of, segment_at, taken_count, with_link, with_segment_words}
pub use Rattle.segment_region.specs.Segments.{words_at, words_of_segment}
pub use Rattle.segment_region.specs.Words.{with_block_words}
pub use Rattle.segment_region.specs.contracts.cells.Cells.{the_row}
pub use Rattle.segment_region.specs.declared.block.Link.{Link}
