-- The names that the proofs of the tests' toy procedures use, imported in one place.
pub use Rattle.std.proofs.Common.{Bor, Err, IfSome, List, None, Ok, Option, Some, [], ap, false, refl, subst, sym, true, w64, ℕ, ◌++◌, ◌+◌, ◌<◌, ◌^◌, ◌∙◌, ◌∷◌}
pub use Rattle.std.proofs.Common.{◌≡◌}
pub use Rattle.std.proofs.alloc.Calls.{Al, Answer, Answer-Ok, Answer-err, Answer-typed, Answered, Gives, Gives-Gives, Gives-goes, Takes, Takes-gives}
pub use Rattle.std.proofs.alloc.Calls.{Takes-goes, answer_val, answers, at_gives, at_takes, gives_key, seen, takes_key, token, α}
pub use base.Fml.{Fml, Lft, Share, ffalse, flft, froom, fsep, ftrue}
pub use base.Logic.{SProp, emp, ent, ex, guard, id⊢, never_e, sep}
pub use contract.BorrowLft.{⊑_trans, ◌⊑◌}
pub use contract.Monad.{Fun, fact, fact_i}
pub use contract.Running.{tables}
unfoldable pub use contract.Running.{tables_of}
pub use denote.Builtin.{RawPtr, RefOf, u64, unit, usize}
pub use denote.Exit.{yes}
pub use denote.Memory.{hidden_shr}
pub use denote.Opens.{unhide}
pub use denote.Param.{bounded, layout, layouts, param}
pub use denote.Plain.{uint_Tells, uint_vals}
pub use denote.RattleType.{RattleType, owns}
pub use denote.RawPtr.{Ptr, block_ptr, null_ptr, ptr_val, rawptr_Tells, rawptr_vals}
pub use denote.Ref.{ShrRef, shr_vals}
pub use denote.Signature.{Slot, plain, types_at}
pub use denote.Steps.{heard, nothing, only}
pub use denote.Triple.Call.{calls_at, calls_at_last}
pub use denote.Triple.Clauses.{Clauses, Ended}
pub use denote.Triple.Spec.{triple_of}
pub use denote.Triple.Statement.{Contract, Triple}
pub use denote.Triple.Table.{cited, entered}
pub use denote.Triple.Walked.{Goes-dropped, Stays, ends_at, stay_dropped, walk_Meets, walk_of, walked}
pub use lib.Dec.{T, lit<}
pub use mir.MapTy.{inst_fn}
pub use mir.Syntax.{Args, Callee, Fn, Ty, a_type, dcons, dnil, named, place}
pub use mir.Val.{Val, WT, has_ty, of_list, vint, vptr, vunit}
pub use prog.Memory.{Memory, align, capped, size, up}
pub use prog.Routine.{Routine}
pub use prog.Wp.{Env, Tables, Wp, WpFn, after_seq, at_return}
pub use seplogic.Ra.Ura.{Ura}
pub use sound.WpLaws.{WpFn-mono, fm_of}
pub use types.ByLocal.{alloc_all, env, free_all, get, get_in, get_tag, holding, lands_as, lands_last, look_at, pass_all, sets, sets_last, through}
pub use types.Kit.{ !, Go, Item, Post, Seq, any_q, at_ret, await, by, check, done, feq_i, feq_l, fjoin, fpick, fsplit, given, join, keep, lands, later, learn}
pub use types.Kit.{move, now, pick, qed, raw, rewrite, show, some, split, split3, suffices, updating, use0, use1, use2, ‵, ⋆, ◌$◌, ◌∵◌, ◌⊛◌}
pub use types.Logic.{Logic, sem}
pub use types.Match.{in_variant, live, vrt}
pub use types.Part.{agg, whole}
pub use types.Run.{addr, and_then, enter, exec, first, fld, lit, no_more, of_opd, returns, stop, switches_on, unit_lit}
pub use Rattle.core.specs.Allocator.{block_if_ok}
pub use Rattle.std_alloc.proofs.VecSteps.Shapes.{after, arm_body, front}
