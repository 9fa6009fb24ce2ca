-- The names that the proofs of lines and their answers use, imported in one place.
pub use Rattle.std.proofs.Common.{Bool, Err, List, None, Ok, Option, Result, Some, [], ap, append_assoc, arith, cond, drop, eqb, false, get_or, inl, inr}
pub use Rattle.std.proofs.Common.{length, length-append, map, nat_le, not, refl, rules, subst, sym, take, true, true≢false, ℕ, ◌&&◌, ◌++◌, ◌+◌, ◌-◌, ◌<◌, ◌^◌}
pub use Rattle.std.proofs.Common.{◌∙◌, ◌∷◌, ◌≡◌, ◌≢◌, ◌≤◌}
pub use Rattle.std.proofs.lemmas.Bool.{cases_Bool, not-false, not-true}
pub use Rattle.std.proofs.lemmas.Bool.Decides.{nat_tests}
pub use Rattle.std.proofs.lemmas.Grind.{common_steps}
pub use Rattle.std.proofs.lemmas.List.{append-nil, at_drop_more, drop-drop, drop_all, length-drop, length-take, map-append, take-append-drop, take_all}
pub use Rattle.std.proofs.lemmas.List.Concat.{flat_map-append}
pub use Rattle.std.proofs.lemmas.List.Folds.{concat-append, flat_map-map}
pub use Rattle.std.proofs.lemmas.Result.{err_from_is_err_and}
pub use Rattle.std.specs.Io.KnownBytes.{Appends, Consumes, IsAtEnd, Keeps}
pub use Rattle.std.specs.List.{concat, flat_map, list_any, onto_first, slice_split}
pub use Rattle.std.specs.Option.{option_map, option_to_list}
pub use Rattle.std.specs.Prelude.{if◌then◌else◌}
pub use Rattle.std.specs.Str.Lines.{lines_of_parts, strip_carriage_return}
pub use Rattle.line_io.specs.Held.{ended_line, ended_within, held, held_after, last_line, with_byte}
pub use Rattle.line_io.specs.Leads.{Answers, IsPrefixOf, Leads, answering, between}
pub use Rattle.line_io.specs.Lines.{LineText, TooLong, Whole, line_text, lines_of, up_to_last_end}
pub use Rattle.line_io.specs.Runs.{FunctionRun, IsOutput, IsProperPrefix, Run, answers_to, bytes_due, write_result}
pub use Rattle.line_io.specs.Streams.{Ended, Failed, Gave, ReadAnswer, ReadsKnown, Refused, Took, WriteAnswer, WritesKnown}
pub use Rattle.line_io.specs.Talks.{IsTalkEnd, Talk, end_of, none_ends, upto}
pub use Rattle.line_io.specs.Views.{text_of}
pub use Rattle.line_io.specs.Writes.{IsAnswered, IsWritten, LinesAnswered, with_newline, writes_of, written_texts}
pub use Rattle.line_io.specs.declared.faults.LineFault.{LineFault}
pub use Rattle.line_io.specs.declared.faults.LineFault.TheVariants.{Read, TooMuch, Write}
pub use Rattle.line_io.specs.declared.faults.WriteFailed.{WriteFailed}
pub use Rattle.line_io.specs.declared.talking.TalkEnd.{TalkEnd}
pub use Rattle.line_io.specs.declared.talking.TalkEnd.TheVariants.{Line}
