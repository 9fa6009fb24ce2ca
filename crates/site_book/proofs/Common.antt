-- The names that the proofs of the book of a site's customers use, imported in one place.
pub use Rattle.std.proofs.Common.{Bool, Contains, List, None, Ok, Option, Result, Some, [], add-zero, ap, append_assoc, arith, cond, drop, eqb, false, get_or}
pub use Rattle.std.proofs.Common.{inl, inr, is_ok, leb, length, length-append, ltb, not, refl, rules, set, subst, suc, sym, true, zero-add, ℕ, ◌&&◌, ◌*◌, ◌++◌}
pub use Rattle.std.proofs.Common.{◌+◌, ◌-◌, ◌<◌, ◌||◌, ◌∙◌, ◌∷◌, ◌≡◌, ◌≤◌, ◌⊎◌}
pub use Rattle.std.proofs.lemmas.Bool.{and_from, and_parts, and_right, cases_Bool, cases_lt, eq-eqb, eqb-false, le-leb, le-ltb, leb-true, ltb-false, ltb-true}
pub use Rattle.std.proofs.lemmas.Bool.{ne_eqb, not-false, not-true, or_from, or_parts}
pub use Rattle.std.proofs.lemmas.Bool.Decides.{nat_tests}
pub use Rattle.std.proofs.lemmas.List.{length_push}
pub use Rattle.std.specs.List.{remove}
pub use Rattle.std.specs.Option.{is_none, is_some}
pub use Rattle.std.specs.Prelude.{IfNone, if◌then◌else◌}
pub use Rattle.tenant_quota.specs.Reserves.{IsAbove, ReserveOf}
pub use Rattle.site_book.specs.Allowed.{HasBudgetFor, MayGrow}
pub use Rattle.site_book.specs.Amounts.{IsAmountWithin, is_amount_within, is_same, minus, nothing, of_one, plus, sum_of}
pub use Rattle.site_book.specs.Books.{BookOf, answer_of_book, are_within, book_after, book_after_answer}
pub use Rattle.site_book.specs.declared.event.BookEvent.{BookEvent}
pub use Rattle.site_book.specs.declared.event.BookEvent.TheVariants.{Closes, Opens, Raises, Replans}
pub use Rattle.site_book.specs.Books.{first_refusal, is_beyond_part, is_over, new_book, part_over, taken, why_beyond, why_no_raise, why_not_replan, why_over}
pub use Rattle.site_book.specs.Comings.{by_book, stays, told_by, told_unless, unless_idle, with_staying}
pub use Rattle.site_book.specs.Events.{Name, answers, answers_of, book_after_events, grants_of, is_event_kept, is_of, names_granted, names_without, only_events}
pub use Rattle.site_book.specs.Events.{open_after, still_open}
pub use Rattle.site_book.specs.Grants.{grant_of, grant_place, grants_raised, grants_without, is_held_as, is_in, is_no_raise, used, used_by}
pub use Rattle.site_book.specs.Keeping.{IsKept}
pub use Rattle.site_book.specs.Names.{is_guest, network_of, same_who}
pub use Rattle.site_book.specs.Plans.{PlanOf, limit_of, sums_fit}
pub use Rattle.site_book.specs.Rolls.{first_told, idler, idlest, is_idle, marked_all, remaining, without_present}
pub use Rattle.site_book.specs.declared.amount.Amount.{Amount}
pub use Rattle.site_book.specs.declared.coming.Coming.TheVariants.{Ends, Enters, Refused}
pub use Rattle.site_book.specs.declared.held.Grant.{Grant}
pub use Rattle.site_book.specs.declared.held.Group.{Group}
pub use Rattle.site_book.specs.declared.held.Group.TheVariants.{All, Guests, Network, Own}
pub use Rattle.site_book.specs.declared.present.Leaver.TheVariants.{Idle, Told}
pub use Rattle.site_book.specs.declared.present.Present.{Present}
pub use Rattle.site_book.specs.declared.present.Told.TheVariants.{ByPlan}
pub use Rattle.site_book.specs.declared.refusal.BookRefusal.{BookRefusal}
pub use Rattle.site_book.specs.declared.refusal.BookRefusal.TheVariants.{Beyond, Gone, Lower, OverBudget, OverGuests, OverNetwork, Unfit}
pub use Rattle.site_book.specs.declared.who.Who.{Who}
pub use Rattle.site_book.specs.declared.who.Who.TheVariants.{Named, V4, V6}
