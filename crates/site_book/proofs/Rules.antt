-- The lemmas that attributes of the code of a site's book name, for the search rules of its proofs.
use Rattle.site_book.proofs.GrantLemmas.{there-is}
use Rattle.site_book.proofs.BookLemmas.{gone-why, found-held, raise-is, place-there, raised-list, removed-list, kept-list}
use Rattle.site_book.proofs.Keepings.{comes-in, kept-replan, let-in, kept-new}
use Rattle.site_book.proofs.BudgetLemmas.{allowed, allowed-to, grow-from, grow-to}
use Rattle.site_book.proofs.RunLemmas.{totals-run, room-open, kept-run, room-raise}

pub ruleset has_rules = (there-is)

pub ruleset why_no_raise_rules = (gone-why, found-held, raise-is)

pub ruleset set_ask_rules = (place-there, raised-list)

pub ruleset take_out_rules = (removed-list, kept-list)

pub ruleset a_plan_comes_in_rules = (comes-in, kept-replan, let-in)

pub ruleset a_refusal_is_ones_own_rules = (allowed, allowed-to, grow-from, grow-to)

pub ruleset the_hall_has_room_rules = (totals-run, room-open, kept-run, kept-new, room-raise)
