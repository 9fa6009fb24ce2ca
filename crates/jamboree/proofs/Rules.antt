-- The lemmas that attributes of the search procedure's code name, for the search rules of its proofs.
use Rattle.jamboree.proofs.ActLemmas.{first-by, act-by, start-stores, spawns-by, negated-beta, negated-alpha, choice-got}
use Rattle.jamboree.proofs.SightLemmas.{first-formed, second-formed, first-two}
use Rattle.jamboree.proofs.StatusLemmas.{left-bad, left-good, few-entries, open-at, open-entry, open-none, open-passed, rest-is, settled-at}
use Rattle.jamboree.proofs.Common.{length-map, unwrap_or-slice_get}
use Rattle.jamboree.proofs.ViewLemmas.{formed-parts, front-head}

pub ruleset first_search_rules = (first-by, act-by, start-stores, spawns-by, negated-beta, negated-alpha)

pub ruleset code_rules = (choice-got)

pub ruleset rest_rules = (rest-is, unwrap_or-slice_get)

pub ruleset plan_fitting_rules = (first-formed, second-formed, first-two)

pub ruleset plan_seen_rules = (first-two)

pub ruleset are_entries_rules = (left-bad, left-good)

pub ruleset first_open_rules = (few-entries, open-passed)

pub ruleset open_in_rules = (open-at, length-map, open-entry, settled-at, open-none)

pub ruleset kept_view_rules = (formed-parts)

pub ruleset read_head_rules = (front-head)
