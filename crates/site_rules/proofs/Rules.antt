-- Lemmas that attributes name.
use Rattle.site_rules.proofs.ConnectionLemmas.{counted-list, entered-list, homed-list, kept-list, lowered-list, no-count, no-home, put-list, raised-list, removed-list, still-list}

pub ruleset of_rules = (counted-list, no-count)

pub ruleset home_rules = (homed-list, no-home)

pub ruleset count_rules = (raised-list, entered-list)

pub ruleset discount_rules = (lowered-list, removed-list, kept-list)

pub ruleset settle_rules = (put-list, still-list)
