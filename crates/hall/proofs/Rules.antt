-- The lemmas that attributes of the hall's code name, for the search rules of its proofs.
use Rattle.hall.proofs.Entries.{steps_in-length}

pub ruleset len_rules = (steps_in-length)
