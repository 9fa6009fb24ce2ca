-- Meaning: whether a site takes a connection.
use Rattle.std.specs.Prelude.{◌/◌, nat_le, nat_lt, if◌then◌else◌}
use Rattle.site_rules.specs.declared.arrivals.Crowd.{Crowd}
use Rattle.site_rules.specs.declared.arrivals.Arrival.{Arrival}
use Rattle.site_rules.specs.declared.arrivals.Arrival.TheVariants.{Counted, Heard, Closed}

-- what becomes of a connection that comes to a site: it is closed where all are as many as may be; it counts as its
-- customer's where that may have one more; else it is heard, unless a quarter of all are so already
abbrev pub arrival : Crowd → Arrival
arrival crowd =
    if nat_le crowd.most_all crowd.all then Closed
    else (if nat_lt crowd.own crowd.most_own then Counted
    else (if nat_lt crowd.extra (crowd.most_all / 4) then Heard
    else Closed))
