-- Meaning: how many connections count as each customer's, and in which hall a customer's session was last.
use Rattle.std.specs.Prelude.{ℕ, suc, ◌+◌, ◌-◌, ◌^◌, Bool, false, ◌||◌, nat_lt, min, List, [], ◌∷◌, Option, Some, None, if◌then◌else◌}
use Rattle.site_book.specs.declared.who.Who.{Who}
use Rattle.site_book.specs.Names.{same_who}
use Rattle.site_rules.specs.declared.arrivals.Crowd.{Crowd}
use Rattle.site_rules.specs.declared.arrivals.Arrival.{Arrival}
use Rattle.site_rules.specs.declared.arrivals.Arrival.TheVariants.{Counted, Heard, Closed}
use Rattle.site_rules.specs.declared.connections.CustomerConnections.{CustomerConnections}

-- the connections of a site: how many there are, how many count as nobody's, and those of each customer that has any
pub record ConnectionsOf : Type 0 where
  pub all : ℕ
  pub extra : ℕ
  pub customers : List CustomerConnections

-- one more, as far as 32 bits can say it
abbrev pub one_more : ℕ → ℕ
one_more many = min (many + 1) (2 ^ 32 - 1)

-- the place of a customer's count; the number of counts where it has none
abbrev pub count_place : Who → List CustomerConnections → ℕ
count_place who [] = 0
count_place who (own ∷ others) = if same_who own.who who then 0 else suc (count_place who others)

-- how many count as a customer's
abbrev pub connections_of : Who → List CustomerConnections → ℕ
connections_of who [] = 0
connections_of who (own ∷ others) = if same_who own.who who then own.connections else connections_of who others

-- the hall of a customer's last HELLO, of one that has connections
abbrev pub home_of : Who → List CustomerConnections → Option ℕ
home_of who [] = None
home_of who (own ∷ others) = if same_who own.who who then own.home else home_of who others

-- the counts with one connection more of a customer
abbrev pub with_one_more : Who → List CustomerConnections → List CustomerConnections
with_one_more who [] = record { who = who; connections = 1; home = None } ∷ []
with_one_more who (own ∷ others) = if same_who own.who who then record own { connections = one_more own.connections } ∷ others else own ∷ with_one_more who others

-- one less of this count; who has none any more has no count
abbrev pub one_less_of : CustomerConnections → List CustomerConnections → List CustomerConnections
one_less_of own others = if nat_lt 1 own.connections then record own { connections = own.connections - 1 } ∷ others else others

-- the counts with one connection less of a customer
abbrev pub with_one_less : Who → List CustomerConnections → List CustomerConnections
with_one_less who [] = []
with_one_less who (own ∷ others) = if same_who own.who who then one_less_of own others else own ∷ with_one_less who others

-- the counts once a customer's session is to be in this hall
abbrev pub with_home : Who → ℕ → List CustomerConnections → List CustomerConnections
with_home who hall [] = []
with_home who hall (own ∷ others) = if same_who own.who who then record own { home = Some hall } ∷ others else own ∷ with_home who hall others

-- the crowd to which one of a customer comes that may have so many, where there may be so many in all; it is one of all already
abbrev pub crowd_of : Who → ℕ → ℕ → ConnectionsOf → Crowd
crowd_of who most_own most_all there =
    record { own = connections_of who there.customers; most_own = most_own; extra = there.extra; all = there.all - 1; most_all = most_all }

-- the connections after one of this customer was taken so
abbrev pub after_arrival : Who → Arrival → ConnectionsOf → ConnectionsOf
after_arrival who Counted there = record there { customers = with_one_more who there.customers }
after_arrival who Heard there = record there { extra = one_more there.extra }
after_arrival who Closed there = there

-- the connections without one that counts as this customer's, or as nobody's
abbrev pub after_departure : Option Who → ConnectionsOf → ConnectionsOf
after_departure None there = record there { extra = there.extra - 1 }
after_departure (Some who) there = record there { customers = with_one_less who there.customers }

-- whether a connection counts as this customer's already
abbrev pub is_own : Option Who → Who → Bool
is_own None who = false
is_own (Some own) who = same_who own who

-- whether one may count as another customer's: it does already, or that may have one more
abbrev pub may_belong : Option Who → Who → ℕ → ConnectionsOf → Bool
may_belong account who most there = is_own account who || nat_lt (connections_of who there.customers) most

-- the connections once one counts as another customer's
abbrev pub after_move : Option Who → Who → ConnectionsOf → ConnectionsOf
after_move account who there = if is_own account who then there else after_departure account (record there { customers = with_one_more who there.customers })
