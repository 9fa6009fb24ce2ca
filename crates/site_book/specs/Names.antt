-- Meaning: whose a site's session is: a named customer's, or a guest's.
use Rattle.std.specs.Prelude.{ℕ, ◌/◌, ◌==◌, Bool, true, false}
use Rattle.site_book.specs.declared.who.Who.{Who}
use Rattle.site_book.specs.declared.who.Who.TheVariants.{Named, V4, V6}

-- whether a session's owner is the customer that the plan names at this place
abbrev pub is_named : ℕ → Who → Bool
is_named number (Named own) = number == own
is_named number (V4 address) = false
is_named number (V6 network) = false

-- whether a session's owner is the guest of this address of IPv4
abbrev pub is_v4 : ℕ → Who → Bool
is_v4 address (Named number) = false
is_v4 address (V4 own) = address == own
is_v4 address (V6 network) = false

-- whether a session's owner is the guest of this network of IPv6
abbrev pub is_v6 : ℕ → Who → Bool
is_v6 network (Named number) = false
is_v6 network (V4 address) = false
is_v6 network (V6 own) = network == own

-- whether both are the same owner of sessions: the same place in the plan, the same address of IPv4, or the same 64
-- bits of IPv6
abbrev pub same_who : Who → Who → Bool
same_who (Named number) who = is_named number who
same_who (V4 address) who = is_v4 address who
same_who (V6 network) who = is_v6 network who

-- whether a session's owner is a guest: of an address of IPv4 or of a network of IPv6
abbrev pub is_guest : Who → Bool
is_guest (Named number) = false
is_guest (V4 address) = true
is_guest (V6 network) = true

-- the wider network of a guest: of IPv6 that of the first 48 of its 64 bits, the others being 0; of IPv4 its address
abbrev pub network_of : Who → Who
network_of (Named number) = Named number
network_of (V4 address) = V4 address
network_of (V6 network) = V6 (network / 65536)
