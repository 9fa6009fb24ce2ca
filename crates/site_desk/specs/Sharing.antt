-- Meaning: as who a site's session shares the workers with others, and what its end makes of that.
use Rattle.std.specs.Prelude.{ℕ, ◌+◌, ◌*◌, min, Option, Some, None}
use Rattle.fair_share.specs.Lines.{place_named}
use Rattle.fair_share.specs.Shares.{SharesOf, left_all}
use Rattle.site_book.specs.declared.who.Who.{Who}
use Rattle.site_book.specs.declared.who.Who.TheVariants.{Named, V4, V6}

-- the customer as whom a session shares: all guests are customer 0, and the named one at a place is the next number, up to 2^32 - 1
abbrev pub share_customer : Who → ℕ
share_customer (Named place) = min (place + 1) 4294967295
share_customer (V4 address) = 0
share_customer (V6 network) = 0

-- the network under which a session shares the workers: a guest's is the first 64 bits of its address of IPv6, and of
-- an address of IPv4 those that 6to4 (RFC 3056) makes of it: 2002, the address, and 16 bits of 0. A named customer has
-- one network
abbrev pub share_network : Who → ℕ
share_network (Named place) = 0
share_network (V4 address) = 2306405959167115264 + address * 65536
share_network (V6 network) = network

-- who shares after the tenant at a place has left, if it has one
abbrev pub unshared_at : Option ℕ → SharesOf → SharesOf
unshared_at None shares = shares
unshared_at (Some place) shares = left_all place shares

-- who shares the workers once this tenant has left, if it was among them
abbrev pub unshared : ℕ → SharesOf → SharesOf
unshared tenant shares = unshared_at (place_named tenant shares.tenants.accounts) shares
