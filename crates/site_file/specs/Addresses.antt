-- Meaning: addresses as a site's file has them, the networks that have them, and the guest of an address.
use Rattle.std.specs.Prelude.{ℕ, ◌-◌, ◌/◌, ◌%◌, ◌^◌, ◌==◌, Bool, false, ◌&&◌, if◌then◌else◌}
use Rattle.site_book.specs.declared.who.Who.{Who}
use Rattle.site_book.specs.declared.who.Who.TheVariants.{V4 as v4_guest, V6 as v6_guest}
use Rattle.site_file.specs.declared.address.Address.{Address}
use Rattle.site_file.specs.declared.address.Address.TheVariants.{V4, V6}
use Rattle.site_file.specs.declared.address.Network.{Network}
use Rattle.site_file.specs.declared.address.Network.TheVariants.{V4 as v4_network, V6 as v6_network}

-- the address of IPv6 of two halves: of one that stands for an address of IPv4, that one (RFC 4291, 2.5.5.2)
abbrev pub v6_of : ℕ → ℕ → Address
v6_of high low = if (high == 0) && (low / 2 ^ 32 == 65535) then V4 (low % 2 ^ 32) else V6 high low

-- the guest of an address: of IPv6 by the first 64 bits
abbrev pub guest_of : Address → Who
guest_of (V4 address) = v4_guest address
guest_of (V6 high low) = v6_guest high

-- whether two numbers of `width` bits have the same first `bits` bits
abbrev pub same_front : ℕ → ℕ → ℕ → ℕ → Bool
same_front width bits a b = (a / 2 ^ (width - bits)) == (b / 2 ^ (width - bits))

-- how many bits of an address a network fixes
abbrev pub fixed_bits : Network → ℕ
fixed_bits (v4_network own bits) = bits
fixed_bits (v6_network high low bits) = bits

-- whether a network has an address: the bits that it fixes are the address's
abbrev pub has : Network → Address → Bool
has (v4_network own bits) (V4 address) = same_front 32 bits own address
has (v4_network own bits) (V6 front back) = false
has (v6_network high low bits) (V4 address) = false
has (v6_network high low bits) (V6 front back) = same_front 64 bits high front && same_front 64 (bits - 64) low back

-- whether both networks are the same: of one version, with the same bits and as many
abbrev pub is_same_network : Network → Network → Bool
is_same_network (v4_network own bits) (v4_network other more) = (own == other) && (bits == more)
is_same_network (v4_network own bits) (v6_network front back more) = false
is_same_network (v6_network high low bits) (v4_network other more) = false
is_same_network (v6_network high low bits) (v6_network front back more) = (high == front) && (low == back) && (bits == more)
