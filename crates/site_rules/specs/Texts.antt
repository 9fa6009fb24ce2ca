-- Meaning: a header of the PROXY protocol, version 1, as HAProxy's specification has it: PROXY, TCP4 or TCP6, the source's address, the target's, the
-- source's port and the target's, one space before each, then CR and LF; or PROXY UNKNOWN and anything up to CR and LF. It has at most 107 bytes.
use Rattle.std.specs.Prelude.{◌≡◌, ℕ, ◌+◌, ◌-◌, ◌==◌, List, [], ◌∷◌, length, take, min, nat_lt, nat_le, slice_index, slice_range, if◌then◌else◌, Bool, true, false, Option, Some, None, Result, Ok, Err, codes, position}
use Rattle.std.specs.Str.{bytes_eq}
use Rattle.std.specs.Net.Addr.{ipv4_octets, ipv6_octets}
use Rattle.std.specs.Net.Grammar.{IsIpv4Text, IsIpv6Text}
use Rattle.std.specs.declared.net.ipv4_addr.Ipv4Addr.{Ipv4Addr}
use Rattle.std.specs.declared.net.ipv6_addr.Ipv6Addr.{Ipv6Addr}
use Rattle.protocol.specs.Words.{split_at_space, word_number}
use Rattle.site_rules.specs.declared.faults.HeaderFault.{HeaderFault}
use Rattle.site_rules.specs.declared.faults.HeaderFault.TheVariants.{NoHeader, WrongText}
use Rattle.site_rules.specs.declared.headers.Origin.TheVariants.{Local, V4, V6}
use Rattle.site_rules.specs.Headers.{HeaderOf, whole, reading}

-- what the bytes of a header of version 1 say, before its addresses are read: more bytes are to come (Waiting); they
-- are no header at all (Foreign); they begin as one and are wrong (Wrong); no address is told (Unknown); or these
-- texts of the source's and the target's addresses, of IPv4 (true) or IPv6, and the source's port (Told). `used` is
-- how many bytes the header has
pub data TextOf : Type 0 where
  Waiting : TextOf
  Foreign : TextOf
  Wrong : TextOf
  Unknown : (used : ℕ) → TextOf
  Told : (four : Bool) (source target : List ℕ) (port used : ℕ) → TextOf

-- a port: a number of 1 to 8 digits that is at most 65,535
abbrev pub port_within : Option ℕ → Option ℕ
port_within None = None
port_within (Some n) = if nat_le n 65535 then Some n else None

-- the port (0 to 65535) that a word writes; None for any other word
abbrev pub port_of : List ℕ → Option ℕ
port_of word = port_within (word_number word)

-- what is told by two addresses and what their ports write
abbrev pub told_by_header : Bool → List ℕ → List ℕ → ℕ → Option ℕ → Option ℕ → TextOf
told_by_header four source target used None other = Wrong
told_by_header four source target used (Some port) None = Wrong
told_by_header four source target used (Some port) (Some other) = Told four source target port used

-- what is told by two addresses and the two words of their ports
abbrev pub ports_by : Bool → List ℕ → List ℕ → ℕ → Option (List ℕ × List ℕ) → TextOf
ports_by four source target used None = Wrong
ports_by four source target used (Some words) = told_by_header four source target used (port_of words.0) (port_of words.1)

-- what a header tells by its two addresses and by the words of both ports
abbrev pub told_reading : Bool → List ℕ → List ℕ → List ℕ → ℕ → TextOf
told_reading four source target ports used = ports_by four source target used (split_at_space ports)

-- what a header of version 1 tells by its words after the source's address
abbrev pub target_by : Bool → List ℕ → ℕ → Option (List ℕ × List ℕ) → TextOf
target_by four source used None = Wrong
target_by four source used (Some words) = told_reading four source words.0 words.1 used

-- what a header tells by the words from the source's address on; wrong where there are none
abbrev pub source_by : Bool → ℕ → Option (List ℕ × List ℕ) → TextOf
source_by four used None = Wrong
source_by four used (Some words) = target_by four words.0 used (split_at_space words.1)

-- what a header of TCP over IPv4 (or IPv6) tells by its words after the family
abbrev pub addresses_reading : Bool → List ℕ → ℕ → TextOf
addresses_reading four words used = source_by four used (split_at_space words)

-- what the words after PROXY tell, by how they split at their first space
abbrev pub family_by : List ℕ → ℕ → Option (List ℕ × List ℕ) → TextOf
family_by words used None = if bytes_eq words (codes "UNKNOWN") then Unknown used else Wrong
family_by words used (Some parts) =
    if bytes_eq parts.0 (codes "UNKNOWN") then Unknown used
    else (if bytes_eq parts.0 (codes "TCP4") then addresses_reading true parts.1 used
    else (if bytes_eq parts.0 (codes "TCP6") then addresses_reading false parts.1 used
    else Wrong))

-- what a header tells by its words after PROXY, split at their first space
abbrev pub words_reading : List ℕ → ℕ → TextOf
words_reading words used = family_by words used (split_at_space words)

-- what these bytes tell, which begin with PROXY and a space or are a beginning of that, by where their first LF stands among the first 107
abbrev pub line_by : List ℕ → Option ℕ → TextOf
line_by bytes None = if nat_lt (length bytes) 107 then Waiting else Wrong
line_by bytes (Some end) =
    if nat_lt end 8 then Wrong
    else (if slice_index bytes (end - 1) == 13 then words_reading (slice_range bytes 6 (end - 1)) (end + 1) else Wrong)

-- where the first LF among the first 107 bytes stands
abbrev pub line_end : List ℕ → Option ℕ
line_end bytes = position (λ b. b == 10) (take (min (length bytes) 107) bytes)

-- what bytes tell as a header of version 1; Foreign where they don't begin as one
abbrev pub text_reading : List ℕ → TextOf
text_reading bytes =
    if bytes_eq (take (min (length bytes) 6) bytes) (take (min (length bytes) 6) (codes "PROXY ")) then line_by bytes (line_end bytes)
    else Foreign

-- what is read of a header of version 1 with these two addresses over IPv4 and this port: if both texts spell an
-- address, the source's is told with its port; else it is a fault
abbrev pub IsTold4 : List ℕ → List ℕ → ℕ → ℕ → Result HeaderOf HeaderFault → Type 0
IsTold4 source target port used (Ok header) =
    (a b : Ipv4Addr) × IsIpv4Text source a × IsIpv4Text target b × (header ≡ record { origin = V4 (ipv4_octets a) port; fields = []; used = used })
IsTold4 source target port used (Err fault) = (fault ≡ WrongText) × ((a b : Ipv4Addr) → IsIpv4Text source a → IsIpv4Text target b → ⊥)

-- what is read of a header of version 1 with these two addresses over IPv6 and this port: if both texts spell an
-- address, the source's is told with its port; else it is a fault
abbrev pub IsTold6 : List ℕ → List ℕ → ℕ → ℕ → Result HeaderOf HeaderFault → Type 0
IsTold6 source target port used (Ok header) =
    (a b : Ipv6Addr) × IsIpv6Text source a × IsIpv6Text target b × (header ≡ record { origin = V6 (ipv6_octets a) port; fields = []; used = used })
IsTold6 source target port used (Err fault) = (fault ≡ WrongText) × ((a b : Ipv6Addr) → IsIpv6Text source a → IsIpv6Text target b → ⊥)

-- what is read of a header of version 1 with these two addresses, of IPv4 (true) or IPv6, and this port
abbrev pub IsTold : Bool → List ℕ → List ℕ → ℕ → ℕ → Result HeaderOf HeaderFault → Type 0
IsTold true source target port used told = IsTold4 source target port used told
IsTold false source target port used told = IsTold6 source target port used told

-- what is read of bytes, by what they say as a header of version 1: that it isn't whole yet, a fault, or the header
abbrev pub IsSaid : TextOf → Result (Option HeaderOf) HeaderFault → Type 0
IsSaid Waiting r = r ≡ Ok None
IsSaid Foreign r = r ≡ Err NoHeader
IsSaid Wrong r = r ≡ Err WrongText
IsSaid (Unknown used) r = r ≡ Ok (Some (record { origin = Local; fields = []; used = used }))
IsSaid (Told four source target port used) r = (told : Result HeaderOf HeaderFault) × IsTold four source target port used told × (r ≡ whole told)

-- what is read of a connection's first bytes: where they begin with P (80) by version 1 of the protocol, else by
-- version 2
abbrev pub IsReadingBy : Bool → List ℕ → Result (Option HeaderOf) HeaderFault → Type 0
IsReadingBy true bytes r = IsSaid (text_reading bytes) r
IsReadingBy false bytes r = r ≡ reading bytes

-- what may be read of a connection's first bytes: nothing yet where there are none; a header of version 1 where they
-- begin with P (80), else one of version 2
abbrev pub IsReading : List ℕ → Result (Option HeaderOf) HeaderFault → Type 0
IsReading [] r = r ≡ Ok None
IsReading (b ∷ bs) r = IsReadingBy (b == 80) (b ∷ bs) r
