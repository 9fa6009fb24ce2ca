-- Meaning: a header of the PROXY protocol, version 2, as HAProxy's specification has it: 12 bytes of signature; a byte whose high half is the version, 2,
-- and whose low half the command, 0 for LOCAL and 1 for PROXY; a byte of family; two bytes of length, the high one first; and so many bytes after that.
use Rattle.std.specs.Prelude.{ℕ, ◌+◌, ◌-◌, ◌*◌, ◌/◌, ◌%◌, ◌==◌, List, [], ◌∷◌, length, take, drop, min, nat_lt, slice_index, if◌then◌else◌, Option, Some, None, Result, Ok, Err}
use Rattle.std.specs.Str.{bytes_eq}
use Rattle.site_rules.specs.declared.faults.HeaderFault.{HeaderFault}
use Rattle.site_rules.specs.declared.faults.HeaderFault.TheVariants.{NoHeader, Version, Command, LongHeader, Family, ShortAddress}
use Rattle.site_rules.specs.declared.headers.Origin.{Origin}
use Rattle.site_rules.specs.declared.headers.Origin.TheVariants.{Local, V4, V6}

-- a header: where the connection comes from, the bytes of its fields, and how many bytes it has
pub record HeaderOf : Type 0 where
  pub origin : Origin
  pub fields : List ℕ
  pub used : ℕ

-- the 12 bytes that a header of version 2 begins with: CR LF CR LF 0 CR LF Q U I T LF
abbrev pub signature : List ℕ
signature = 13 ∷ 10 ∷ 13 ∷ 10 ∷ 0 ∷ 13 ∷ 10 ∷ 81 ∷ 85 ∷ 73 ∷ 84 ∷ 10 ∷ []

-- the number that the two bytes from there on write, the high one first
abbrev pub number_at : List ℕ → ℕ → ℕ
number_at bytes at = slice_index bytes at * 256 + slice_index bytes (at + 1)

-- a header that tells no address, with so many bytes after the first 16
abbrev pub local_header : ℕ → HeaderOf
local_header size = record { origin = Local; fields = []; used = 16 + size }

-- what a header of TCP over IPv4 says by the bytes after its first 16: 4 bytes of the source's address, 4 of the target's, the source's port and the
-- target's, and then fields
abbrev pub v4_reading : List ℕ → Result HeaderOf HeaderFault
v4_reading body =
    if nat_lt (length body) 12 then Err ShortAddress
    else Ok (record { origin = V4 (take 4 body) (number_at body 8); fields = drop 12 body; used = 16 + length body })

-- the header of TCP over IPv6 whose body is this, with two addresses of 16 bytes
abbrev pub v6_reading : List ℕ → Result HeaderOf HeaderFault
v6_reading body =
    if nat_lt (length body) 36 then Err ShortAddress
    else Ok (record { origin = V6 (take 16 body) (number_at body 32); fields = drop 36 body; used = 16 + length body })

-- what a header says by its family and the bytes after its first 16: 0x00 is unspecified, 0x11 is TCP over IPv4, 0x21 TCP over IPv6
abbrev pub family_reading : ℕ → List ℕ → Result HeaderOf HeaderFault
family_reading family body =
    if family == 0 then Ok (local_header (length body))
    else (if family == 17 then v4_reading body
    else (if family == 33 then v6_reading body
    else Err Family))

-- a whole header, or its fault, as what is read of bytes that may be a header
abbrev pub whole : Result HeaderOf HeaderFault → Result (Option HeaderOf) HeaderFault
whole (Ok header) = Ok (Some header)
whole (Err fault) = Err fault

-- what these bytes say by their command, family and length, where their first 16 are there; None where the header isn't whole yet
abbrev pub command_reading : ℕ → ℕ → ℕ → List ℕ → Result (Option HeaderOf) HeaderFault
command_reading command family size bytes =
    if nat_lt 1 command then Err Command
    else (if nat_lt 4080 size then Err LongHeader
    else (if nat_lt (length bytes - 16) size then Ok None
    else (if command == 0 then Ok (Some (local_header size))
    else whole (family_reading family (take size (drop 16 bytes))))))

-- what these bytes say, where they begin with the signature or are a beginning of it
abbrev pub front_reading : List ℕ → Result (Option HeaderOf) HeaderFault
front_reading bytes =
    if nat_lt (length bytes) 16 then Ok None
    else (if slice_index bytes 12 / 16 == 2 then command_reading (slice_index bytes 12 % 16) (slice_index bytes 13) (number_at bytes 14) bytes
    else Err Version)

-- what these bytes say: a header; that it isn't whole yet (None); or that they are no header that is understood
abbrev pub reading : List ℕ → Result (Option HeaderOf) HeaderFault
reading bytes =
    if bytes_eq (take (min (length bytes) 12) bytes) (take (min (length bytes) 12) signature) then front_reading bytes else Err NoHeader
