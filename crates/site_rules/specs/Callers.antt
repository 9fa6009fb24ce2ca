-- Meaning: whose a connection to a site is, by its first bytes.
use Rattle.std.specs.Prelude.{◌≡◌, ℕ, List, Option, Some, None, Result, Ok, Err, take, drop}
use Rattle.std.specs.Int.{w32, w64, from_be_bytes}
use Rattle.site_rules.specs.declared.faults.HeaderFault.{HeaderFault}
use Rattle.site_rules.specs.declared.headers.Origin.{Origin}
use Rattle.site_rules.specs.declared.headers.Origin.TheVariants.{Local, V4 as told_v4, V6 as told_v6}
use Rattle.site_rules.specs.Fields.{field_of}
use Rattle.site_rules.specs.Headers.{HeaderOf}
use Rattle.site_rules.specs.Texts.{IsReading}
use Rattle.site_file.specs.Addresses.{v6_of}
use Rattle.site_file.specs.declared.address.Address.{Address}
use Rattle.site_file.specs.declared.address.Address.TheVariants.{V4}
use Rattle.site_file.specs.Keys.{by_connection, by_token}
use Rattle.site_file.specs.declared.keys.CertificateKey.{CertificateKey}
use Rattle.site_file.specs.declared.keys.NetworkKey.{NetworkKey}
use Rattle.site_file.specs.declared.keys.TokenKey.{TokenKey}
use Rattle.site_book.specs.declared.who.Who.{Who}
use Rattle.site_rules.specs.declared.callers.Recognized.{Recognized}
use Rattle.site_rules.specs.declared.callers.Recognized.TheVariants.{Known, Unfinished, Foreign}
use Rattle.site_rules.specs.declared.callers.Port.{Port}
use Rattle.site_rules.specs.declared.callers.Port.TheVariants.{Proxied, Plain}

-- whose a connection is: it comes from this address, perhaps with a certificate of this name, and so many bytes said it; more bytes are to
-- come; or it is closed
pub data CallerOf : Type 0 where
  Comes : (address : Address) (certificate : Option (List ℕ)) (used : ℕ) → CallerOf
  Waiting : CallerOf
  Closed : CallerOf

-- the address from which a connection comes: the one that its header tells; its own where none is told
abbrev pub address_of : Origin → Address → Address
address_of Local peer = peer
address_of (told_v4 octets port) peer = V4 (from_be_bytes w32 octets)
address_of (told_v6 octets port) peer = v6_of (from_be_bytes w64 (take 8 octets)) (from_be_bytes w64 (drop 8 octets))

-- whose a connection is, by what was read of its proxy's header
abbrev pub caller_by : Result (Option HeaderOf) HeaderFault → Address → CallerOf
caller_by (Err fault) peer = Closed
caller_by (Ok None) peer = Waiting
caller_by (Ok (Some header)) peer = Comes (address_of header.origin peer) (field_of 5 header.fields) header.used

-- whose a connection is: at the proxy's port by its header, which must be there; at the other port by the connection's
-- own address
abbrev pub IsIdentified : Port → List ℕ → Address → CallerOf → Type 0
IsIdentified Plain bytes peer caller = caller ≡ Comes peer None 0
IsIdentified Proxied bytes peer caller = (read : Result (Option HeaderOf) HeaderFault) × IsReading bytes read × (caller ≡ caller_by read peer)

-- a caller by the file's keys: the customer of its certificate's name, or else of its address
abbrev pub recognized : List CertificateKey → List NetworkKey → CallerOf → Recognized
recognized certificates networks (Comes address certificate used) = Known (record { who = by_connection certificates networks certificate address; address = address; used = used })
recognized certificates networks Waiting = Unfinished
recognized certificates networks Closed = Foreign

-- whose a session is to be that a HELLO asks for on a connection of this customer: the customer's of the token, or else the connection's own
abbrev pub speaker : Who → List TokenKey → Option (List ℕ) → Option Who
speaker own tokens None = Some own
speaker own tokens (Some token) = by_token tokens token
