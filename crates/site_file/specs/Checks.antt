-- Meaning: what the directory of customers in a site's file may not say.
use Rattle.std.specs.Prelude.{ℕ, ◌+◌, ◌==◌, Bool, true, false, ◌&&◌, ◌||◌, nat_le, List, [], ◌∷◌, Option, Some, None, string_bytes, if◌then◌else◌}
use Rattle.site_file.specs.declared.rate.Rate.{Rate}
use Rattle.site_file.specs.declared.address.Network.{Network}
use Rattle.site_file.specs.declared.directory.Terms.{Terms}
use Rattle.site_file.specs.declared.keys.Keys.{Keys}
use Rattle.site_file.specs.declared.keys.TokenKey.{TokenKey}
use Rattle.site_file.specs.declared.keys.CertificateKey.{CertificateKey}
use Rattle.site_file.specs.declared.keys.NetworkKey.{NetworkKey}
use Rattle.site_file.specs.declared.checks.DirectoryFault.{DirectoryFault}
use Rattle.site_file.specs.declared.checks.DirectoryFault.TheVariants.{Rates, Keyless, Shared}
use Rattle.site_file.specs.Addresses.{is_same_network}
use Rattle.site_file.specs.Keys.{customer_of_digest, customer_of_name}

-- a rate of lines lets lines pass at all: its period is above 0, and so is the count that may come at once
abbrev pub is_fit_rate : Rate → Bool
is_fit_rate rate = nat_le 1 rate.period && nat_le 1 rate.burst

-- whether each customer's rate lets lines pass at all
abbrev pub are_fit_terms : List Terms → Bool
are_fit_terms [] = true
are_fit_terms (terms ∷ customers) = is_fit_rate terms.rate && are_fit_terms customers

-- whether a token is of the customer of this number
abbrev pub has_token : ℕ → List TokenKey → Bool
has_token number [] = false
has_token number (key ∷ keys) = (key.customer == number) || has_token number keys

-- whether the customer of this number has a certificate among these keys
abbrev pub has_certificate : ℕ → List CertificateKey → Bool
has_certificate number [] = false
has_certificate number (key ∷ keys) = (key.customer == number) || has_certificate number keys

-- whether the customer of this number has a network among these keys
abbrev pub has_network : ℕ → List NetworkKey → Bool
has_network number [] = false
has_network number (key ∷ keys) = (key.customer == number) || has_network number keys

-- whether the customer of this number has a key
abbrev pub has_key : ℕ → Keys → Bool
has_key number keys = has_token number keys.tokens.items || has_certificate number keys.certificates.items || has_network number keys.networks.items

-- the number of the first customer that has no key, counted on from `number`
abbrev pub first_keyless : List Terms → ℕ → Keys → Option ℕ
first_keyless [] number keys = None
first_keyless (terms ∷ customers) number keys = if has_key number keys then first_keyless customers (number + 1) keys else Some number

-- the customer of the first key of this network
abbrev pub same_network : Network → List NetworkKey → Option ℕ
same_network network [] = None
same_network network (key ∷ keys) = if is_same_network key.network network then Some key.customer else same_network network keys

-- the first of two customers, if there is one; else the second
abbrev pub or_other : Option ℕ → Option ℕ → Option ℕ
or_other None next = next
or_other (Some number) next = Some number

-- the customer of the second of two tokens that are the same
abbrev pub repeated_token : List TokenKey → Option ℕ
repeated_token [] = None
repeated_token (key ∷ keys) = or_other (customer_of_digest key.digest keys) (repeated_token keys)

-- the customer of the second of two certificates of the same name, if there are such
abbrev pub repeated_certificate : List CertificateKey → Option ℕ
repeated_certificate [] = None
repeated_certificate (key ∷ keys) = or_other (customer_of_name (string_bytes key.name) keys) (repeated_certificate keys)

-- the customer of the second of two networks that are the same, if there are such
abbrev pub repeated_network : List NetworkKey → Option ℕ
repeated_network [] = None
repeated_network (key ∷ keys) = or_other (same_network key.network keys) (repeated_network keys)

-- the customer of a key that stands twice
abbrev pub shared_key : Keys → Option ℕ
shared_key keys = or_other (repeated_token keys.tokens.items) (or_other (repeated_certificate keys.certificates.items) (repeated_network keys.networks.items))

-- the fault of the first of two tests of a directory that finds one
abbrev pub or_fault : Option DirectoryFault → Option DirectoryFault → Option DirectoryFault
or_fault None next = next
or_fault (Some fault) next = Some fault

-- this fault of a directory, unless the test says yes
abbrev pub fault_unless : Bool → DirectoryFault → Option DirectoryFault
fault_unless test fault = if test then None else Some fault

-- the fault of this customer, if there is one
abbrev pub of_customer : (ℕ → DirectoryFault) → Option ℕ → Option DirectoryFault
of_customer fault None = None
of_customer fault (Some number) = Some (fault number)

-- the first fault of a directory: a customer that may never say a line, one without a key, and a key that stands twice
abbrev pub fault_of : List Terms → Terms → Keys → Option DirectoryFault
fault_of customers guest keys =
    or_fault (fault_unless (is_fit_rate guest.rate && are_fit_terms customers) Rates)
    (or_fault (of_customer Keyless (first_keyless customers 0 keys))
    (of_customer Shared (shared_key keys)))
