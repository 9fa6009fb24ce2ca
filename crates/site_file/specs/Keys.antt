-- Meaning: whose a connection to a site is, by the keys of its file: tokens, certificates, networks.
use Rattle.std.specs.Prelude.{ℕ, nat_lt, List, [], ◌∷◌, Option, Some, None, option_map, string_bytes, if◌then◌else◌}
use Rattle.std.specs.Str.{bytes_eq}
use Rattle.sha2.specs.Sha256.{sha256}
use Rattle.site_book.specs.declared.who.Who.{Who}
use Rattle.site_book.specs.declared.who.Who.TheVariants.{Named}
use Rattle.site_file.specs.declared.address.Address.{Address}
use Rattle.site_file.specs.declared.keys.TokenKey.{TokenKey}
use Rattle.site_file.specs.declared.keys.CertificateKey.{CertificateKey}
use Rattle.site_file.specs.declared.keys.NetworkKey.{NetworkKey}
use Rattle.site_file.specs.Addresses.{has, fixed_bits, guest_of}

-- the customer of the first token of this digest
abbrev pub customer_of_digest : List ℕ → List TokenKey → Option ℕ
customer_of_digest digest [] = None
customer_of_digest digest (key ∷ keys) = if bytes_eq key.digest digest then Some key.customer else customer_of_digest digest keys

-- the customer of the first certificate of this name
abbrev pub customer_of_name : List ℕ → List CertificateKey → Option ℕ
customer_of_name name [] = None
customer_of_name name (key ∷ keys) = if bytes_eq (string_bytes key.name) name then Some key.customer else customer_of_name name keys

-- of two keys the one whose network fixes more bits; the first where both fix as many
abbrev pub closer : Option NetworkKey → Option NetworkKey → Option NetworkKey
closer None next = next
closer (Some key) None = Some key
closer (Some key) (Some next) = if nat_lt (fixed_bits key.network) (fixed_bits next.network) then Some next else Some key

-- of the keys whose networks have the address, the one that fixes the most bits
abbrev pub closest : Address → List NetworkKey → Option NetworkKey
closest address [] = None
closest address (key ∷ keys) = if has key.network address then closer (Some key) (closest address keys) else closest address keys

-- the named customer of this number, if a number is given; else this other customer
abbrev pub named_or : Option ℕ → Who → Who
named_or None who = who
named_or (Some number) who = Named number

-- the customer of the closest network that has the address, or else the guest of the address
abbrev pub by_address : List NetworkKey → Address → Who
by_address networks address = named_or (option_map (λ (key : NetworkKey). key.customer) (closest address networks)) (guest_of address)

-- the customer of a certificate's name, if there is a certificate and the file has its name
abbrev pub by_name : List CertificateKey → Option (List ℕ) → Option ℕ
by_name certificates None = None
by_name certificates (Some name) = customer_of_name name certificates

-- who a connection without a token is: by its certificate's name, or else by its address
abbrev pub by_connection : List CertificateKey → List NetworkKey → Option (List ℕ) → Address → Who
by_connection certificates networks certificate address = named_or (by_name certificates certificate) (by_address networks address)

-- the customer of a token, by its SHA-256 digest
abbrev pub by_token : List TokenKey → List ℕ → Option Who
by_token tokens token = option_map Named (customer_of_digest (sha256 token) tokens)

-- who a connection is: by its token, if it gave one, and nobody where the file hasn't that; or else by the connection
abbrev pub who_of : List TokenKey → List CertificateKey → List NetworkKey → Option (List ℕ) → Option (List ℕ) → Address → Option Who
who_of tokens certificates networks None certificate address = Some (by_connection certificates networks certificate address)
who_of tokens certificates networks (Some token) certificate address = by_token tokens token
