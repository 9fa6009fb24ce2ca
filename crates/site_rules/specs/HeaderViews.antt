-- Representation: the types of the code that reads a proxy's header as data, and the numbers of faults.
use Rattle.std.specs.Prelude.{ℕ, Option, Result, Ok, Err}
use Rattle.std.specs.Option.{option_map}
use Rattle.site_rules.specs.declared.faults.HeaderFault.{HeaderFault}
use Rattle.site_rules.specs.declared.faults.HeaderFault.TheVariants.{NoHeader, Version, Command, LongHeader, Family, ShortAddress, WrongText}
use Rattle.site_rules.specs.declared.headers.Header.{Header}
use Rattle.site_rules.specs.declared.texts.Text.{Text}
use Rattle.site_rules.specs.declared.texts.Text.TheVariants.{Waiting as waiting, Foreign as foreign, Wrong as wrong, Unknown as unknown, Told as told}
use Rattle.site_rules.specs.Headers.{HeaderOf}
use Rattle.site_rules.specs.Texts.{TextOf, Waiting, Foreign, Wrong, Unknown, Told}

-- a header with its fields as a list of bytes
abbrev pub header_seen : Header → HeaderOf
header_seen header = record { origin = header.origin; fields = header.fields.now; used = header.used }

-- what is read of a whole header, or its fault, as data
abbrev pub result_seen : Result Header HeaderFault → Result HeaderOf HeaderFault
result_seen (Ok header) = Ok (header_seen header)
result_seen (Err fault) = Err fault

-- what is read of bytes that may be a header: one, none yet, or a fault, as data
abbrev pub read_seen : Result (Option Header) HeaderFault → Result (Option HeaderOf) HeaderFault
read_seen (Ok header) = Ok (option_map header_seen header)
read_seen (Err fault) = Err fault

-- the number of each fault of a header
abbrev pub header_fault_number : HeaderFault → ℕ
header_fault_number NoHeader = 1
header_fault_number Version = 2
header_fault_number Command = 3
header_fault_number LongHeader = 4
header_fault_number Family = 5
header_fault_number ShortAddress = 6
header_fault_number WrongText = 7

-- what a header of version 1 says, as the contracts see it
abbrev pub text_seen : Text → TextOf
text_seen waiting = Waiting
text_seen foreign = Foreign
text_seen wrong = Wrong
text_seen (unknown used) = Unknown used
text_seen (told four source target port used) = Told four source.now target.now port used
