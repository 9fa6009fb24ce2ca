-- What a refusal of a command line's words comes to: the fault and the exit status.
use Rattle.std.proofs.Common.{◌≡◌, List, [], Option, None, inr}
use Rattle.clap.specs.declared.error.kind.ErrorKind.{ErrorKind}
use Rattle.commands.specs.declared.command_line.faults.WordsFault.{WordsFault}
use Rattle.commands.specs.declared.command_line.faults.WordsFault.TheVariants.{OutOfMemory, Refused}
use Rattle.commands.specs.declared.command_line.options.Options.{Options}
use Rattle.commands.specs.command_line.Faults.{IsOutside, IsRefusalOf}

-- what the words ask for is refused where they have no other fault
pub refused-outside : (found : List ErrorKind) (asked : Option Options) (fault : WordsFault) → found ≡ [] → asked ≡ None → IsOutside fault → IsRefusalOf found asked fault
refused-outside found asked OutOfMemory faultless none outside = tt
refused-outside found asked (Refused error) faultless none outside = inr (faultless, none, outside)
