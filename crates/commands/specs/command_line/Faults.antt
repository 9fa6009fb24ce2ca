-- Meaning: why the words of `othello`'s command line are refused, and the exit statuses.
use Rattle.std.specs.Prelude.{◌≡◌, ◌⊎◌, ℕ, List, [], Option, None}
use Rattle.clap.specs.Words.{IsAmong, Text, fault_of, kind_of}
use Rattle.clap.specs.declared.error.kind.ErrorKind.{ErrorKind}
use Rattle.clap.specs.declared.error.kind.ErrorKind.TheVariants.{DisplayHelp, DisplayVersion, ValueValidation}
use Rattle.commands.specs.declared.command_line.faults.WordsFault.{WordsFault}
use Rattle.commands.specs.declared.command_line.faults.WordsFault.TheVariants.{OutOfMemory, Refused}
use Rattle.commands.specs.declared.command_line.options.Options.{Options}
use Rattle.commands.specs.command_line.CommandLine.{options_asked, program}

-- words have a fault of this kind: one of those that clap finds, or it finds none and they ask for nothing, as a value
-- is outside its limits or `--ordered` doesn't stand alone
abbrev pub IsFaultOf : List ErrorKind → Option Options → ErrorKind → Type 0
IsFaultOf found asked kind = IsAmong kind found ⊎ ((found ≡ []) × (asked ≡ None) × (kind ≡ ValueValidation))

-- words are refused for a fault that they have, or there was no memory
abbrev pub IsRefusalOf : List ErrorKind → Option Options → WordsFault → Type 0
IsRefusalOf found asked OutOfMemory = Unit {0}
IsRefusalOf found asked (Refused error) = IsFaultOf found asked (kind_of error)

-- these words of a command line are refused for a fault that they have, or there was no memory
abbrev pub IsRefusal : List Text → WordsFault → Type 0
IsRefusal words fault = IsRefusalOf (fault_of program words) (options_asked words) fault

-- what the words ask for is refused, as an error of the kind `ValueValidation`, or there was no memory
abbrev pub IsOutside : WordsFault → Type 0
IsOutside OutOfMemory = Unit {0}
IsOutside (Refused error) = kind_of error ≡ ValueValidation

-- the exit status for an error of this kind: 0 where help or the version is asked for, else 2
abbrev pub status_of_kind : ErrorKind → ℕ
status_of_kind DisplayHelp = 0
status_of_kind DisplayVersion = 0
status_of_kind _ = 2

-- the exit status for a fault of the words: 1 for want of memory, else that of the error's kind
abbrev pub exit_status : WordsFault → ℕ
exit_status OutOfMemory = 1
exit_status (Refused error) = status_of_kind (kind_of error)
