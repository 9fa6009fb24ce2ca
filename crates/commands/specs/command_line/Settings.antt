-- Meaning: the options of `othello`'s commands that have a number for their value.
use Rattle.std.specs.Prelude.{ℕ, Bool, ◌&&◌, ◌++◌, Option, Some, None, List, if◌then◌else◌, codes, decimal, nat_le, option_and_then}
use Rattle.std.specs.Option.{option_map_or}
use Rattle.clap.specs.Words.{Row, Rule, Text, first_of, new_rule}
use Rattle.protocol.specs.Words.{word_number}
use Rattle.commands.specs.declared.command_line.settings.Setting.{Setting}

-- an option with a number: the option's word, the least and the greatest value, and the default, if there is one
pub record NumberOption : Type 0 where
  pub name : Text
  pub least : ℕ
  pub most : ℕ
  pub default : Option ℕ

-- an option of the code as one of the specs, without its letter and its help
abbrev pub setting_of : Setting → NumberOption
setting_of s = record { name = s.name.now; least = s.least; most = s.most; default = s.default }

-- the number where it is within the option's limits, else None
abbrev pub within : NumberOption → ℕ → Option ℕ
within option n = if nat_le option.least n && nat_le n option.most then Some n else None

-- the number that the words give an option, or the default where they don't name it; None where they give no number of
-- 1 to 8 digits, or there is no default
abbrev pub number_asked : NumberOption → List Row → Option ℕ
number_asked option rows = option_map_or word_number (first_of option.name rows) option.default

-- the number that the words give an option, or its default, where it is within the limits; else None
abbrev pub value_asked : NumberOption → List Row → Option ℕ
value_asked option rows = option_and_then (within option) (number_asked option rows)

-- the error message for a value outside its limits
abbrev pub limits_text : NumberOption → Text
limits_text option = codes "--" ++ (option.name ++ (codes " takes a number from " ++ (decimal option.least ++ (codes " to " ++ decimal option.most))))

-- what `clap` knows of such an option: its word, and that it has a value
abbrev pub number_rule : Text → Bool → Rule
number_rule name required = record (new_rule name) { long = Some name; value_names = 1; required = required }
