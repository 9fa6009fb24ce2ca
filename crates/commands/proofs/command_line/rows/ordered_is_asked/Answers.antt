-- Rows of the command line: `--ordered` stands alone, by computing the definition.
use Rattle.std.proofs.Common.{refl}
use Rattle.clap.proofs.OnLiterals.{clap_on_literals}
use Rattle.commands.proofs.command_line.rows.ordered_is_asked.Goals as goal

pub returns : goal.returns
unfolding clap_on_literals
returns c = record { alone = refl; faultless = refl; with_grain = refl; with_no_number = refl; with_visited = refl; twice = refl }
