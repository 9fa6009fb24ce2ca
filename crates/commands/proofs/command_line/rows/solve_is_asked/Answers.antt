-- Rows of the command line: what `solve` is asked with and without its options, by computing the definition.
use Rattle.std.proofs.Common.{refl}
use Rattle.clap.proofs.OnLiterals.{clap_on_literals}
use Rattle.commands.proofs.command_line.rows.solve_is_asked.Goals as goal

pub returns : goal.returns
unfolding clap_on_literals
returns c = record { plain = refl; both = refl; ended = refl; faultless = refl; too_great = refl; no_number = refl }
