-- Rows of the command line: what `serve` is asked with and without its options, by computing the definition.
use Rattle.std.proofs.Common.{refl}
use Rattle.clap.proofs.OnLiterals.{clap_on_literals}
use Rattle.commands.proofs.command_line.rows.serve_is_asked.Goals as goal

pub returns : goal.returns
unfolding clap_on_literals
returns c = record { plain = refl; all = refl; faultless = refl; greatest = refl; too_many = refl; too_few = refl }
