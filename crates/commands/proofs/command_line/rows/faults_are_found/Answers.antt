-- Rows of the command line: words with a fault, and which fault each has, by computing the definition.
use Rattle.std.proofs.Common.{refl}
use Rattle.clap.proofs.OnLiterals.{clap_on_literals}
use Rattle.commands.proofs.command_line.rows.faults_are_found.Goals as goal

pub returns : goal.returns
unfolding clap_on_literals
returns c = record { none = refl; help = refl; version = refl; twice = refl; a_value = refl; unknown = refl; no_sessions = refl }
