-- An option with a number on the command line (`Setting::is_given`): it counts as given exactly where the words give
-- it a value.
use Rattle.std.proofs.Common.{ap, ◌∙◌, Option}
use Rattle.std.specs.Prelude.{is_some}
use Rattle.clap.specs.Words.{Text, found_of}
use Rattle.clap.proofs.WalkLemmas.{first_value-rows}
use Rattle.commands.proofs.command_line.settings.Setting.is_given.Goals as goal

pub returns-in-Some : goal.returns-in-Some
returns-in-Some c = ap (λ (o : Option Text). is_some o) (c.in-Some.ensures ∙ first_value-rows (found_of c.args.given.now) c.args.self.now.name.now)

pub returns-in-None : goal.returns-in-None
returns-in-None c = ap (λ (o : Option Text). is_some o) (c.in-None.ensures ∙ first_value-rows (found_of c.args.given.now) c.args.self.now.name.now)
