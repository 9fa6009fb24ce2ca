-- An option with a number on the command line (`Setting::number_in`): the number is the one that the words write, or
-- else its default.
use Rattle.std.proofs.Common.{ap, ◌∙◌, Option}
use Rattle.std.specs.Option.{option_map_or}
use Rattle.clap.specs.Words.{Text, found_of}
use Rattle.clap.proofs.WalkLemmas.{first_value-rows}
use Rattle.protocol.specs.Words.{word_number}
use Rattle.commands.proofs.command_line.settings.Setting.number_in.Goals as goal

pub returns-in-Some : goal.returns-in-Some
returns-in-Some c = c.word_number.ensures ∙ ap word_number c.as_bytes.ensures.value ∙ ap (λ (o : Option Text). option_map_or word_number o c.args.self.now.default) (c.in-Some.ensures ∙ first_value-rows (found_of c.args.given.now) c.args.self.now.name.now)

pub returns-in-None : goal.returns-in-None
returns-in-None c = ap (λ (o : Option Text). option_map_or word_number o c.args.self.now.default) (c.in-None.ensures ∙ first_value-rows (found_of c.args.given.now) c.args.self.now.name.now)
