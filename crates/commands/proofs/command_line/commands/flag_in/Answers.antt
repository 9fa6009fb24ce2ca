-- The command line of `othello` (`commands::flag_in`): a flag counts as given exactly where its value is `true`.
use Rattle.std.proofs.Common.{ap, false, ◌∙◌, codes, Option}
use Rattle.std.specs.Str.{bytes_eq}
use Rattle.std.specs.Option.{option_map_or}
use Rattle.clap.specs.Words.{Text, found_of}
use Rattle.clap.proofs.WalkLemmas.{first_value-rows}
use Rattle.commands.proofs.command_line.commands.flag_in.Goals as goal

pub returns-in-Some : goal.returns-in-Some
returns-in-Some c = c.eq.ensures ∙ ap (λ (o : Option Text). option_map_or (λ value. bytes_eq value (codes "true")) o false) (c.in-Some.ensures ∙ first_value-rows (found_of c.args.given.now) c.args.flag.now)

pub returns-in-None : goal.returns-in-None
returns-in-None c = ap (λ (o : Option Text). option_map_or (λ value. bytes_eq value (codes "true")) o false) (c.in-None.ensures ∙ first_value-rows (found_of c.args.given.now) c.args.flag.now)
