-- The command line of `othello` (`Options::read`): what is read is what the definition says the words ask for, and
-- words are refused only for a fault of theirs.
use Rattle.std.proofs.Common.{◌≡◌, true, refl, sym, ap, ◌∙◌, map}
use Rattle.clap.specs.Words.{fault_of, is_simple, is_simple_and_free, subcommand_of}
use Rattle.clap.proofs.OnLiterals.{clap_on_literals}
use Rattle.commands.specs.command_line.CommandLine.{asked_of, options_asked, program}
use Rattle.commands.proofs.CommandLine.FaultLemmas.{refused-outside}
use Rattle.commands.proofs.command_line.options.Options.read.Goals as goal

simple : is_simple program ≡ true
unfolding clap_on_literals
simple = refl

free : is_simple_and_free program ≡ true
unfolding clap_on_literals
free = refl

pub returns-in-Ok-options_of-clause-read : goal.returns-in-Ok-options_of-clause-read
returns-in-Ok-options_of-clause-read g c =
    let words = map g.S.AsStr.text c.args.words.now in
    let program_is = c.in-Ok.ensures in
    let parse = c.in-Ok-try_get_matches_from.ensures.matches (ap is_simple program_is ∙ simple) in
    sym (ap asked_of (parse.1 ∙ ap (λ a. subcommand_of a words) program_is)) ∙ c.in-Ok-options_of.ensures.asked

pub returns-in-Ok-options_of-clause-faultless : goal.returns-in-Ok-options_of-clause-faultless
returns-in-Ok-options_of-clause-faultless g c =
    let words = map g.S.AsStr.text c.args.words.now in
    let program_is = c.in-Ok.ensures in
    sym (ap (λ a. fault_of a words) program_is) ∙ c.in-Ok-try_get_matches_from.ensures.kinds (ap is_simple_and_free program_is ∙ free)

pub returns-in-Ok-try_get_matches_from-clause-refused : goal.returns-in-Ok-try_get_matches_from-clause-refused
returns-in-Ok-try_get_matches_from-clause-refused g c =
    let words = map g.S.AsStr.text c.args.words.now in
    let program_is = c.in-Ok.ensures in
    let parse = c.in-Ok-try_get_matches_from.ensures.matches (ap is_simple program_is ∙ simple) in
    let faultless = sym (ap (λ a. fault_of a words) program_is) ∙ c.in-Ok-try_get_matches_from.ensures.kinds (ap is_simple_and_free program_is ∙ free) in
    let none = sym (ap asked_of (parse.1 ∙ ap (λ a. subcommand_of a words) program_is)) ∙ c.in-Err-options_of.ensures.none in
    refused-outside (fault_of program words) (options_asked words) c.outside.result faultless none c.outside.ensures
