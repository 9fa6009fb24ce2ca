-- The command line of `othello` (`options::solve_of`): the options of `solve` are those that its words give.
use Rattle.std.proofs.Common.{rules}
use Rattle.commands.proofs.command_line.options.solve_of.Goals as goal

pub returns-clause-asked : goal.returns-clause-asked
returns-clause-asked c = search rules
