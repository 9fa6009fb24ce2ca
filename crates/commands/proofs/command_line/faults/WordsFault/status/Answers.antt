-- The command line of `othello` (`WordsFault::status`): words that are refused for want of memory have exit status 1.
use Rattle.std.proofs.Common.{rules}
use Rattle.commands.proofs.command_line.faults.WordsFault.status.Goals as goal

pub returns-in-Refused : goal.returns-in-Refused
returns-in-Refused c = search rules
