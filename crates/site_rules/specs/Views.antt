-- Representation: the types of the code of a site's rules as data.
use Rattle.std.specs.Option.{option_copied}
use Rattle.site_rules.specs.declared.callers.Caller.{Caller}
use Rattle.site_rules.specs.declared.callers.Caller.TheVariants.{From, Unfinished, Foreign}
use Rattle.site_rules.specs.Callers.{CallerOf, Comes, Waiting, Closed}
use Rattle.site_rules.specs.declared.commands.Command.{Command}
use Rattle.site_rules.specs.declared.commands.Command.TheVariants.{Stats as stats, End as end, Drain as drain, Reload as reload, Unknown as unknown}
use Rattle.site_rules.specs.declared.commands.Whose.{Whose}
use Rattle.site_rules.specs.declared.commands.Whose.TheVariants.{Customer as of_customer, Address as of_address, Session as of_session}
use Rattle.site_rules.specs.Commands.{WhoseOf, Customer, Address, Session, CommandOf, Stats, End, Drain, Reload, Unknown}

-- a caller of the code as the contracts see it
abbrev pub caller_seen : Caller → CallerOf
caller_seen (From address certificate used) = Comes address (option_copied certificate) used
caller_seen Unfinished = Waiting
caller_seen Foreign = Closed

-- whose sessions the code means, as the contracts see it
abbrev pub whose_seen : Whose → WhoseOf
whose_seen (of_customer name) = Customer name.now
whose_seen (of_address text) = Address text.now
whose_seen (of_session hall number) = Session hall number

-- a command of the site's operator as data
abbrev pub command_seen : Command → CommandOf
command_seen stats = Stats
command_seen (end whose) = End (whose_seen whose)
command_seen (drain milliseconds) = Drain milliseconds
command_seen (reload ends) = Reload ends
command_seen unknown = Unknown
