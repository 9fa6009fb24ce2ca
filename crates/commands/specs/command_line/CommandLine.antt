-- Meaning: what the words of `othello`'s command line ask for.
use Rattle.std.specs.Prelude.{◌≤◌, ℕ, Bool, true, false, ◌||◌, List, Option, Some, None, codes, if◌then◌else◌, is_some}
use Rattle.std.specs.Str.{bytes_eq}
use Rattle.std.specs.Option.{option_map_or}
use Rattle.clap.specs.Words.{App, Row, Rule, Shape, Text, first_of, new_app, new_rule, subcommand_of, with_rule, with_subcommand}
use Rattle.clap.specs.declared.builder.ArgAction.TheVariants.{SetTrue}
use Rattle.commands.specs.declared.command_line.options.Options.{Options}
use Rattle.commands.specs.declared.command_line.options.Options.TheVariants.{Serve, Solve, SolveOrdered}
use Rattle.commands.specs.command_line.Settings.{NumberOption, number_rule, value_asked}

-- the option `--grain`: 0 to 6, 2 where it isn't given
abbrev pub grain_option : NumberOption
grain_option = record { name = codes "grain"; least = 0; most = 6; default = Some 2 }

-- the option `--sessions`: 1 to 1000, and it has to be given
abbrev pub sessions_option : NumberOption
sessions_option = record { name = codes "sessions"; least = 1; most = 1000; default = None }

-- the option `--port`: 0 to 65535, 0 where it isn't given
abbrev pub port_option : NumberOption
port_option = record { name = codes "port"; least = 0; most = 65535; default = Some 0 }

-- the option `--workers`: 1 to 32, 4 where it isn't given
abbrev pub workers_option : NumberOption
workers_option = record { name = codes "workers"; least = 1; most = 32; default = Some 4 }

-- the option `--segments`: 1 to 65536, 4096 where it isn't given
abbrev pub segments_option : NumberOption
segments_option = record { name = codes "segments"; least = 1; most = 65536; default = Some 4096 }

-- the option `--nodes`: 1 to 4194304, 65536 where it isn't given
abbrev pub nodes_option : NumberOption
nodes_option = record { name = codes "nodes"; least = 1; most = 4194304; default = Some 65536 }

-- the flag of this name, which has no value
abbrev pub flag_rule : Text → Rule
flag_rule name = record (new_rule name) { long = Some name; action = Some SetTrue }

-- the command `solve [--grain g] [--visited] [--ordered]`
abbrev pub solve_shape : Shape
solve_shape = (with_rule (with_rule (with_rule (new_app (codes "solve")) (number_rule (codes "grain") false)) (flag_rule (codes "visited"))) (flag_rule (codes "ordered"))).top

-- a command with one more option, which has a number and needn't be given
abbrev pub with_number : App → Text → App
with_number app name = with_rule app (number_rule name false)

-- the command `serve` with the options of its sessions alone: `serve --sessions k [--port p] [--workers w]`
abbrev pub serve_of_sessions : App
serve_of_sessions = with_number (with_number (with_rule (new_app (codes "serve")) (number_rule (codes "sessions") true)) (codes "port")) (codes "workers")

-- the command `serve --sessions k [--port p] [--workers w] [--segments s] [--nodes n] [--grain g]`
abbrev pub serve_shape : Shape
serve_shape = (with_number (with_number (with_number serve_of_sessions (codes "segments")) (codes "nodes")) (codes "grain")).top

-- the program `othello` without its commands: it has a version, and the words have to name a command
abbrev pub bare_program : App
bare_program = record (new_app (codes "othello")) {
  top = record (new_app (codes "othello")).top { has_version = true; subcommand_required = true };
}

-- the program with the command `solve`, and `serve` not yet
abbrev pub solve_program : App
solve_program = with_subcommand bare_program solve_shape

-- the program `othello` with its commands solve and serve
abbrev pub program : App
program = with_subcommand solve_program serve_shape

-- whether the words set a flag: then its value is `true`
abbrev pub is_set : Text → List Row → Bool
is_set flag rows = option_map_or (λ value. bytes_eq value (codes "true")) (first_of flag rows) false

-- the options of `solve` without `--ordered`; None where the grain has no value
abbrev pub solve_with : Option ℕ → Bool → Option Options
solve_with None visited = None
solve_with (Some grain) visited = Some (Solve grain visited)

-- the options of `serve`; None where one of them has no value
abbrev pub serve_with : Option ℕ → Option ℕ → Option ℕ → Option ℕ → Option ℕ → Option ℕ → Option Options
serve_with None p w s n g = None
serve_with (Some k) None w s n g = None
serve_with (Some k) (Some p) None s n g = None
serve_with (Some k) (Some p) (Some w) None n g = None
serve_with (Some k) (Some p) (Some w) (Some s) None g = None
serve_with (Some k) (Some p) (Some w) (Some s) (Some n) None = None
serve_with (Some k) (Some p) (Some w) (Some s) (Some n) (Some g) = Some (Serve k p w s n g)

-- whether the words of `solve` give the option `--grain` or the flag `--visited`, beside which `--ordered` may not
-- stand
abbrev pub has_another : List Row → Bool
has_another rows = is_some (first_of (codes "grain") rows) || is_set (codes "visited") rows

-- what the words given to `solve` ask for; None where an option has no value within its limits, and where `--ordered`
-- doesn't stand alone
abbrev pub solve_asked : List Row → Option Options
solve_asked rows = if is_set (codes "ordered") rows then (if has_another rows then None else Some SolveOrdered)
    else solve_with (value_asked grain_option rows) (is_set (codes "visited") rows)

-- what the words given to `serve` ask for; None where an option has no value within its limits
abbrev pub serve_asked : List Row → Option Options
serve_asked rows = serve_with (value_asked sessions_option rows) (value_asked port_option rows) (value_asked workers_option rows) (value_asked segments_option rows) (value_asked nodes_option rows) (value_asked grain_option rows)

-- what a command with this name and the words given to it asks for; None for another name, a value outside its
-- limits, or `--ordered` beside another option
abbrev pub command_asked : Text × List Row → Option Options
command_asked named = if bytes_eq named.0 (codes "solve") then solve_asked named.1 else (if bytes_eq named.0 (codes "serve") then serve_asked named.1 else None)

-- what the command that the words name asks for; None where they name none
abbrev pub asked_of : Option (Text × List Row) → Option Options
asked_of None = None
asked_of (Some named) = command_asked named

-- what the words ask for, the program's name first; None where an option has no value within its limits, and where
-- `--ordered` doesn't stand alone.
-- `subcommand_of` is clap's own definition of which command and which values the words give
abbrev pub options_asked : List Text → Option Options
options_asked words = asked_of (subcommand_of program words)

-- each of these options is within its limits
abbrev pub AreWithinLimits : Options → Type 0
AreWithinLimits (Solve grain visited) = grain ≤ 6
AreWithinLimits SolveOrdered = Unit {0}
AreWithinLimits (Serve sessions port workers segments nodes grain) = (1 ≤ sessions) × (sessions ≤ 1000) × (port ≤ 65535) × (1 ≤ workers) × (workers ≤ 32)
    × (1 ≤ segments) × (segments ≤ 65536) × (1 ≤ nodes) × (nodes ≤ 4194304) × (grain ≤ 6)
