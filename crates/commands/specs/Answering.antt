-- Meaning: what the program `othello` does for a command line whose command is solve, and its exit status.
use Rattle.std.specs.Prelude.{◌≡◌, ℕ, List, Bool, true, false, [], Option, Some, Result, Ok, Err}
use Rattle.line_io.specs.Leads.{between}
use Rattle.clap.specs.Words.{Text, fault_of}
use Rattle.clap.specs.declared.error.kind.ErrorKind.{ErrorKind}
use Rattle.line_io.specs.declared.faults.LineFault.{LineFault}
use Rattle.line_io.specs.Streams.{ReadAnswer, WriteAnswer}
use Rattle.solve_engine.specs.Solving.{OrderedRun, SolvedRun, VisitedRun}
use Rattle.commands.specs.declared.command_line.options.Options.{Options}
use Rattle.commands.specs.declared.command_line.options.Options.TheVariants.{Serve, Solve, SolveOrdered}
use Rattle.commands.specs.declared.command_line.faults.WordsFault.{WordsFault}
use Rattle.commands.specs.command_line.CommandLine.{options_asked, program}
use Rattle.commands.specs.command_line.Faults.{IsRefusalOf, exit_status}

-- what the words of a command line are read as: what they ask for, where they have no fault; else a refusal, for a
-- fault that they have or for want of memory
abbrev pub IsReadBy : List ErrorKind → Option Options → Result Options WordsFault → Type 0
IsReadBy found asked (Ok options) = (asked ≡ Some options) × (found ≡ [])
IsReadBy found asked (Err fault) = IsRefusalOf found asked fault

-- what the words of a command line are read as by the program
abbrev pub IsReadOf : List Text → Result Options WordsFault → Type 0
IsReadOf words read = IsReadBy (fault_of program words) (options_asked words) read

-- the exit status of a run: 0 where the input has ended, 1 where it or the output failed
abbrev pub status_of_run : Result (Unit {0}) LineFault → ℕ
status_of_run (Ok _) = 0
status_of_run (Err _) = 1

module _ {S K : Type 0} (gives : S → ReadAnswer → S → Type 0) (takes : K → WriteAnswer → K → Type 0) (source : S) (sink : K) (source' : S) (sink' : K) where
  -- the lines of the input are answered, at true with numbers of positions, at false without; the grain has no
  -- part in it
  abbrev pub IsAnsweredRun : Bool → Result (Unit {0}) LineFault → Type 0
  IsAnsweredRun false r = SolvedRun (between gives source source') (between takes sink sink') r
  IsAnsweredRun true r = VisitedRun (between gives source source') (between takes sink sink') r

  -- what is done for words that ask for no server, and the exit status: `solve` answers the input's lines, and nothing is
  -- read where the words are refused (the fault's status)
  abbrev pub IsSolvedAsAsked : Result Options WordsFault → ℕ → Type 0
  IsSolvedAsAsked (Ok (Solve grain visited)) status = (r : Result (Unit {0}) LineFault) × IsAnsweredRun visited r × (status ≡ status_of_run r)
  IsSolvedAsAsked (Ok SolveOrdered) status = (r : Result (Unit {0}) LineFault) × OrderedRun (between gives source source') (between takes sink sink') r × (status ≡ status_of_run r)
  IsSolvedAsAsked (Ok (Serve sessions port workers segments nodes grain)) status = ⊥
  IsSolvedAsAsked (Err fault) status = (source' ≡ source) × (status ≡ exit_status fault)
