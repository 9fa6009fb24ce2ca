-- Meaning: what the program `othello` does for the words of its command line.
use Rattle.std.specs.Prelude.{◌≡◌, ◌≤◌, ℕ, List, ◌∷◌, [], ◌++◌, Option, Some, None, Result, Ok, codes, decimal}
use Rattle.std.specs.Net.Text.{socket_text}
use Rattle.std.specs.declared.net.SocketAddr.{SocketAddr}
use Rattle.clap.specs.Words.{Text}
use Rattle.line_io.specs.Streams.{ReadAnswer, WriteAnswer}
use Rattle.line_io.specs.Writes.{IsWritten}
use Rattle.hall.specs.Halls.{HallOf, empty_hall}
use Rattle.tcp_server.specs.Connections.{PassedOf, IsLeftBy}
use Rattle.commands.specs.declared.command_line.options.Options.{Options}
use Rattle.commands.specs.declared.command_line.options.Options.TheVariants.{Serve, Solve, SolveOrdered}
use Rattle.commands.specs.declared.command_line.faults.WordsFault.{WordsFault}
use Rattle.commands.specs.Answering.{IsSolvedAsAsked}
use Rattle.commands.specs.declared.service.Service.{Service}

-- what a server runs with: each amount as the options say it; None exactly where they ask for no server
abbrev pub IsServiceOf : Options → Option Service → Type 0
IsServiceOf (Solve grain visited) None = Unit {0}
IsServiceOf (Solve grain visited) (Some asked) = ⊥
IsServiceOf SolveOrdered None = Unit {0}
IsServiceOf SolveOrdered (Some asked) = ⊥
IsServiceOf (Serve sessions port workers segments nodes grain) None = ⊥
IsServiceOf (Serve sessions port workers segments nodes grain) (Some asked) =
    (asked.sessions ≡ sessions) × (asked.port ≡ port) × (asked.workers ≡ workers) × (asked.config.segments ≡ segments) × (asked.config.nodes ≡ nodes) × (asked.grain ≡ grain)

-- what the output is told when a server listens: `listening`, its address, and an LF (10)
abbrev pub listening_text : SocketAddr → Text
listening_text address = codes "listening " ++ (socket_text address ++ 10 ∷ [])

-- what the output is told when a server's sessions have ended: `ended`, how many there were, and an LF (10)
abbrev pub ended_text : ℕ → Text
ended_text sessions = codes "ended " ++ (decimal sessions ++ 10 ∷ [])

-- the output was told that a server listens at some address, then that so many sessions have ended, and nothing else
abbrev pub IsServed : {K : Type 0} → (K → WriteAnswer → K → Type 0) → K → ℕ → K → Type 0
IsServed {K} takes sink sessions sink' =
    (address : SocketAddr) × (between : K) × IsWritten takes sink (listening_text address) between (Ok tt) × IsWritten takes between (ended_text sessions) sink' (Ok tt)

-- an audit was given the hall that a desk left which was made with this hall, the share with all parts of the desk's ledger, and what
-- passed on connections: sessions whose parts are in the one history by which that hall has come
abbrev pub IsAudited : {A : Type 0} → (A → HallOf → HallOf → List PassedOf → A → Type 0) → A → HallOf → A → Type 0
IsAudited given audit begun audit' = (hall : HallOf) × (sessions : List PassedOf) × IsLeftBy begun hall sessions × given audit begun hall sessions audit'

module _ {S K A : Type 0} (gives : S → ReadAnswer → S → Type 0) (takes : K → WriteAnswer → K → Type 0) (given : A → HallOf → HallOf → List PassedOf → A → Type 0) (source : S) (sink : K) (audit : A) (source' : S) (sink' : K) (audit' : A) where
  -- what is done for the words, and the exit status, 0 or 1 for a server: it reads nothing of the input, and where its
  -- status is 0 the output was told when it listened and when its sessions had ended, and the audit was given what is left by a desk
  -- that was made with the empty hall of the options, and sessions in its history. All other words are followed as those that ask for no server
  abbrev pub IsFollowed : Result Options WordsFault → ℕ → Type 0
  IsFollowed (Ok (Serve sessions port workers segments nodes grain)) status =
      (source' ≡ source) × (status ≤ 1)
      × (status ≡ 0 → IsServed takes sink sessions sink' × IsAudited given audit (empty_hall grain (record { segments = segments; nodes = nodes })) audit')
  IsFollowed asked status = IsSolvedAsAsked gives takes source sink source' sink' asked status
