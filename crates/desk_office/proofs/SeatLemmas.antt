-- What a desk's seat shows of its jobs, as a session has it.
use Rattle.desk_office.proofs.Common.{◌≡◌, ℕ, ◌-◌, ◌<◌, List, [], ◌∷◌, map, Option, Some, None, refl, sym, subst, ap, ap₂, ◌∙◌, Result, Ok, Err, arith, ◌⊎◌, Contains, IfErr, MatchResult, get_or-map, length-map, cells, cells_of, minimax, best_choice, Reply, IsTable, board_of, depth_of, table_of, Outcome, Done, Refusal, NoJob, refusal_number, ReserveOf, Call, Get, Wait, Cancel, Reserve, Reserved, Ended, Told as ToldOf, reply_of, Asked, asked_at, asks_after, IsAnalysisOf, IsOfficeReplyTo, IsJobReply, KeepsAsks, SaysTrue, ShowsFound, Standing, SeatAsked, SeatOf, reserve_refusals, seeing, stepped, cancel_refusals, IsShown, seat_asked_at, ask_of, analysis_of, standing_of, told_answer}
use Rattle.std.specs.Option.{option_map}

-- what was asked under a number
pub asked_at-map : (asks : List SeatAsked) (job : ℕ) → asked_at (map ask_of asks) job ≡ option_map ask_of (seat_asked_at asks job)
asked_at-map [] job = refl
asked_at-map (a ∷ more) job = grind (arith, asked_at-map more (job - 1))

found : (asks : List SeatAsked) (job : ℕ) (reply : Reply) (o : Option SeatAsked) → seat_asked_at asks job ≡ o → IsShown o (Ok (Done reply)) → IsAnalysisOf (map ask_of asks) job (analysis_of reply)
found asks job reply None e h = absurd (cc h)
found asks job reply (Some a) e h =
    let board : cells (board_of reply) ≡ cells a.board = ap₂ cells_of h.0 h.1 in
    record {
      asked = ask_of a;
      is = asked_at-map asks job ∙ ap (option_map ask_of) e;
      value = ap₂ minimax h.2 board;
      choice = ap₂ best_choice h.2 board;
      table = subst (λ depth. IsTable depth (cells a.board) (table_of reply)) h.2 (subst (λ b. IsTable (depth_of reply) b (table_of reply)) board reply.table);
    }

-- a job that is shown is shown with what was found for it
shown-found : (asks : List SeatAsked) (job : ℕ) (outcome : Outcome) → IsShown (seat_asked_at asks job) (Ok outcome) → ShowsFound (map ask_of asks) job (standing_of outcome)
shown-found asks job outcome h = grind (arith, found)

-- how a job stands is told where something was asked under its number, and else refused
pub told-of : (job : ℕ) (o : Option SeatAsked) (answer : Result Outcome Refusal) → IsShown o answer → IsJobReply job (option_map ask_of o) (reply_of (ToldOf job) (told_answer answer))
told-of job o answer h = grind arith

-- what a seat's list makes of an answer
pub says : (asks : List SeatAsked) (job : ℕ) (answer : Result Outcome Refusal) → IsShown (seat_asked_at asks job) answer → SaysTrue (map ask_of asks) (reply_of (ToldOf job) (told_answer answer))
says asks job answer h = grind (arith, shown-found)

-- an answer about a job changes no ask
pub same-asks : (asks : List Asked) (call : Call) (job : ℕ) (said : Result Standing Refusal) → asks ≡ asks_after asks call (reply_of (ToldOf job) said)
same-asks asks call job said = grind arith

-- and it answers a call that named that job
pub told-to : (call : Call) (job : ℕ) (said : Result Standing Refusal) → (call ≡ Get job) ⊎ (call ≡ Wait job) → IsOfficeReplyTo call (reply_of (ToldOf job) said)
told-to call job said named = grind arith

-- what a seat tells of a job, once it has looked
pub job-kept : (call : Call) (before seat : SeatOf) (job : ℕ) (answer : Result Outcome Refusal) → seat ≡ seeing seat.known before → IsShown (seat_asked_at seat.asked job) answer → (call ≡ Get job) ⊎ (call ≡ Wait job) →
    (map ask_of seat.asked ≡ asks_after (map ask_of before.asked) call (reply_of (ToldOf job) (told_answer answer))) × SaysTrue (map ask_of before.asked) (reply_of (ToldOf job) (told_answer answer))
    × IsJobReply job (asked_at (map ask_of before.asked) job) (reply_of (ToldOf job) (told_answer answer)) × IsOfficeReplyTo call (reply_of (ToldOf job) (told_answer answer))
job-kept call before seat job answer kept shown named = grind (arith, asked_at-map, told-of, same-asks, says, told-to)

-- the numbers of refusals
pub refused-by : (refusals : List Refusal) (refusal : Refusal) → Contains refusals refusal → Contains (map refusal_number refusals) (refusal_number refusal)
refused-by refusals refusal h = (h.0, subst (λ n. h.0 < n) (sym (length-map refusals refusal_number)) h.1, get_or-map refusal_number refusals h.0 refusal ∙ ap refusal_number h.2)

-- nothing is asked under a number where the seat has nothing
pub unasked : (o : Option SeatAsked) → option_map ask_of o ≡ None → o ≡ None
unasked o h = grind arith

-- a seat cancels a job
pub cancels : (before after : SeatOf) (job : ℕ) (answer : Result (Unit {0}) Refusal) → MatchResult answer (λ _. after ≡ stepped after.known before) (λ _. after ≡ seeing after.known before) → (seat_asked_at before.asked job ≡ None → (answer ≡ Err NoJob) × (after ≡ before)) → IfErr answer (Contains cancel_refusals)
    → KeepsAsks (map ask_of before.asked) (Cancel job) (reply_of (λ _. Ended job) answer) (map ask_of after.asked)
cancels before after job (Ok done) share none refused = grind (arith, unasked, asked_at-map)
cancels before after job (Err refusal) share none refused = grind (arith, refused-by, unasked, asked_at-map)

-- a seat reserves more
pub reserves : (before after : SeatOf) (quota : ReserveOf) (answer : Result (Unit {0}) Refusal) → MatchResult answer (λ _. after ≡ stepped after.known before) (λ _. after ≡ seeing after.known before) → IfErr answer (Contains reserve_refusals)
    → KeepsAsks (map ask_of before.asked) (Reserve quota) (reply_of (λ _. Reserved quota) answer) (map ask_of after.asked)
reserves before after quota (Ok done) share refused = (ap (λ s. map ask_of s.asked) share, tt, tt, refl)
reserves before after quota (Err refusal) share refused = (ap (λ s. map ask_of s.asked) share, tt, refused-by reserve_refusals refusal refused, tt)
