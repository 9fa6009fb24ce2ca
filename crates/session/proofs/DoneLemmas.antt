-- A session's DONE and TABLE lines: true replies of its office make true lines.
use Rattle.session.proofs.Common.{◌≡◌, ℕ, ◌+◌, List, [], ◌∷◌, ◌++◌, length, Bool, true, false, Option, Some, None, refl, sym, ap, ◌∙◌, LineText, Whole, TooLong, ReserveOf, Standing, Pending, Done, Call, Hello, Get, OfficeReply, Welcome, Job, Told, Gone, AtFirst, LineCommand, line_command, Request, Fault, Makes, Tabulates, Ends, request, command_request, quota_request, Faulted, Closed, turns, turn_text, reply_text, table_text, calls_in, leaving, next_reply, later_replies, seated_after, calls_for, Asked, asked_at, with_call, asks_after, SaysTrue, ShowsFound, AllTrue, with_request, asks_of_lines, StandingHolds, ReplyHolds, TableHolds, TableReplyHolds, EachDoneIsTrue}
use Rattle.session.proofs.Served.{next_turns}

-- lines with their answers, the last first
abbrev Before : Type 0
Before = List (LineText × List ℕ)

-- nothing is asked where no tenant is there
abbrev EmptyWithout : Bool → List Asked → Type 0
EmptyWithout true asks = Unit {0}
EmptyWithout false asks = asks ≡ []

-- what a line asks for that makes a call
module _ (asks : List Asked) (call : Call) where
  hello-same : (quota : Option ReserveOf) → quota_request Hello quota ≡ Makes call → asks ≡ with_call asks call
  hello-same None h = cc h
  hello-same (Some quota) h = ap (with_request asks) h

  -- a call that is made without a tenant asks for no position, nor does its line where a tenant is there
  early-same : (command : Option LineCommand) → command_request false command ≡ Makes call → (asks ≡ with_call asks call) × (with_request asks (command_request true command) ≡ asks)
  early-same (Some (AtFirst quota)) h = (hello-same quota h, refl)
  early-same _ h = cc h

  asks-seated : (seated : Bool) (line : LineText) → request seated line ≡ Makes call → with_call asks call ≡ with_request asks (request true line)
  asks-seated true line h = ap (with_request asks) (sym h)
  asks-seated false TooLong h = cc h
  asks-seated false (Whole bytes) h = let same = early-same (line_command bytes) h in sym same.0 ∙ sym same.1

  still-empty : (seated : Bool) (line : LineText) → request seated line ≡ Makes call → EmptyWithout seated asks → EmptyWithout seated (with_call asks call)
  still-empty true line h empty = tt
  still-empty false TooLong h empty = cc h
  still-empty false (Whole bytes) h empty = sym (early-same (line_command bytes) h).0 ∙ empty

-- a table is asked for where a tenant is there, and its line asks for no position
module _ (job : ℕ) where
  no-early-hello : (quota : Option ReserveOf) → quota_request Hello quota ≡ Tabulates job → ⊥
  no-early-hello None h = cc h
  no-early-hello (Some quota) h = cc h

  no-early-table : (command : Option LineCommand) → command_request false command ≡ Tabulates job → ⊥
  no-early-table (Some (AtFirst quota)) h = no-early-hello quota h
  no-early-table _ h = cc h

  table-same : (seated : Bool) (line : LineText) (asks : List Asked) → request seated line ≡ Tabulates job → asks ≡ with_request asks (request true line)
  table-same true line asks h = ap (with_request asks) (sym h)
  table-same false TooLong asks h = refl
  table-same false (Whole bytes) asks h = absurd (no-early-table (line_command bytes) h)

-- the asks are those of the lines before, and there are none where no tenant is there
abbrev Known : Bool → Before → List Asked → Type 0
Known seated before asks = (asks ≡ asks_of_lines before) × EmptyWithout seated asks

-- where the asks are those of the lines before
module _ (before : Before) (asks : List Asked) (known : asks ≡ asks_of_lines before) where
  -- a standing that shows what was found holds, and so does its table
  standing-holds : (job : ℕ) (standing : Standing) → ShowsFound asks job standing → StandingHolds before job standing × TableHolds before job standing
  standing-holds job (Done analysis) h =
      let is = ap (λ a. asked_at a job) (sym known) ∙ h.is in
      (record { asked = h.asked; is = is; value = h.value; choice = h.choice }, record { asked = h.asked; is = is; table = h.table })
  standing-holds job _ h = (tt, tt)

  -- and a reply that says what is true, told without its table or with it
  reply-holds : (reply : OfficeReply) → SaysTrue asks reply → ReplyHolds before reply × TableReplyHolds before reply
  reply-holds (Job number) h = let next = h ∙ ap (λ a. length a + 1) known in (next, next)
  reply-holds (Told job standing) h = standing-holds job standing h
  reply-holds _ h = (tt, tt)

module _ (before : Before) (line : LineText) where
  -- how a job stands begins with none of the words that change the asks, told without its table or with it
  told-same : (job : ℕ) (standing : Standing) → (asks_of_lines ((line, reply_text (Told job standing)) ∷ before) ≡ asks_of_lines before)
      × (asks_of_lines ((line, table_text (Told job standing)) ∷ before) ≡ asks_of_lines before)
  told-same job Pending = (refl, refl)
  told-same job _ = (refl, refl)

  -- a reply, told so
  module _ (asks : List Asked) (call : Call) (seated : Bool) (same : with_call asks call ≡ with_request asks (request true line))
      (empty : EmptyWithout seated asks → EmptyWithout seated (with_call asks call)) (known : Known seated before asks) where
    next-known : (reply : OfficeReply) → Known (seated_after seated reply) ((line, reply_text reply) ∷ before) (asks_after asks call reply)
        × Known (seated_after seated reply) ((line, table_text reply) ∷ before) (asks_after asks call reply)
    next-known (Welcome quota) = ((refl, tt), (refl, tt))
    next-known (Job number) =
        let now = same ∙ ap (λ a. with_request a (request true line)) known.0 in
        let next : Known seated ((line, reply_text (Job number)) ∷ before) (with_call asks call) = (now, empty known.1) in
        (next, next)
    next-known (Told job standing) =
        let told = told-same job standing in
        ((known.0 ∙ sym told.0, known.1), (known.0 ∙ sym told.1, known.1))
    next-known Gone = ((refl, refl), (refl, refl))
    next-known _ = (known, known)

-- what holds of the lines after this one, whatever came before them
abbrev LaterHold : List LineText → Type 0
LaterHold lines =
    (before : Before) (asks : List Asked) (seated : Bool) (replies : List OfficeReply) → Known seated before asks →
    AllTrue asks (calls_in seated (turns seated lines replies)) → EachDoneIsTrue before lines (turns seated lines replies)

module _ (before : Before) (asks : List Asked) (line : LineText) (lines : List LineText) (replies : List OfficeReply) (later : LaterHold lines) where
  after-bye : (seated : Bool) → Known seated before asks → AllTrue asks (leaving seated ++ calls_in false (turns false lines replies)) →
      EachDoneIsTrue ((line, turn_text Closed) ∷ before) lines (turns false lines replies)
  after-bye true known h = later ((line, turn_text Closed) ∷ before) [] false replies (refl, refl) h.1
  after-bye false known h = later ((line, turn_text Closed) ∷ before) asks false replies (known.1, known.1) h

  module _ (seated : Bool) (known : Known seated before asks) where
    line-holds : (q : Request) → request seated line ≡ q → AllTrue asks (calls_in seated (next_turns q seated lines replies)) →
        EachDoneIsTrue before (line ∷ lines) (next_turns q seated lines replies)
    line-holds (Fault fault) e h = (tt, later ((line, turn_text (Faulted fault)) ∷ before) asks seated replies known h)
    line-holds (Makes call) e h =
        let reply = next_reply replies in
        let next = next-known before line asks call seated (asks-seated asks call seated line e) (still-empty asks call seated line e) known reply in
        let rest = later ((line, reply_text reply) ∷ before) (asks_after asks call reply) (seated_after seated reply) (later_replies replies) next.0 h.1 in
        ((reply-holds before asks known.0 reply h.0).0, rest)
    line-holds (Tabulates job) e h =
        let reply = next_reply replies in
        let next = next-known before line asks (Get job) seated (table-same job seated line asks e) (λ empty. empty) known reply in
        let rest = later ((line, table_text reply) ∷ before) (asks_after asks (Get job) reply) (seated_after seated reply) (later_replies replies) next.1 h.1 in
        ((reply-holds before asks known.0 reply h.0).1, rest)
    line-holds Ends e h = (tt, after-bye seated known h)

lines-hold : (lines : List LineText) → LaterHold lines
lines-hold [] before asks seated replies known h = tt
lines-hold (line ∷ lines) before asks seated replies known h =
    line-holds before asks line lines replies (lines-hold lines) seated known (request seated line) refl h

-- where all calls of a session's lines from no ask on are true, each JOB line and each DONE line is
pub each-done : (lines : List LineText) (replies : List OfficeReply) → AllTrue [] (calls_for lines replies) → EachDoneIsTrue [] lines (turns false lines replies)
each-done lines replies h = lines-hold lines [] [] false replies (refl, refl) h
