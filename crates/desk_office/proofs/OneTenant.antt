-- A session at a desk has one tenant at most.
use Rattle.desk_office.proofs.Common.{◌≡◌, ℕ, List, [], ◌∷◌, ◌++◌, Bool, true, false, Option, Some, None, Result, refl, sym, ap, subst, ◌∙◌, inl, inr, codes, arith, ◌⊎◌, option_map, bytes_eq, Leads, LineText, Whole, TooLong, upto, ReserveOf, StepOf, tenant_in, Known, LeafAnswer, HallOf, SeatOf, IsSeated, End, SessionFault, KeepsAsks, IsOfficeReplyTo, Call, Hello, Leave, OfficeReply, Welcome, Gone, Refused, LineCommand, OnceSeated, AtAnyTime, command_alone, command_with_one, command_with_two, line_command, line_command_by, line_command_after, command_request, is_bye, Request, Fault, Makes, Tabulates, Ends, request, quota_request, ask_request, job_request, Called, IsAnsweredOf, session_lines, turns, calls_in, next_reply, later_replies, seated_after, next_turns, asks_of, AllStay, IsOneTenancy, IsTenantOf, NobodyCame, is_stay, is_welcome, OfficeOf, IsHello, IsTurnAt, IsTurnOf}
use Rattle.std.specs.Prelude.{◌==◌, if◌then◌else◌}
use Rattle.desk_office.proofs.Tenancies.{tenancy}

-- ---- what a line asks for

-- neither the end of the session nor a call by which the tenant leaves
abbrev Goes : Request → Type 0
Goes (Makes call) = is_stay call ≡ true
Goes Ends = ⊥
Goes _ = Unit {0}

quota-goes : (call : ReserveOf → Call) → ((quota : ReserveOf) → is_stay (call quota) ≡ true) → (quota : Option ReserveOf) → Goes (quota_request call quota)
quota-goes call stays quota = grind arith

ask-goes : (asked : _) → Goes (ask_request asked)
ask-goes asked = grind arith

job-goes : (asked : ℕ → Request) → ((job : ℕ) → Goes (asked job)) → (job : Option ℕ) → Goes (job_request asked job)
job-goes asked goes job = grind arith

-- how a line splits at its first space, as `protocol` says it, which has no name here
abbrev split : List ℕ → Option (List ℕ × List ℕ)
split [] = None
split (b ∷ bs) = if b == 32 then Some ([], bs) else option_map (λ p. (b ∷ p.0, p.1)) (split bs)

-- what a command asks for once a tenant is there, unless it is BYE, goes
abbrev CommandGoes : Option LineCommand → Type 0
CommandGoes (Some (OnceSeated asked)) = Goes asked
CommandGoes _ = Unit {0}

alone-goes : (word : List ℕ) → CommandGoes (command_alone word)
alone-goes word = grind arith

one-goes : (word argument : List ℕ) → CommandGoes (command_with_one word argument)
one-goes word argument = grind (arith, job-goes)

two-goes : (word first second : List ℕ) → CommandGoes (command_with_two word first second)
two-goes word first second = grind (arith, quota-goes, ask-goes)

after-goes : (word rest : List ℕ) (words : Option (List ℕ × List ℕ)) → CommandGoes (line_command_after word rest words)
after-goes word rest None = one-goes word rest
after-goes word rest (Some words) = two-goes word words.0 words.1

by-goes : (bytes : List ℕ) (words : Option (List ℕ × List ℕ)) → CommandGoes (line_command_by bytes words)
by-goes bytes None = alone-goes bytes
by-goes bytes (Some words) = after-goes words.0 words.1 (split words.1)

line-goes : (bytes : List ℕ) → CommandGoes (line_command bytes)
line-goes bytes = by-goes bytes (split bytes)

command-ends : (command : Option LineCommand) → CommandGoes command → command_request true command ≡ Ends → command ≡ Some AtAnyTime
command-ends command goes e = grind arith

command-stays : (command : Option LineCommand) (call : Call) → CommandGoes command → command_request true command ≡ Makes call → is_stay call ≡ true
command-stays command call goes e = grind arith

pub seated-stays : (line : LineText) (call : Call) → request true line ≡ Makes call → is_stay call ≡ true
seated-stays TooLong call e = absurd (cc e)
seated-stays (Whole bytes) call e = command-stays (line_command bytes) call (line-goes bytes) e

-- only the line BYE is read as the end
alone-bye : (word : List ℕ) → command_alone word ≡ Some AtAnyTime → bytes_eq word (codes "BYE") ≡ true
alone-bye word e = grind arith

no-one : (word argument : List ℕ) → command_with_one word argument ≡ Some AtAnyTime → ⊥
no-one word argument e = grind arith

no-two : (word first second : List ℕ) → command_with_two word first second ≡ Some AtAnyTime → ⊥
no-two word first second e = grind arith

after-bye : (word rest : List ℕ) (words : Option (List ℕ × List ℕ)) → line_command_after word rest words ≡ Some AtAnyTime → ⊥
after-bye word rest None e = no-one word rest e
after-bye word rest (Some words) e = no-two word words.0 words.1 e

by-bye : (bytes : List ℕ) (words : Option (List ℕ × List ℕ)) → line_command_by bytes words ≡ Some AtAnyTime → bytes_eq bytes (codes "BYE") ≡ true
by-bye bytes None e = alone-bye bytes e
by-bye bytes (Some words) e = absurd (after-bye words.0 words.1 (split words.1) e)

pub ends-is_bye : (line : LineText) → request true line ≡ Ends → is_bye line ≡ true
ends-is_bye TooLong e = absurd (cc e)
ends-is_bye (Whole bytes) e = by-bye bytes (split bytes) (command-ends (line_command bytes) (line-goes bytes) e)

-- before a tenant is there, the only call is HELLO
abbrev IsEarly : Request → Type 0
IsEarly (Fault fault) = Unit {0}
IsEarly (Makes (Hello quota)) = Unit {0}
IsEarly (Makes _) = ⊥
IsEarly (Tabulates job) = ⊥
IsEarly Ends = Unit {0}

quota-early : (quota : Option ReserveOf) → IsEarly (quota_request Hello quota)
quota-early quota = grind arith

command-early : (command : Option LineCommand) → IsEarly (command_request false command)
command-early command = grind (arith, quota-early)

early : (line : LineText) → IsEarly (request false line)
early line = grind (arith, command-early)

-- ---- only the last line may be BYE

abbrev pub EndsAtBye : List LineText → Type 0
EndsAtBye [] = Unit {0}
EndsAtBye (line ∷ lines) = (is_bye line ≡ true → lines ≡ []) × EndsAtBye lines

upto-ends : (lines : List LineText) → EndsAtBye (upto is_bye lines)
upto-ends [] = tt
upto-ends (line ∷ lines) = grind (arith, upto-ends lines)

none-before : (xs rest : List LineText) → xs ++ rest ≡ [] → xs ≡ []
none-before [] rest is = refl
none-before (x ∷ xs) rest is = absurd (cc is)

prefix-ends : (xs rest : List LineText) → EndsAtBye (xs ++ rest) → EndsAtBye xs
prefix-ends [] rest ends = tt
prefix-ends (x ∷ xs) rest ends = (λ bye. none-before xs rest (ends.0 bye), prefix-ends xs rest ends.1)

pub answered-ends : (r : Result End SessionFault) (answered : List LineText) (bytes : List ℕ) → IsAnsweredOf r answered (session_lines bytes) → EndsAtBye answered
answered-ends r answered bytes is = grind (arith, upto-ends, prefix-ends)

-- ---- the calls of a session

module _ (begun : HallOf) where
  abbrev Led : OfficeOf → List (Call × OfficeReply) → OfficeOf → Type 0
  Led from calls to = Leads (Called (IsTurnAt begun)) from calls to

  pub stays-seated : (call : Call) (reply : OfficeReply) → is_stay call ≡ true → IsOfficeReplyTo call reply → seated_after true reply ≡ true
  stays-seated call reply stays to = grind arith

  -- these calls are made for a tenant that is there, and it leaves by the last
  abbrev AreSeated : List (Call × OfficeReply) → Type 0
  AreSeated calls = (later : List (Call × OfficeReply)) × AllStay later × (calls ≡ later ++ (Leave, Gone) ∷ [])

  one-more : (call : Call) (reply : OfficeReply) (seated : Bool) (lines : List LineText) (replies : List OfficeReply) → is_stay call ≡ true → seated ≡ true → AreSeated (calls_in true (turns true lines replies)) → AreSeated ((call, reply) ∷ calls_in seated (turns seated lines replies))
  one-more call reply seated lines replies stays is rest =
      ((call, reply) ∷ rest.0, (stays, rest.1), ap (λ (b : Bool). (call, reply) ∷ calls_in b (turns b lines replies)) is ∙ ap (λ (l : List (Call × OfficeReply)). (call, reply) ∷ l) rest.2)

  -- a line, where the same holds of those after it
  turn-seated : (line : LineText) (lines : List LineText) (replies : List OfficeReply) (from to : OfficeOf) → EndsAtBye (line ∷ lines) →
      ((rs : List OfficeReply) (next : OfficeOf) → Led next (calls_in true (turns true lines rs)) to → AreSeated (calls_in true (turns true lines rs))) →
      (q : Request) → request true line ≡ q → Led from (calls_in true (next_turns q true lines replies)) to → AreSeated (calls_in true (next_turns q true lines replies))
  turn-seated line lines replies from to last again (Fault fault) is h = again replies from h
  turn-seated line lines replies from to last again (Makes call) is h =
      let reply = next_reply replies in
      let later = later_replies replies in
      let keeps : KeepsAsks (asks_of from.seat) call reply (asks_of h.0.seat) = h.1.1 in
      let stays = seated-stays line call is in
      let seated = stays-seated call reply stays keeps.3 in
      let P : Bool → Type 0 = λ b. Led h.0 (calls_in b (turns b lines later)) to in
      one-more call reply (seated_after true reply) lines later stays seated (again later h.0 (subst P seated h.2))
  turn-seated line lines replies from to last again (Tabulates job) is h = grind (arith, stays-seated, one-more)
  turn-seated line lines replies from to last again Ends is h = ([], tt, ap (λ (ls : List LineText). (Leave, Gone) ∷ calls_in false (turns false ls replies)) (last.0 (ends-is_bye line is)))

  -- lines read while one is there: it leaves by the last of their calls
  while-seated : (lines : List LineText) (replies : List OfficeReply) (from to : OfficeOf) → EndsAtBye lines → Led from (calls_in true (turns true lines replies)) to → AreSeated (calls_in true (turns true lines replies))
  while-seated [] replies from to last h = ([], tt, refl)
  while-seated (line ∷ lines) replies from to last h = turn-seated line lines replies from to last (λ rs next more. while-seated lines rs next to last.1 more) (request true line) refl h

  -- the tenant that comes by these calls, if one does
  abbrev Comes : OfficeOf → List (Call × OfficeReply) → OfficeOf → Type 0
  Comes from calls to = (NobodyCame calls × (to.knew ≡ from.knew)) ⊎ ((known : Known (StepOf LeafAnswer)) × (to.knew ≡ Some known) × IsOneTenancy begun calls known)

  -- a HELLO that was refused
  one-refused : (quota : ReserveOf) (reply : OfficeReply) (number : ℕ) (from next to : OfficeOf) (calls : List (Call × OfficeReply)) → reply ≡ Refused number → next ≡ from → Comes next calls to → Comes from ((Hello quota, reply) ∷ calls) to
  one-refused quota reply number from next to calls said same (inl none) = inl ((ap (λ (r : OfficeReply). is_welcome r) said, none.0), none.1 ∙ ap (λ (o : OfficeOf). o.knew) same)
  one-refused quota reply number from next to calls said same (inr came) =
      let t = came.2 in
      inr (
        came.0,
        came.1,
        record {
          early = (Hello quota, reply) ∷ t.early;
          quota = t.quota;
          later = t.later;
          are = ap (λ (l : List (Call × OfficeReply)). (Hello quota, reply) ∷ l) t.are;
          nobody = (ap (λ (r : OfficeReply). is_welcome r) said, t.nobody);
          stay = t.stay;
          number = t.number;
          true_to = t.true_to;
          before = t.before;
          unused = t.unused;
          answered = t.answered;
        },
      )

  -- a HELLO that brought a tenant
  one-welcome : (quota : ReserveOf) (reply : OfficeReply) (from next to : OfficeOf) (seat : SeatOf) (calls : List (Call × OfficeReply)) → reply ≡ Welcome quota → next.seat ≡ Some seat → IsSeated quota seat → tenant_in begun.shared.tenants seat.tenant ≡ None → seat.asked ≡ [] → AreSeated calls → Led next calls to → Comes from ((Hello quota, reply) ∷ calls) to
  one-welcome quota reply from next to seat calls said here admitted new none seated h =
      let t = tenancy begun quota seat seated.0 next to admitted new none here seated.1 (subst (λ (l : List (Call × OfficeReply)). Led next l to) seated.2 h) in
      inr (
        t.known,
        t.knew,
        record {
          early = [];
          quota = quota;
          later = seated.0;
          are = ap (λ (r : OfficeReply). (Hello quota, r) ∷ calls) said ∙ ap (λ (l : List (Call × OfficeReply)). (Hello quota, Welcome quota) ∷ l) seated.2;
          nobody = tt;
          stay = seated.1;
          number = seat.tenant;
          true_to = t.true_to;
          before = t.before;
          unused = t.unused;
          answered = t.answered;
        },
      )

  -- a line, where the same holds of those after it
  turn-before : (line : LineText) (lines : List LineText) (replies : List OfficeReply) (from to : OfficeOf) → EndsAtBye (line ∷ lines) → from.seat ≡ None →
      ((rs : List OfficeReply) (next : OfficeOf) → next.seat ≡ None → Led next (calls_in false (turns false lines rs)) to → Comes next (calls_in false (turns false lines rs)) to) →
      (q : Request) → request false line ≡ q → Led from (calls_in false (next_turns q false lines replies)) to → Comes from (calls_in false (next_turns q false lines replies)) to
  turn-before line lines replies from to last none again (Fault fault) is h = again replies from none h
  turn-before line lines replies from to last none again Ends is h = again replies from none h
  turn-before line lines replies from to last none again (Makes (Hello quota)) is h = hello (subst (λ (seat : Option SeatOf). IsTurnOf begun seat (Hello quota) reply from h.0) none h.1.0)
    where
      reply : OfficeReply
      reply = next_reply replies

      later : List OfficeReply
      later = later_replies replies

      P : Bool → Type 0
      P b = Led h.0 (calls_in b (turns b lines later)) to

      Q : Bool → Type 0
      Q b = Comes from ((Hello quota, reply) ∷ calls_in b (turns b lines later)) to

      hello : IsHello begun (Hello quota) reply from h.0 → Q (seated_after false reply)
      hello (inl new) =
          let seated : seated_after false reply ≡ true = ap (seated_after false) new.5 in
          let more = subst P seated h.2 in
          subst Q (sym seated) (one-welcome quota reply from h.0 to new.0 (calls_in true (turns true lines later)) new.5 (ap (λ (o : OfficeOf). o.seat) new.1) new.2 new.3 new.4 (while-seated lines later h.0 to last.1 more) more)
      hello (inr refused) =
          let seated : seated_after false reply ≡ false = ap (seated_after false) refused.2 in
          let nobody : h.0.seat ≡ None = ap (λ (o : OfficeOf). o.seat) refused.0 ∙ none in
          subst Q (sym seated) (one-refused quota reply refused.1 from h.0 to (calls_in false (turns false lines later)) refused.2 refused.0 (again later h.0 nobody (subst P seated h.2)))
  turn-before line lines replies from to last none again _ is h = absurd (subst IsEarly is (early line))

  -- lines read while no tenant is there: by the calls that they make at most one comes (Comes), and leaves by the last
  before-hello : (lines : List LineText) (replies : List OfficeReply) (from to : OfficeOf) → EndsAtBye lines → from.seat ≡ None → Led from (calls_in false (turns false lines replies)) to → Comes from (calls_in false (turns false lines replies)) to
  before-hello [] replies from to last none h = inl (tt, ap (λ (o : OfficeOf). o.knew) (sym h))
  before-hello (line ∷ lines) replies from to last none h = turn-before line lines replies from to last none (λ rs next nobody more. before-hello lines rs next to last.1 nobody more) (request false line) refl h

  pub one-tenant : (lines : List LineText) (replies : List OfficeReply) (from to : OfficeOf) → EndsAtBye lines → from.seat ≡ None → from.knew ≡ None → Led from (calls_in false (turns false lines replies)) to → IsTenantOf begun (calls_in false (turns false lines replies)) to.knew
  one-tenant lines replies from to last none new h = grind (arith, before-hello)
