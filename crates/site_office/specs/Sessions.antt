-- Meaning: a site's session in the history of its desk: which of its lines are those of any session, how the others are answered, and what its
-- tenant is answered.
use Rattle.std.specs.Prelude.{◌≡◌, ◌⊎◌, ℕ, List, [], ◌∷◌, Bool, false, Option, Some, None, Result, codes}
use Rattle.line_io.specs.declared.faults.LineFault.{LineFault}
use Rattle.line_io.specs.declared.talking.TalkEnd.{TalkEnd}
use Rattle.line_io.specs.Leads.{Leads, Passage, answering}
use Rattle.line_io.specs.Lines.{LineText, Whole, TooLong}
use Rattle.line_io.specs.Streams.{ReadAnswer, WriteAnswer}
use Rattle.line_io.specs.Talks.{Talk}
use Rattle.protocol.specs.Faults.{fault_number}
use Rattle.protocol.specs.Texts.{error_text}
use Rattle.sched_rules.specs.Refusals.{refusal_number}
use Rattle.hall.specs.Halls.{HallOf}
use Rattle.session.specs.Asks.{Asked, KeepsAsks}
use Rattle.session.specs.Calls.{Call, OfficeReply}
use Rattle.session.specs.DoneLines.{EachDoneIsTrue}
use Rattle.session.specs.Requests.{is_bye}
use Rattle.session.specs.Requests.{Fault}
use Rattle.session.specs.Sessions.{Called, calls_for}
use Rattle.session.specs.Turns.{LineTurn, Faulted, Made, Tabulated, Closed, seated_after, turn_text, turns}
use Rattle.desk_office.specs.Answers.{IsOneTenancy, NobodyCame}
use Rattle.site_book.specs.declared.refusal.BookRefusal.{BookRefusal}
use Rattle.site_desk.specs.declared.turned.Turned.TheVariants.{ByBook}
use Rattle.site_desk.specs.Seats.{SiteTraceOf}
use Rattle.site_office.specs.declared.access.Info.{Info}
use Rattle.site_office.specs.Lines.{SiteRequest, Greets, Raises, Informs, Pings, Plain, site_request}
use Rattle.site_office.specs.Refusing.{raise_refusal}
use Rattle.site_office.specs.Tokens.{without_token}
use Rattle.site_office.specs.Turns.{info_text}

-- a line of a site's session less its token
abbrev pub tokenless : LineText → LineText
tokenless TooLong = TooLong
tokenless (Whole bytes) = Whole (without_token bytes)

-- how a line is answered beside the session, by what it asks for. HELLO is refused by 31 as too many lines came in a
-- time, by 30 as nobody has the token, or by 14 as its customer has too many connections; RESERVE by 31, or as the
-- book refuses it; INFO and PING are told; a line with a fault is refused by the fault's number. None of these asks
-- anything of a desk's history. No other line is answered so
abbrev pub IsBeside : SiteRequest → List ℕ → Type 0
IsBeside (Greets token quota) text = (text ≡ error_text 31) ⊎ ((text ≡ error_text 30) ⊎ (text ≡ error_text 14))
IsBeside (Raises quota) text = (text ≡ error_text 31) ⊎ ((why : BookRefusal) × (text ≡ error_text (refusal_number (raise_refusal (ByBook why)))))
IsBeside Informs text = (info : Info) × (text ≡ info_text info)
IsBeside Pings text = text ≡ codes "PONG"
IsBeside (Plain (Fault fault)) text = text ≡ error_text (fault_number fault)
IsBeside (Plain _) text = ⊥

-- a line that asks for this may be the next of a session's own: INFO, PING and a line with a fault never are
abbrev pub MayBeOwn : SiteRequest → Type 0
MayBeOwn Informs = ⊥
MayBeOwn Pings = ⊥
MayBeOwn (Plain (Fault fault)) = ⊥
MayBeOwn _ = Unit {0}

-- whether a tenant is there after what came of a line
abbrev pub seated_by : Bool → LineTurn → Bool
seated_by seated (Faulted fault) = seated
seated_by seated (Made call reply) = seated_after seated reply
seated_by seated (Tabulated job reply) = seated_after seated reply
seated_by seated Closed = false

-- these lines of a site's session were answered by these texts, where a tenant is there before them or not: each beside the session, or, less its
-- token, as the next line of a session's own, of which these turns came
abbrev pub AreMixed : Bool → List LineText → List (List ℕ) → List LineText → List LineTurn → Type 0
AreMixed seated [] [] own turned = (own ≡ []) × (turned ≡ [])
AreMixed seated (line ∷ lines) (text ∷ texts) own turned =
    (IsBeside (site_request seated line) text × AreMixed seated lines texts own turned)
    ⊎ ((later : List LineText) × (turn : LineTurn) × (rest : List LineTurn) × MayBeOwn (site_request seated line) × (own ≡ tokenless line ∷ later) × (turned ≡ turn ∷ rest) × (text ≡ turn_text turn)
    × AreMixed (seated_by seated turn) lines texts later rest)
AreMixed seated _ _ own turned = ⊥

-- any text may answer any line
abbrev pub AnyText : Unit {0} → LineText → List ℕ → Unit {0} → Type 0
AnyText _ line text _ = Unit {0}

-- a session's one tenant, by the session's calls and what its seat knew when it left, at the desk whose number that says; None where nobody came
abbrev pub IsTenantAt : (ℕ → HallOf) → List (Call × OfficeReply) → Option SiteTraceOf → Type 0
IsTenantAt begun calls None = NobodyCame calls
IsTenantAt begun calls (Some trace) = IsOneTenancy (begun trace.at) calls trace.known

-- a session at a site whose desks were made with these halls, and what its tenant's seat knew when it left, if one came. The lines of what was read
-- were answered by what was written: some beside the session, the others as lines of a session (`own`), to whose calls the office replied this. Each
-- JOB, DONE and TABLE line is true; it had one tenant at most; and the calls that its own lines made were answered by the tenant's own part of
-- the history
pub record SeenSiteSession {S K : Type 0} (begun : ℕ → HallOf) (reading : Passage S ReadAnswer) (writing : Passage K WriteAnswer) (r : Result TalkEnd LineFault) (knew : Option SiteTraceOf) : Type 0 where
  pub talk : Talk reading writing (answering AnyText tt tt) is_bye r
  pub own : List LineText
  pub replies : List OfficeReply
  pub mixed : AreMixed false talk.lines.answered talk.lines.texts own (turns false own replies)
  pub asks : List Asked
  pub made : Leads (Called KeepsAsks) [] (calls_for own replies) asks
  pub dones : EachDoneIsTrue [] own (turns false own replies)
  pub tenant : IsTenantAt begun (calls_for own replies) knew
