-- Meaning: what comes of one line of a site's session: what is asked of its office and of its access control, and the text of the answer.
use Rattle.std.specs.Prelude.{◌≡◌, ℕ, List, ◌++◌, Bool, true, false, Option, codes, decimal}
use Rattle.line_io.specs.Lines.{LineText}
use Rattle.protocol.specs.Texts.{error_text}
use Rattle.session.specs.Calls.{Call, Hello, Reserve, OfficeReply}
use Rattle.session.specs.Requests.{Makes}
use Rattle.session.specs.Sessions.{HandlerOf, Turned, handler_of}
use Rattle.tenant_quota.specs.Reserves.{ReserveOf}
use Rattle.site_office.specs.declared.access.Greeted.{Greeted}
use Rattle.site_office.specs.declared.access.Greeted.TheVariants.{Known, Unknown, Crowded}
use Rattle.site_office.specs.declared.access.Info.{Info}
use Rattle.site_office.specs.Lines.{SiteRequest, Greets, Raises, Informs, Pings, Plain, site_request}

-- the text of a space and a number
abbrev pub spaced_number : ℕ → List ℕ
spaced_number number = codes " " ++ decimal number

-- the text of what a customer may have and has, with the site's grain and version
abbrev pub info_text : Info → List ℕ
info_text info =
    codes "INFO" ++ spaced_number info.grain ++ spaced_number info.may_segments ++ spaced_number info.may_nodes
    ++ spaced_number info.has_segments ++ spaced_number info.has_nodes ++ codes " 1.0.0"

-- what a site's session may do of its office and its access control: the office's calls, who says a token, whether a line pays its rate, and what is
-- told of its customer
pub record SiteRelations (O : Type 0) : Type 1 where
  pub does : O → Call → OfficeReply → O → Type 0
  pub greets : O → Option (List ℕ) → Greeted → O → Type 0
  pub pays : O → Bool → O → Type 0
  pub informs : O → Info → O → Type 0

-- these relations as one thing
abbrev pub site_relations : {O : Type 0} → (O → Call → OfficeReply → O → Type 0) → (O → Option (List ℕ) → Greeted → O → Type 0) → (O → Bool → O → Type 0) → (O → Info → O → Type 0) → SiteRelations O
site_relations does greets pays informs = record { does = does; greets = greets; pays = pays; informs = informs }

-- a line of a site's session is refused by this number, and nothing else happens
abbrev pub IsRefused : {O : Type 0} → ℕ → HandlerOf O → List ℕ → HandlerOf O → Type 0
IsRefused number from text to = (from.office ≡ to.office) × (to.seated ≡ from.seated) × (text ≡ error_text number)

-- what comes of a HELLO whose rate was paid, by what is known of who says it: ERR 30 where nobody has the token, ERR 14 where its customer
-- has too many connections, and else what comes of it in any session
abbrev pub IsWelcomed : {O : Type 0} → (O → Call → OfficeReply → O → Type 0) → Greeted → ReserveOf → HandlerOf O → List ℕ → HandlerOf O → Type 0
IsWelcomed does Known quota from text to = Turned does (Makes (Hello quota)) from text to
IsWelcomed does Unknown quota from text to = IsRefused 30 from text to
IsWelcomed does Crowded quota from text to = IsRefused 14 from text to

-- what comes of a line that pays a rate, by whether it was paid, and what comes of it then: ERR 31 where too many lines came in a time
abbrev pub IfPaid : {O : Type 0} → Bool → Type 0 → HandlerOf O → List ℕ → HandlerOf O → Type 0
IfPaid false then from text to = IsRefused 31 from text to
IfPaid true then from text to = then

-- what comes of a line, by what it asks for: HELLO first says who says it and then pays its rate, whoever that is; RESERVE pays its rate; INFO
-- is told; PING is answered, and nothing is asked of anybody; all else is as in any session
abbrev pub SiteTurned : {O : Type 0} → SiteRelations O → SiteRequest → HandlerOf O → List ℕ → HandlerOf O → Type 0
SiteTurned {O} site (Greets token quota) from text to =
    (greeted : Greeted) × (met : O) × (paid : Bool) × (heard : O) × site.greets from.office token greeted met × site.pays met paid heard
    × IfPaid paid (IsWelcomed site.does greeted quota (handler_of heard from.seated) text to) (handler_of heard from.seated) text to
SiteTurned {O} site (Raises quota) from text to =
    (paid : Bool) × (heard : O) × site.pays from.office paid heard
    × IfPaid paid (Turned site.does (Makes (Reserve quota)) (handler_of heard from.seated) text to) (handler_of heard from.seated) text to
SiteTurned site Informs from text to = (info : Info) × site.informs from.office info to.office × (to.seated ≡ from.seated) × (text ≡ info_text info)
SiteTurned site Pings from text to = (from.office ≡ to.office) × (to.seated ≡ from.seated) × (text ≡ codes "PONG")
SiteTurned site (Plain asked) from text to = Turned site.does asked from text to

-- what comes of a line of a site's session
abbrev pub SiteComes : {O : Type 0} → SiteRelations O → HandlerOf O → LineText → List ℕ → HandlerOf O → Type 0
SiteComes site from line text to = SiteTurned site (site_request from.seated line) from text to
