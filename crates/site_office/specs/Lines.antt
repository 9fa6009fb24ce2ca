-- Meaning: what a line of a site's session asks for: what a line of any session asks for, but that HELLO may bear a token, and INFO and PING are lines.
use Rattle.std.specs.Prelude.{ℕ, List, Bool, true, false, Option, if◌then◌else◌, codes}
use Rattle.std.specs.Str.{bytes_eq}
use Rattle.line_io.specs.Lines.{LineText, Whole, TooLong}
use Rattle.protocol.specs.declared.faults.ProtocolFault.TheVariants.{LongLine, NoHello}
use Rattle.session.specs.Calls.{Hello, Reserve}
use Rattle.session.specs.Requests.{Request, Fault, Makes, request}
use Rattle.tenant_quota.specs.Reserves.{ReserveOf}
use Rattle.site_office.specs.Tokens.{token_of, without_token}

-- what a line asks for: a session with this reservation, perhaps by a token; that the session's reservation be raised to this; what the
-- customer may have and has; a sign that the site is there; or what concerns the session alone
pub data SiteRequest : Type 0 where
  Greets : (token : Option (List ℕ)) (quota : ReserveOf) → SiteRequest
  Raises : (quota : ReserveOf) → SiteRequest
  Informs : SiteRequest
  Pings : SiteRequest
  Plain : (request : Request) → SiteRequest

-- what a line asks for, by its token and by what a session makes of the line without it
abbrev pub asked_by : Option (List ℕ) → Request → SiteRequest
asked_by token (Makes (Hello quota)) = Greets token quota
asked_by token (Makes (Reserve quota)) = Raises quota
asked_by token asked = Plain asked

-- what INFO asks for: before HELLO it is fault 28
abbrev pub info_request : Bool → SiteRequest
info_request true = Informs
info_request false = Plain (Fault NoHello)

-- what a line asks for, by whether a tenant is there: PING asks the same before HELLO and behind it
abbrev pub site_request : Bool → LineText → SiteRequest
site_request seated TooLong = Plain (Fault LongLine)
site_request seated (Whole bytes) =
    if bytes_eq bytes (codes "INFO") then info_request seated
    else (if bytes_eq bytes (codes "PING") then Pings
    else asked_by (token_of bytes) (request seated (Whole (without_token bytes))))
