-- Meaning: what passed on a connection to a site.
use Rattle.std.specs.Prelude.{◌≡◌, ℕ, ℤ, List, take, Option, Result}
use Rattle.line_io.specs.declared.faults.LineFault.{LineFault}
use Rattle.line_io.specs.declared.talking.TalkEnd.{TalkEnd}
use Rattle.line_io.specs.Leads.{between}
use Rattle.tcp_server.specs.Tapes.{TapeOf, AheadOf, blank_tape, unread, moved, HandsOn, Fills, Puts}
use Rattle.hall.specs.Halls.{HallOf}
use Rattle.site_file.specs.declared.address.Address.{Address}
use Rattle.site_rules.specs.Callers.{Comes, IsIdentified}
use Rattle.site_rules.specs.declared.callers.Port.{Port}
use Rattle.site_rules.specs.declared.callers.Recognized.{Recognized}
use Rattle.site_rules.specs.declared.callers.Recognized.TheVariants.{Known, Unfinished, Foreign}
use Rattle.site_desk.specs.Seats.{SiteTraceOf}
use Rattle.site_office.specs.Sessions.{SeenSiteSession}

-- so many of the first bytes of a connection from this address are its proxy's header, by its port: none at the plain one
abbrev pub IsHeaderIn : Port → List ℕ → Address → ℕ → Type 0
IsHeaderIn port bytes peer used = (address : Address) × (certificate : Option (List ℕ)) × IsIdentified port bytes peer (Comes address certificate used)

-- what is said of a connection by its first bytes: where it is known whose it is, so many of them are its header
abbrev pub IsRecognized : Port → List ℕ → Address → Recognized → Type 0
IsRecognized port bytes peer (Known known) = IsHeaderIn port bytes peer known.used
IsRecognized port bytes peer Unfinished = Unit {0}
IsRecognized port bytes peer Foreign = Unit {0}

-- what passed on the socket with this descriptor, by the tapes of all its reads and of all its writes: first a header, as the port has it, and
-- behind that just a session at one of the desks that were made with these halls (`SeenSiteSession`), with this end, and by what its tenant's seat
-- knew of that desk's history when it left. Of what came in one read with the header nothing is lost; what was read and not given at the end stays
-- unsaid (`to.ahead`)
pub record IsSiteSessionOn (begun : ℕ → HallOf) (port : Port) (socket : ℤ) (read written : TapeOf) (ended : Result TalkEnd LineFault) (knew : Option SiteTraceOf) : Type 0 where
  pub peer : Address
  pub used : ℕ
  pub from : AheadOf
  pub to : AheadOf
  pub header : IsHeaderIn port (moved from.tape.calls) peer used
  pub behind : HandsOn (unread socket) (take used (moved from.tape.calls)) from
  pub session : SeenSiteSession begun (between Fills from to) (between Puts (blank_tape socket) written) ended knew
  pub all_read : to.tape ≡ read
