-- What passed on a connection to a site, from what its parts say.
use Rattle.std.proofs.Common.{◌≡◌, ℕ, ℤ, Bool, List, [], ◌∷◌, ◌++◌, map, take, drop, sym, ap, subst, ◌∙◌, take-append-drop, Option, Some, None, IfSome, Result}
use Rattle.line_io.specs.declared.faults.LineFault.{LineFault}
use Rattle.line_io.specs.declared.talking.TalkEnd.{TalkEnd}
use Rattle.line_io.specs.Leads.{Leads, AnswerPassage, between}
use Rattle.line_io.specs.Lines.{LineText}
use Rattle.line_io.specs.Runs.{write_result}
use Rattle.line_io.specs.Streams.{Gave}
use Rattle.line_io.specs.Talks.{Talk}
use Rattle.line_io.specs.Writes.{writes_of}
use Rattle.tcp_server.specs.Tapes.{TapeOf, AheadOf, blank_tape, unread, moved, HandsOn, Fills, Puts}
use Rattle.hall.specs.Halls.{HallOf}
use Rattle.site_file.specs.declared.address.Address.{Address}
use Rattle.site_file.specs.declared.keys.CertificateKey.{CertificateKey}
use Rattle.site_file.specs.declared.keys.NetworkKey.{NetworkKey}
use Rattle.site_rules.specs.Callers.{CallerOf, Comes, Waiting, Closed, IsIdentified, recognized}
use Rattle.site_rules.specs.declared.callers.Port.{Port}
use Rattle.site_desk.specs.Seats.{SiteTraceOf}
use Rattle.site_office.specs.Sessions.{SeenSiteSession}
use Rattle.othello_site.specs.Connections.{IsHeaderIn, IsRecognized, IsSiteSessionOn}

-- what is said of a value, if there is one, by what else is said of it
pub if-some : {A : Type 0} {P Q : A → Type 0} (there : Option A) → ((a : A) → P a → Q a) → IfSome there P → IfSome there Q
if-some None follows h = tt
if-some (Some a) follows h = follows a h

-- what the keys say of a caller has the header that the first bytes say
pub is-recognized : (certificates : List CertificateKey) (networks : List NetworkKey) (port : Port) (bytes : List ℕ) (peer : Address) (caller : CallerOf)
    → IsIdentified port bytes peer caller → IsRecognized port bytes peer (recognized certificates networks caller)
is-recognized certificates networks port bytes peer (Comes address certificate used) is = (address, certificate, is)
is-recognized certificates networks port bytes peer Waiting is = tt
is-recognized certificates networks port bytes peer Closed is = tt

-- Chains of reads and writes, by a part of the states that they speak of.

leads-by : {S T E : Type 0} (step : T → E → T → Type 0) (view : S → T) (from to : S) (events : List E) → Leads (λ a event b. step (view a) event (view b)) from events to → Leads step (view from) events (view to)
leads-by step view from to [] led = ap view led
leads-by step view from to (event ∷ events) led = (view led.0, led.1, leads-by step view led.0 to events led.2)

-- a talk over a source and a sink whose relations speak of these parts alone is one of these parts
talk-by : {S K A : Type 0} (read : S → AheadOf) (written : K → TapeOf) (s s' : S) (k k' : K) (answered : AnswerPassage A) (ends : LineText → Bool) (r : Result TalkEnd LineFault)
    → Talk (between (λ a answer b. Fills (read a) answer (read b)) s s') (between (λ a answer b. Puts (written a) answer (written b)) k k') answered ends r
    → Talk (between Fills (read s) (read s')) (between Puts (written k) (written k')) answered ends r
talk-by read written s s' k k' answered ends r talk =
    let x = talk.lines in
    record {
      blocks = talk.blocks;
      last = talk.last;
      reads = leads-by Fills read s s' (map Gave talk.blocks ++ talk.last) talk.reads;
      ending = talk.ending;
      lines = record {
        answered = x.answered;
        texts = x.texts;
        pieces = x.pieces;
        rest = x.rest;
        answers_lead = x.answers_lead;
        writes = leads-by Puts written k k' (writes_of x.pieces (write_result r)) x.writes;
        taken = x.taken;
        ends = x.ends;
      };
    }

-- so is a site's session
pub seen-by : {S K : Type 0} (begun : ℕ → HallOf) (s s' : S) (k k' : K) (read : S → AheadOf) (written : K → TapeOf) (r : Result TalkEnd LineFault) (knew : Option SiteTraceOf)
    → SeenSiteSession begun (between (λ a answer b. Fills (read a) answer (read b)) s s') (between (λ a answer b. Puts (written a) answer (written b)) k k') r knew
    → SeenSiteSession begun (between Fills (read s) (read s')) (between Puts (written k) (written k')) r knew
unfolding talk-by
seen-by begun s s' k k' read written r knew seen =
    record {
      talk = talk-by read written s s' k k' _ _ r seen.talk;
      own = seen.own;
      replies = seen.replies;
      mixed = seen.mixed;
      asks = seen.asks;
      made = seen.made;
      dones = seen.dones;
      tenant = seen.tenant;
    }

-- A socket's header, and what is behind it.

-- where nothing was given, what came is ahead
all-came : (socket : ℤ) (to : AheadOf) → HandsOn (unread socket) [] to → moved to.tape.calls ≡ to.ahead
all-came socket to handed = ap (λ (t : TapeOf). moved t.calls) handed.1.1 ∙ handed.1.2 ∙ handed.2

-- a header that is left out is handed on to nobody
behind-header : (socket : ℤ) (to from : AheadOf) (used : ℕ) → HandsOn (unread socket) [] to → from ≡ record { ahead = drop used to.ahead; tape = to.tape } → HandsOn (unread socket) (take used to.ahead) from
behind-header socket to from used handed is =
    subst (HandsOn (unread socket) (take used to.ahead)) (sym is) (handed.0, handed.1, handed.2 ∙ sym (take-append-drop used to.ahead))

-- what passed on a socket: a header, and behind it a session
pub on-socket : (begun : ℕ → HallOf) (port : Port) (socket : ℤ) (peer : Address) (used : ℕ) (first heard from to : AheadOf) (blank read written : TapeOf) (r : Result TalkEnd LineFault) (knew : Option SiteTraceOf)
    → first ≡ unread socket → blank ≡ blank_tape socket → HandsOn first [] heard → IsHeaderIn port heard.ahead peer used → from ≡ record { ahead = drop used heard.ahead; tape = heard.tape }
    → SeenSiteSession begun (between Fills from to) (between Puts blank written) r knew → to.tape ≡ read → IsSiteSessionOn begun port socket read written r knew
on-socket begun port socket peer used first heard from to blank read written r knew is_first is_blank handed is_header is_from seen all_read =
    let came = subst (λ (s : AheadOf). HandsOn s [] heard) is_first handed in
    let all : moved from.tape.calls ≡ heard.ahead = ap (λ (s : AheadOf). moved s.tape.calls) is_from ∙ all-came socket heard came in
    record {
      peer = peer;
      used = used;
      from = from;
      to = to;
      header = subst (λ bytes. IsHeaderIn port bytes peer used) (sym all) is_header;
      behind = subst (λ bytes. HandsOn (unread socket) (take used bytes) from) (sym all) (behind-header socket heard from used came is_from);
      session = subst (λ (t : TapeOf). SeenSiteSession begun (between Fills from to) (between Puts t written) r knew) is_blank seen;
      all_read = all_read;
    }
