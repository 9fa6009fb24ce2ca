-- A session over a source and a sink with tapes is one of the tapes.
use Rattle.std.proofs.Common.{◌≡◌, ℤ, map, subst, sym, ap, ◌++◌, Option, Result}
use Rattle.sched_rules.specs.declared.step.StepOf.{StepOf}
use Rattle.line_io.specs.Leads.{between}
use Rattle.line_io.specs.Runs.{write_result}
use Rattle.line_io.specs.Streams.{ReadAnswer, Gave, WriteAnswer}
use Rattle.line_io.specs.Writes.{writes_of}
use Rattle.hall.specs.Halls.{HallOf}
use Rattle.hall.specs.jamboree_rules.declared.leaf.LeafAnswer.{LeafAnswer}
use Rattle.desk.specs.Traces.{Known}
use Rattle.session.specs.Sessions.{talk_result}
use Rattle.session.specs.declared.faults.End.{End}
use Rattle.session.specs.declared.faults.SessionFault.{SessionFault}
use Rattle.desk_office.specs.Answers.{SeenSession}
use Rattle.tcp_server.specs.Connections.{IsSessionOn}
use Rattle.tcp_server.specs.Tapes.{TapeOf, TapedOf, blank_tape, Hears, Sends, HearsFrom, SendsTo}
use Rattle.tcp_server.proofs.TapeLemmas.{heard-in-order, heard-on-tape, sent-on-tape}

pub on-tapes : {S K : Type 0} (begun : HallOf) (gives : S → ReadAnswer → S → Type 0) (takes : K → WriteAnswer → K → Type 0) (s s' : TapedOf S) (k k' : TapedOf K) (ended : Result End SessionFault) (knew : Option (Known (StepOf LeafAnswer)))
    → SeenSession begun (between (HearsFrom gives) s s') (between (SendsTo takes) k k') ended knew → SeenSession begun (between Hears s.tape s'.tape) (between Sends k.tape k'.tape) ended knew
on-tapes begun gives takes s s' k k' ended knew seen =
    let x = seen.session in
    record {
      asks = seen.asks;
      session = record {
        blocks = x.blocks;
        last = x.last;
        answered = x.answered;
        replies = x.replies;
        pieces = x.pieces;
        reads = heard-on-tape gives s s' (map Gave x.blocks ++ x.last) x.reads;
        ends = x.ends;
        lines = x.lines;
        made = x.made;
        writes = sent-on-tape takes k k' (writes_of x.pieces (write_result (talk_result ended))) x.writes;
        written = x.written;
      };
      dones = seen.dones;
      tenant = seen.tenant;
    }

-- a session between new tapes of a socket and these is one on that socket
pub from-blank : (begun : HallOf) (socket : ℤ) (s k read written : TapeOf) (ended : Result End SessionFault) (knew : Option (Known (StepOf LeafAnswer)))
    → s ≡ blank_tape socket → k ≡ blank_tape socket → SeenSession begun (between Hears s read) (between Sends k written) ended knew → IsSessionOn begun socket read written ended knew
from-blank begun socket s k read written ended knew s_new k_new seen =
    subst (λ (t : TapeOf). SeenSession begun (between Hears t read) (between Sends (blank_tape socket) written) ended knew) s_new
    (subst (λ (t : TapeOf). SeenSession begun (between Hears s read) (between Sends t written) ended knew) k_new seen)

-- the socket of a session is that of its tapes
pub on-own-socket : (begun : HallOf) (socket : ℤ) (read written : TapeOf) (ended : Result End SessionFault) (knew : Option (Known (StepOf LeafAnswer)))
    → IsSessionOn begun socket read written ended knew → IsSessionOn begun read.socket read written ended knew
on-own-socket begun socket read written ended knew seen =
    let x = seen.session in
    let same : read.socket ≡ socket = ap (λ (t : TapeOf). t.socket) (heard-in-order (blank_tape socket) read (map Gave x.blocks ++ x.last) x.reads) in
    subst (λ s. IsSessionOn begun s read written ended knew) (sym same) seen
