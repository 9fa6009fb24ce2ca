-- Sessions over an office that keeps what its tenant asked for.
use Rattle.session.proofs.Common.{◌≡◌, List, [], ◌∷◌, ap, subst, Result, Leads, ReadAnswer, WriteAnswer, End, SessionFault, Call, OfficeReply, Called, Session, calls_for, Asked, asks_after, KeepsAsks, AllTrue, TrueSession, between}
use Rattle.session.proofs.DoneLemmas.{each-done}

-- calls through which the asks are led are true
pub all-true : (asks : List Asked) (made : List (Call × OfficeReply)) (asks' : List Asked) → Leads (Called KeepsAsks) asks made asks' → AllTrue asks made
all-true asks [] asks' h = tt
all-true asks (made ∷ more) asks' h =
    let led = subst (λ z. Leads (Called KeepsAsks) z more asks') h.1.0 h.2 in
    (h.1.1, all-true (asks_after asks made.0 made.1) more asks' led, h.1.2, h.1.3)

module _ {O : Type 0} (does : O → Call → OfficeReply → O → Type 0) (asks : O → List Asked)
    (keeps : (from : O) (call : Call) (reply : OfficeReply) (to : O) → does from call reply to → KeepsAsks (asks from) call reply (asks to)) where
  -- a chain of calls, seen by the asks of its states
  asks-led : (from : O) (made : List (Call × OfficeReply)) (to : O) → Leads (Called does) from made to → Leads (Called KeepsAsks) (asks from) made (asks to)
  asks-led from [] to h = ap asks h
  asks-led from (made ∷ more) to h = (asks h.0, keeps from made.0 made.1 h.0 h.1, asks-led h.0 more to h.2)

  -- a session, seen by the asks of its office, of which there are none at first
  pub true-session : {S K : Type 0} {gives : S → ReadAnswer → S → Type 0} {takes : K → WriteAnswer → K → Type 0} {s s' : S} {k k' : K} {o o' : O} {r : Result End SessionFault} →
      asks o ≡ [] → Session (between gives s s') (between takes k k') (between (Called does) o o') r → TrueSession (between gives s s') (between takes k k') r
  true-session {o = o} {o'} new x =
      let led = subst (λ z. Leads (Called KeepsAsks) z (calls_for x.answered x.replies) (asks o')) new (asks-led o (calls_for x.answered x.replies) o' x.made) in
      record {
        asks = asks o';
        session = record {
          blocks = x.blocks;
          last = x.last;
          answered = x.answered;
          replies = x.replies;
          pieces = x.pieces;
          reads = x.reads;
          ends = x.ends;
          lines = x.lines;
          made = led;
          writes = x.writes;
          written = x.written;
        };
        dones = each-done x.answered x.replies (all-true [] (calls_for x.answered x.replies) (asks o') led);
      }
