-- A session over an office at a desk, told in the terms that the office's contracts use.
use Rattle.desk_office.proofs.Common.{◌≡◌, List, [], ◌∷◌, Option, None, Result, refl, sym, ap, subst, concat, Leads, bytes_due, ReadAnswer, WriteAnswer, StepOf, Known, LeafAnswer, HallOf, End, SessionFault, Call, OfficeReply, KeepsAsks, Called, Session, calls_for, talk_result, each-done, all-true, asks_of, IsTenantOf, SeenSession, OfficeOf, vacant, IsTurnAt, between}
use Rattle.desk_office.proofs.OneTenant.{answered-ends, one-tenant}

-- the asks are kept by each call
pub kept : (begun : HallOf) (from : OfficeOf) (made : List (Call × OfficeReply)) (to : OfficeOf) → Leads (Called (IsTurnAt begun)) from made to → Leads (Called KeepsAsks) (asks_of from.seat) made (asks_of to.seat)
kept begun from [] to h = ap (λ (o : OfficeOf). asks_of o.seat) h
kept begun from (made ∷ more) to h = (asks_of h.0.seat, h.1.1, kept begun h.0 more to h.2)

module _ {O : Type 0} (seen : O → OfficeOf) (begun : HallOf) (does : O → Call → OfficeReply → O → Type 0) (turns : (from : O) (call : Call) (reply : OfficeReply) (to : O) → does from call reply to → IsTurnAt begun (seen from) call reply (seen to)) where
  led : (from : O) (made : List (Call × OfficeReply)) (to : O) → Leads (Called does) from made to → Leads (Called (IsTurnAt begun)) (seen from) made (seen to)
  led from [] to h = ap seen h
  led from (made ∷ more) to h = (seen h.0, turns from made.0 made.1 h.0 h.1, led h.0 more to h.2)

  pub seen-session : {S K : Type 0} (gives : S → ReadAnswer → S → Type 0) (takes : K → WriteAnswer → K → Type 0) (s s' : S) (k k' : K) (o o' : O) (r : Result End SessionFault) (known : Option (Known (StepOf LeafAnswer))) →
      (seen o).seat ≡ None → (seen o).knew ≡ None → known ≡ (seen o').knew → Session (between gives s s') (between takes k k') (between (Called does) o o') r → SeenSession begun (between gives s s') (between takes k k') r known
  seen-session gives takes s s' k k' o o' r known no_seat none_left is x =
      let new : seen o ≡ vacant = λ i. record { seat = no_seat i; knew = none_left i } in
      let calls = calls_for x.answered x.replies in
      let made = subst (λ (z : OfficeOf). Leads (Called (IsTurnAt begun)) z calls (seen o')) new (led o calls o' x.made) in
      let asks = kept begun vacant calls (seen o') made in
      record {
        asks = asks_of (seen o').seat;
        session = record { blocks = x.blocks; last = x.last; answered = x.answered; replies = x.replies; pieces = x.pieces; reads = x.reads; ends = x.ends; lines = x.lines; made = asks; writes = x.writes; written = x.written };
        dones = each-done x.answered x.replies (all-true [] calls (asks_of (seen o').seat) asks);
        tenant = subst (λ (k : Option (Known (StepOf LeafAnswer))). IsTenantOf begun calls k) (sym is) (one-tenant begun x.answered x.replies vacant (seen o') (answered-ends r x.answered (bytes_due (talk_result r) (concat x.blocks)) x.lines) refl refl made);
      }
