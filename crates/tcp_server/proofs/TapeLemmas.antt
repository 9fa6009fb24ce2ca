-- What a chain of calls leaves on a tape.
use Rattle.std.proofs.Common.{◌≡◌, ℕ, ℤ, Option, Some, None, List, [], ◌∷◌, ◌++◌, map, flat_map, refl, sym, ap, ap₂, subst, ◌∙◌, append_assoc, append-nil}
use Rattle.line_io.specs.Leads.{Leads}
use Rattle.line_io.specs.Streams.{ReadAnswer, Gave, WriteAnswer}
use Rattle.tcp_server.specs.Tapes.{TapeOf, TapedOf, AheadOf, taped, heard, sent, unread, moved, given, took, Hears, Sends, HearsFrom, SendsTo, Moves, HandsOn, Fills, Puts}

-- a tape with these calls behind its own
abbrev with_calls : TapeOf → List (Option (List ℕ)) → TapeOf
with_calls tape calls = record { socket = tape.socket; calls = tape.calls ++ calls }

with-no-call : (tape : TapeOf) → tape ≡ with_calls tape []
with-no-call tape = ap (λ cs. record { socket = tape.socket; calls = cs }) (sym (append-nil tape.calls))

pub heard-in-order : (from to : TapeOf) (answers : List ReadAnswer) → Leads Hears from answers to → to ≡ record { socket = from.socket; calls = from.calls ++ map heard answers }
heard-in-order from to [] led = sym led ∙ with-no-call from
heard-in-order from to (a ∷ more) led =
    heard-in-order led.0 to more led.2 ∙ ap (λ (t : TapeOf). with_calls t (map heard more)) led.1 ∙ ap (λ cs. record { socket = from.socket; calls = cs }) (append_assoc from.calls (heard a ∷ []) (map heard more))

pub sent-in-order : (from to : TapeOf) (answers : List WriteAnswer) → Leads Sends from answers to → to ≡ record { socket = from.socket; calls = from.calls ++ map sent answers }
sent-in-order from to [] led = sym led ∙ with-no-call from
sent-in-order from to (a ∷ more) led =
    sent-in-order led.0 to more led.2 ∙ ap (λ (t : TapeOf). with_calls t (map sent more)) led.1 ∙ ap (λ cs. record { socket = from.socket; calls = cs }) (append_assoc from.calls (sent a ∷ []) (map sent more))

-- a chain of reads of a taped source is one of its tape
pub heard-on-tape : {S : Type 0} (gives : S → ReadAnswer → S → Type 0) (from to : TapedOf S) (answers : List ReadAnswer) → Leads (HearsFrom gives) from answers to → Leads Hears from.tape answers to.tape
heard-on-tape gives from to [] led = ap (λ (t : TapedOf _). t.tape) led
heard-on-tape gives from to (a ∷ more) led = (led.0.tape, led.1.1, heard-on-tape gives led.0 to more led.2)

-- a chain of writes to a taped sink is one of its tape
pub sent-on-tape : {K : Type 0} (takes : K → WriteAnswer → K → Type 0) (from to : TapedOf K) (answers : List WriteAnswer) → Leads (SendsTo takes) from answers to → Leads Sends from.tape answers to.tape
sent-on-tape takes from to [] led = ap (λ (t : TapedOf _). t.tape) led
sent-on-tape takes from to (a ∷ more) led = (led.0.tape, led.1.1, sent-on-tape takes led.0 to more led.2)

-- What calls moved.

moved-append : (calls more : List (Option (List ℕ))) → moved (calls ++ more) ≡ moved calls ++ moved more
moved-append [] more = refl
moved-append (None ∷ calls) more = moved-append calls more
moved-append (Some bytes ∷ calls) more = ap (λ rest. bytes ++ rest) (moved-append calls more) ∙ sym (append_assoc bytes (moved calls) (moved more))

-- no call moved nothing
pub Moves-none : (tape : TapeOf) → Moves tape [] tape
Moves-none tape = ([], with-no-call tape, refl)

-- one call moved its bytes, and one that failed none
pub Moves-one : (bytes : List ℕ) (tape : TapeOf) → Moves tape bytes (taped (Some bytes) tape)
Moves-one bytes tape = (Some bytes ∷ [], refl, append-nil bytes)

pub Moves-failed : (tape : TapeOf) → Moves tape [] (taped None tape)
Moves-failed tape = (None ∷ [], refl, refl)

-- some calls, and then others
pub Moves-more : (from next to : TapeOf) {bytes more : List ℕ} → Moves from bytes next → Moves next more to → Moves from (bytes ++ more) to
Moves-more from next to first then = (
  first.0 ++ then.0,
  then.1 ∙ ap (λ (t : TapeOf). with_calls t then.0) first.1 ∙ ap (λ cs. record { socket = from.socket; calls = cs }) (append_assoc from.calls first.0 then.0),
  moved-append first.0 then.0 ∙ ap₂ (λ a b. a ++ b) first.2 then.2,
)

-- What a socket that is read ahead hands on.

abbrev IsEmpty : List ℕ → Type 0
IsEmpty [] = Unit {0}
IsEmpty (byte ∷ bytes) = ⊥

pub HandsOn-none : (socket : AheadOf) → HandsOn socket [] socket
HandsOn-none socket = ([], Moves-none socket.tape, append-nil socket.ahead)

-- some bytes, and then others
pub HandsOn-more : (from next to : AheadOf) (bytes more : List ℕ) → HandsOn from bytes next → HandsOn next more to → HandsOn from (bytes ++ more) to
HandsOn-more from next to bytes more first then = (
  first.0 ++ then.0,
  Moves-more from.tape next.tape to.tape first.1 then.1,
  sym (append_assoc from.ahead first.0 then.0) ∙ ap (λ bs. bs ++ then.0) first.2 ∙ append_assoc bytes next.ahead then.0 ∙ ap (λ bs. bytes ++ bs) then.2 ∙ sym (append_assoc bytes more to.ahead),
)

-- a chain of reads hands on what they gave, in order
pub handed-in-order : (from to : AheadOf) (answers : List ReadAnswer) → Leads Fills from answers to → HandsOn from (flat_map given answers) to
handed-in-order from to [] led = subst (HandsOn from []) led (HandsOn-none from)
handed-in-order from to (a ∷ more) led = HandsOn-more from led.0 to (given a) (flat_map given more) led.1 (handed-in-order led.0 to more led.2)

-- the calls of a chain of writes moved what these took, in order
pub moved-in-order : (from to : TapeOf) (answers : List WriteAnswer) → Leads Puts from answers to → Moves from (flat_map took answers) to
moved-in-order from to [] led = subst (Moves from []) led (Moves-none from)
moved-in-order from to (a ∷ more) led = Moves-more from led.0 to led.1 (moved-in-order led.0 to more led.2)

-- where nothing was ahead and no call was made, no byte is given
pub nothing-made-up : (socket : ℤ) (byte : ℕ) → Fills (unread socket) (Gave (byte ∷ [])) (unread socket) → ⊥
nothing-made-up socket byte fills =
    let none : fills.0 ≡ [] = sym fills.1.2 ∙ ap moved (sym (ap (λ (t : TapeOf). t.calls) fills.1.1)) in
    subst IsEmpty (sym none ∙ fills.2) tt
