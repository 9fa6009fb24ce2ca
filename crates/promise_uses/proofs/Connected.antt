-- What a connection of a site said, and how it was answered.
use Rattle.promise_uses.proofs.Common.{◌≡◌, ◌⊎◌, ℕ, List, [], ◌∷◌, ◌++◌, false, Option, Some, None, Result, Ok, Err, refl, sym, ap, ◌∙◌, subst, inl, inr, codes, concat, HallOf, ReserveOf, Known, seat_steps, steps_of, AreTaken, IsOneTenancy, NobodyCame, LineText, Whole, lines_of, LineFault, ReadAnswer, Ended, IsTalkEnd, bytes_due, write_result, is_bye, LineTurn, Call, Hello, Leave, OfficeReply, Gone, Welcome, Admit, LeaveStep, SearchStep, jamboree}
use Rattle.line_io.specs.Talks.{upto}
use Rattle.line_io.specs.Writes.{IsAnswered}
use Rattle.line_io.specs.declared.talking.TalkEnd.{TalkEnd}
use Rattle.line_io.specs.declared.talking.TalkEnd.TheVariants.{Input}
use Rattle.site_desk.specs.Seats.{SiteTraceOf}
use Rattle.site_office.specs.Sessions.{AreMixed, IsTenantAt}
use Rattle.promise_uses.proofs.Turned.{Entries, admit-and-leave}

-- where the input ended all lines were read and answered
pub all-read : (r : Result TalkEnd LineFault) (blocks : List (List ℕ)) (last : List ReadAnswer) (answered : List LineText) (texts : List (List ℕ)) (rest : List ℕ) → IsTalkEnd is_bye r (concat blocks) last →
    IsAnswered (write_result r) (upto is_bye (lines_of (bytes_due r (concat blocks)))) answered texts rest → r ≡ Ok Input → (last ≡ Ended ∷ []) × (answered ≡ upto is_bye (lines_of (concat blocks))) × (rest ≡ [])
all-read (Ok Input) blocks last answered texts rest ends are is = (ends.0, are.0, are.1)
all-read _ blocks last answered texts rest ends are is = absurd cc

abbrev ping : LineText
ping = Whole (codes "PING")

abbrev hello : LineText
hello = Whole (codes "HELLO 4 8 abc")

abbrev bare : LineText
bare = Whole (codes "HELLO 4 8")

-- what is said of the answers to both lines
abbrev IsAnsweredSo : List (List ℕ) → List LineText → Type 0
IsAnsweredSo texts own = (answer : List ℕ) × (texts ≡ codes "PONG" ∷ answer ∷ []) × ((own ≡ []) ⊎ (own ≡ bare ∷ []))

second : (texts : List (List ℕ)) (own : List LineText) (turned : List LineTurn) → AreMixed false (hello ∷ []) texts own turned → (answer : List ℕ) × (texts ≡ answer ∷ []) × ((own ≡ []) ⊎ (own ≡ bare ∷ []))
second [] own turned h = absurd h
second (text ∷ []) own turned (inl beside) = (text, refl, inl beside.1.0)
second (text ∷ []) own turned (inr its) = (text, refl, inr (its.4 ∙ ap (λ (l : List LineText). bare ∷ l) its.7.0))
second (text ∷ more ∷ texts) own turned (inl beside) = absurd beside.1
second (text ∷ more ∷ texts) own turned (inr its) = absurd its.7

first : (texts : List (List ℕ)) (own : List LineText) (turned : List LineTurn) → AreMixed false (ping ∷ hello ∷ []) texts own turned → IsAnsweredSo texts own
first [] own turned h = absurd h
first (text ∷ texts) own turned (inl beside) =
    let rest = second texts own turned beside.1 in
    (rest.0, (λ i. beside.0 i ∷ rest.1 i), rest.2)
first (text ∷ texts) own turned (inr its) = absurd its.3

pub ping-hello : (lines : List LineText) (texts : List (List ℕ)) (own : List LineText) (turned : List LineTurn) → lines ≡ ping ∷ hello ∷ [] → AreMixed false lines texts own turned → IsAnsweredSo texts own
ping-hello lines texts own turned are mixed = first texts own turned (subst (λ (ls : List LineText). AreMixed false ls texts own turned) are mixed)

module _ (begun : ℕ → HallOf) (calls : List (Call × OfficeReply)) where
  -- where there is no trace nobody came
  pub none-came : (knew : Option SiteTraceOf) → IsTenantAt begun calls knew → knew ≡ None → NobodyCame calls
  none-came knew is none = subst (λ (k : Option SiteTraceOf). IsTenantAt begun calls k) none is

  -- who came and left at once
  pub left-of : (quota : ReserveOf) (trace : SiteTraceOf) (knew : Option SiteTraceOf) → IsTenantAt begun calls knew → knew ≡ Some trace → calls ≡ (Hello quota, Welcome quota) ∷ (Leave, Gone) ∷ [] →
      (number : ℕ) × (before between : Entries)
      × (trace.known.seen ≡ ((before ++ (trace.known.maker, Admit number quota) ∷ []) ++ between) ++ (trace.known.maker, LeaveStep number) ∷ [])
      × (seat_steps number (steps_of between) ≡ [])
      × (seat_steps number (steps_of trace.known.seen) ≡ trace.known.mine)
      × AreTaken (jamboree (begun trace.at).grain) (begun trace.at).shared (steps_of trace.known.seen)
  left-of quota trace knew is knows are =
      let here : IsOneTenancy (begun trace.at) calls trace.known = subst (λ (k : Option SiteTraceOf). IsTenantAt begun calls k) knows is in
      let both = admit-and-leave (begun trace.at) quota calls (Some trace.known) trace.known here refl are in
      (both.0, both.1, both.2, both.3, both.4, both.5, here.true_to.0)
