-- What the definitions of a site's desk come to, part by part.
use Rattle.promise_uses.proofs.Common.{refl, ◌≡◌, sym, subst, ◌++◌, ◌∷◌, [], ℕ, List, Result, Ok, Err, OnOk, ap, ◌∙◌, own, Known, HallOf, SeatOf, AdmitMore, SearchStep, ReserveOf}
use Rattle.promise_uses.proofs.Parts.{taken-nine}
use Rattle.site_book.specs.declared.refusal.BookRefusal.{BookRefusal}
use Rattle.site_book.specs.Plans.{PlanOf}
use Rattle.site_book.specs.declared.event.BookEvent.{BookEvent}
use Rattle.site_book.specs.declared.who.Who.{Who}
use Rattle.desk.specs.Histories.{Saw}
use Rattle.std.proofs.lemmas.Bool.{eq-eqb, false≢true, ne_eqb}
use Rattle.std.specs.Prelude.{Bool, true, false, ◌&&◌, ◌==◌, ◌≢◌, Option, Some, None, is_some}
use Rattle.site_desk.specs.Entries.{IsEntry, IsNewSeat}
use Rattle.site_desk.specs.Seats.{IsRaiseTold, SiteSeatOf}
use Rattle.site_desk.specs.declared.entry.SeatOutcome.{SeatOutcome}
use Rattle.site_desk.specs.declared.entry.SeatOutcome.TheVariants.{Seated}
use Rattle.site_desk.specs.declared.turned.Turned.{Turned}
use Rattle.site_desk.specs.declared.turned.Turned.TheVariants.{ByBook, OldTenant, OutOfMemory}

-- who is seated has a new seat
pub entered : (begun : HallOf) (plan : PlanOf) (at : ℕ) (who : Who) (ask : ReserveOf) (entry : SeatOutcome SiteSeatOf) (came : SiteSeatOf) → IsEntry begun plan at who ask entry → entry ≡ Seated came → IsNewSeat begun plan at who ask came
entered begun plan at who ask entry came is seated = subst (λ e. IsEntry begun plan at who ask e) seated is

-- how a raise of what tenant 9 reserves was answered
module _ (begun : HallOf) (before after : SeatOf) (ask : ReserveOf) where
  pub raised-nine : (r : Result (Unit {0}) Turned) → before.tenant ≡ 9 → IsRaiseTold begun before ask r after →
      OnOk r ((between : List (ℕ × SearchStep)) × (after.known.seen ≡ (before.known.seen ++ between) ++ (before.known.maker, AdmitMore 9 ask) ∷ [])
      × (own before.known.maker (before.known.seen ++ between) ≡ before.known.mine) × (after.known.mine ≡ before.known.mine ++ AdmitMore 9 ask ∷ [])
      × (after.known.maker ≡ before.known.maker))
  raised-nine (Ok done) nine told = taken-nine begun before.known after.known (λ n. AdmitMore n ask) before.tenant (Ok done) nine told.1
  raised-nine (Err refusal) nine told = tt

  pub raised-by-book : (r : Result (Unit {0}) Turned) (refusal : BookRefusal) → IsRaiseTold begun before ask r after → r ≡ Err (ByBook refusal) → after ≡ before
  raised-by-book r refusal told is = rw is at told

  pub raised-kept : (r : Result (Unit {0}) Turned) → before.tenant ≡ 9 → IsRaiseTold begun before ask r after → (after.asked ≡ before.asked) × (after.tenant ≡ 9)
  raised-kept (Ok done) nine told = (ap (λ (s : SeatOf). s.asked) told.0, ap (λ (s : SeatOf). s.tenant) told.0 ∙ nine)
  raised-kept (Err (ByBook refusal)) nine told = (ap (λ (s : SeatOf). s.asked) told, ap (λ (s : SeatOf). s.tenant) told ∙ nine)
  raised-kept (Err OldTenant) nine told = absurd told
  raised-kept (Err OutOfMemory) nine told = (ap (λ (s : SeatOf). s.asked) told.0, ap (λ (s : SeatOf). s.tenant) told.0 ∙ nine)

-- two traces of one desk are of it
pub both-here : (a b n : ℕ) (r : Bool) → r ≡ (a == n && (b == n)) → a ≡ n → b ≡ n → r ≡ true
both-here a b n r is one other = is ∙ (λ i. eq-eqb a n one i && (eq-eqb b n other i))

-- a maker's events in what it has seen, by what it knew before
pub book-seen-by : (before now : Known BookEvent) → Saw before now → own before.maker now.seen ≡ before.mine
book-seen-by before now saw = ap (λ (m : ℕ). own m now.seen) (sym saw.3) ∙ saw.1 ∙ saw.2

-- a session leaves exactly where the seat is one of the desk
pub always-left : {X : Type 0} (left : Option X) (a b : ℕ) → is_some left ≡ (a == b) → a ≡ b → left ≢ None
always-left left a b is here none = false≢true (sym (ap is_some none) ∙ is ∙ eq-eqb a b here)

not-left : {X : Type 0} (left : Option X) → is_some left ≡ false → left ≡ None
not-left None is = refl
not-left (Some x) is = absurd (false≢true (sym is))

pub never-left : {X : Type 0} (left : Option X) (a b : ℕ) → is_some left ≡ (a == b) → a ≢ b → left ≡ None
never-left left a b is apart = not-left left (is ∙ ne_eqb a b apart)
