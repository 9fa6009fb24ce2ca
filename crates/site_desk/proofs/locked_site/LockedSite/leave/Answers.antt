-- A session leaves under the lock of a site's desk (`LockedSite::leave`): its tenant leaves the hall and its grant the
-- book, or neither, and both histories then end with that.
use Rattle.site_desk.proofs.Common.{◌≡◌, ◌+◌, ◌++◌, ◌∷◌, [], ℕ, List, Some, true, refl, AreHeld, BookEvent, BookOf, Grant, Who, is_open_by, Closes, IsBookBy, IsGrantedFrom, Known, sym, ap, ◌∙◌, subst, IsSome, Leave, Left, TookInHall, IsListed, grant_of, SiteOf, SiteSeatOf, IsSessionGone, IsTrueTo, Took, without_present}
use Rattle.site_desk.specs.Sharing.{unshared}
use Rattle.std.specs.Prelude.{◌%◌}
use Rattle.desk.specs.Traces.{own}
use Rattle.site_desk.proofs.Holding.{held-close}
use Rattle.site_desk.proofs.Keepings.{found-of, booked-leave}
use Rattle.site_desk.proofs.Granting.{added, one-more}
use Rattle.site_desk.proofs.Lists.{listed-close}
use Rattle.site_desk.specs.Booked.{IsEnd}
use Rattle.site_desk.proofs.locked_site.LockedSite.leave.Goals as goal

-- the book has the session that its seat holds open
abbrev IsThereOf : Who → ℕ → List (ℕ × BookEvent) → BookOf → ℕ → List BookEvent → Type 0
IsThereOf who n log book m mine = AreHeld log book → own m log ≡ mine → is_open_by who n mine ≡ true → (is_open_by who n (own m log) ≡ true) × ((held : Grant) × (grant_of who n book.grants ≡ Some held))

is-there : (who : Who) (n : ℕ) (log : List (ℕ × BookEvent)) (book : BookOf) (m : ℕ) (mine : List BookEvent) → IsThereOf who n log book m mine
is-there who n log book m mine held made open_now =
    let here = subst (λ es. is_open_by who n es ≡ true) (sym made) open_now in
    (here, found-of (grant_of who n book.grants) (held.there m who n here))

pub invariant_of-self : goal.invariant_of-self
invariant_of-self g c =
    let i = c.self.invariant in
    let was = c.self.inside in
    let who = c.seat.inside.who in
    let n = c.tenant-number.result in
    let begun = g.J.SiteNaming.begun was.at in
    let r = c.leave-token.ensures in
    let m = c.seat.inside.books.known.maker in
    let open_now = subst (λ k. is_open_by who k c.seat.inside.books.known.mine ≡ true) (sym c.tenant-number.ensures) c.seat.invariant.3 in
    let there = is-there who n was.events.entries was.book m _ c.self.invariant.7 c.add.ensures.own open_now in
    let found = there.1 in
    let took = subst (λ m. TookInHall was.noted.hall (Leave m) c.leave-token.new.self.hall) (sym c.tenant-number.ensures) (Left, r.step begun i.2) in (
      booked-leave was.noted.hall c.leave-token.new.self.hall was.book c.close.new.self who n found.0 i.0 found.1 took c.close.ensures,
      subst (λ roll. IsListed c.close.new.self roll) (sym c.leave.ensures) (listed-close was.book c.close.new.self was.roll who n i.1 c.close.ensures),
      r.come begun i.2,
      r.id.0 ∙ i.3,
      i.4,
      subst (λ es. IsBookBy (g.J.SiteNaming.plan was.at) es c.close.new.self) (sym (ap (λ l. l.entries) c.add.ensures.history)) (one-more _ _ _ _ _ _ i.5 refl c.close.ensures),
      ap (λ l. l.id) c.add.ensures.history ∙ i.6,
      subst (λ es. AreHeld es c.close.new.self) (sym (ap (λ l. l.entries) c.add.ensures.history)) (held-close _ _ _ m i.7 who n there.0 c.close.ensures),
    )

pub returns-clause-gone : goal.returns-clause-gone
returns-clause-gone g c =
    let i = c.self.invariant in
    let was = c.self.inside in
    let who = c.seat.inside.who in
    let n = c.tenant-number.result in
    let m = c.seat.inside.books.known.maker in
    let open_now = subst (λ k. is_open_by who k c.seat.inside.books.known.mine ≡ true) (sym c.tenant-number.ensures) c.seat.invariant.3 in
    let there = is-there who n was.events.entries was.book m _ c.self.invariant.7 c.add.ensures.own open_now in
    let found = there.1 in
    let took = subst (λ m. TookInHall was.noted.hall (Leave m) c.leave-token.new.self.hall) (sym c.tenant-number.ensures) (Left, c.leave-token.ensures.step (g.J.SiteNaming.begun was.at) i.2) in
    let left = (was.left + 1) % 18446744073709551616 in
    let before : SiteOf = record { at = was.at; booked = record { hall = was.noted.hall; book = was.book }; events = was.events.entries; roll = was.roll; shares = was.shares; left = was.left } in
    let after : SiteOf = record { at = was.at; booked = record { hall = c.leave-token.new.self.hall; book = c.close.new.self }; events = c.add.new.self.entries; roll = c.leave.new.self; shares = c.unshare.new.shares; left = left } in
    let goes : ℕ → SiteOf = λ n. record before { booked = after.booked; events = was.events.entries ++ (m, Closes who n) ∷ []; roll = without_present who n was.roll; shares = unshared n was.shares; left = left } in
    let same : after ≡ goes n = λ i. record before { booked = after.booked; events = (c.add.ensures.history i).entries; roll = c.leave.ensures i; shares = c.unshare.ensures i; left = left } in
    let gone = subst (λ n. IsEnd before.booked who n after.booked × (after ≡ goes n)) c.tenant-number.ensures ((subst IsSome (sym found.1) refl, c.close.ensures, took), same) in
    subst (λ (x : SiteOf × SiteSeatOf). IsSessionGone x.0 x.1 after) (λ i. (c.self.view_is i, c.seat.view_is i)) gone

pub returns-clause-told : goal.returns-clause-told
returns-clause-told g c =
    let was = c.self.inside in
    let seat = c.seat.inside in
    let known = c.leave-token.result.known in
    let told = c.leave-token.ensures.told (g.J.SiteNaming.begun was.at) c.self.invariant.2 in
    let here : seat.at ≡ was.at = ap (λ (s : SiteSeatOf). s.at) c.seat.view_is ∙ c.requires ∙ sym (ap (λ (s : SiteOf). s.at) c.self.view_is) in
    let true_to = subst (λ n. IsTrueTo (g.J.SiteNaming.begun n) seat.core.seat.tenant known) (sym here) told.1 in
    subst (λ (s : SiteSeatOf). (seat.at ≡ s.at) × Took s.seat.known (Leave s.seat.tenant) known × IsTrueTo (g.J.SiteNaming.begun s.at) s.seat.tenant known) c.seat.view_is (refl, told.0, true_to)

pub returns-clause-closed : goal.returns-clause-closed
returns-clause-closed g c =
    let was = c.self.inside in
    let seat = c.seat.inside in
    let n = c.tenant-number.result in
    let r = c.add.ensures in
    let more = ap (λ l. l.entries) r.history in
    let known = c.add.new.token.known in
    let here : seat.at ≡ was.at = ap (λ (s : SiteSeatOf). s.at) c.seat.view_is ∙ c.requires ∙ sym (ap (λ (s : SiteOf). s.at) c.self.view_is) in
    let took = added _ _ seat.books.known known (Closes seat.who n) r.seen r.own r.token more in
    let granted = (one-more _ _ _ c.close.new.self _ _ c.self.invariant.5 refl c.close.ensures).1 in
    let seen : known.seen ≡ was.events.entries ++ (seat.books.known.maker, Closes seat.who n) ∷ [] = ap (λ (k : Known BookEvent). k.seen) r.token ∙ more in
    let legal = subst (λ es. IsGrantedFrom (g.J.SiteNaming.plan was.at) es) (sym seen) granted in
    let legal' = subst (λ a. IsGrantedFrom (g.J.SiteNaming.plan a) known.seen) (sym here) legal in
    let took' = subst (λ m. Took seat.books.known (Closes seat.who m) known) c.tenant-number.ensures took in
    subst (λ (s : SiteSeatOf). Took s.books (Closes s.who s.seat.tenant) known × IsGrantedFrom (g.J.SiteNaming.plan s.at) known.seen) c.seat.view_is (took', legal')
