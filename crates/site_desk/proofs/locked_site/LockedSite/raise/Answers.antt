-- A session reserves more under the lock of a site's desk (`LockedSite::raise`): in the hall and in the book, or in
-- neither, as both histories say.
use Rattle.site_desk.proofs.Common.{◌≡◌, ◌++◌, ◌∷◌, [], ℕ, List, true, rules, BookEvent, Known, is_open_by, Ok, Err, ap, Took, Raises, sym, ◌∙◌, subst, AdmitMore, AreHeld, IsBookBy, TookInHall, BookedOf, IsDecided, IsRaise, IsRaiseTold, SiteOf, SiteSeatOf, turned_by}
use Rattle.desk.specs.Seats.{SeatOf}
use Rattle.site_desk.proofs.Keepings.{MayRaise, may-raise, booked-raise, not-raised, not-raised-told}
use Rattle.site_desk.proofs.Granting.{added, one-more}
use Rattle.site_desk.proofs.Holding.{held-raise, open-raised}
use Rattle.site_desk.proofs.Lists.{listed-raise}
use Rattle.site_desk.proofs.locked_site.LockedSite.raise.Goals as goal

pub invariant_of-self : goal.invariant_of-self
invariant_of-self g c =
    let i = c.self.invariant in
    let r = c.in-Ok.ensures in
    let was = c.self.inside in
    let who = c.seat.inside.who in
    let n = c.tenant-number.result in
    let ask = c.args.ask in
    let may = may-raise was.noted.hall was.book who n ask i.0 (sym c.why_not_raise.ensures.why ∙ c.in_default.is) c.in_default.ensures.room in
    let took = subst (λ m. TookInHall was.noted.hall (AdmitMore m ask) c.reserve.new.self.hall) (sym c.tenant-number.ensures) r.step in (
      booked-raise was.noted.hall c.reserve.new.self.hall was.book c.raise.new.self who n ask may.held i.0 may.found took c.raise.ensures,
      listed-raise was.book c.raise.new.self was.roll who n ask i.1 c.raise.ensures,
      r.come (g.J.SiteNaming.begun was.at) i.2,
      r.id.0 ∙ i.3,
      i.4,
      subst (λ es. IsBookBy (g.J.SiteNaming.plan was.at) es c.raise.new.self) (sym (ap (λ l. l.entries) c.add.ensures.history)) (one-more _ _ _ _ _ _ i.5 (sym c.why_not_raise.ensures.why ∙ c.in_default.is) c.raise.ensures),
      ap (λ l. l.id) c.add.ensures.history ∙ i.6,
      subst (λ es. AreHeld es c.raise.new.self) (sym (ap (λ l. l.entries) c.add.ensures.history)) (held-raise _ _ _ _ i.7 who n ask c.raise.ensures),
    )

pub invariant_of-seat : goal.invariant_of-seat
invariant_of-seat g c =
    let seat = c.seat.inside in
    let n = c.tenant-number.result in
    let ask = c.args.ask in
    let was = seat.books.known.mine in
    let mine : c.add.new.token.known.mine ≡ was ++ Raises seat.who n ask ∷ [] = ap (λ (k : Known BookEvent). k.mine) c.add.ensures.token in
    let same = c.tenant-number.ensures ∙ sym (ap (λ (s : SeatOf). s.tenant) c.in-Ok.ensures.share) in
    let raised = open-raised seat.who n ask was (subst (λ k. is_open_by seat.who k was ≡ true) (sym c.tenant-number.ensures) c.seat.invariant.3) in
    let open_now : is_open_by seat.who c.reserve.new.seat.seat.tenant c.add.new.token.known.mine ≡ true =
    subst (λ (x : ℕ × List BookEvent). is_open_by seat.who x.0 x.1 ≡ true) (λ i. (same i, sym mine i)) raised in
    search rules

pub returns-in-Ok-clause-raise : goal.returns-in-Ok-clause-raise
returns-in-Ok-clause-raise g c =
    let was = c.self.inside in
    let who = c.seat.inside.who in
    let ask = c.args.ask in
    let hall' = c.reserve.new.self.hall in
    let before : BookedOf = record { hall = was.noted.hall; book = was.book } in
    let after : BookedOf = record { hall = hall'; book = c.raise.new.self } in
    let none = sym c.why_not_raise.ensures.why ∙ c.in_default.is in
    let took = subst (λ m. TookInHall was.noted.hall (AdmitMore m ask) hall') (sym c.tenant-number.ensures) c.in-Ok.ensures.step in
    let raised = subst (λ m. IsRaise before who m ask (Ok tt) after) c.tenant-number.ensures (none, c.raise.ensures, took) in
    subst (λ (x : SiteOf × SiteSeatOf). IsRaise x.0.booked x.1.who x.1.seat.tenant ask (Ok tt) after) (λ i. (c.self.view_is i, c.seat.view_is i)) raised

pub returns-in-Ok-clause-told : goal.returns-in-Ok-clause-told
returns-in-Ok-clause-told g c =
    let begun = g.J.SiteNaming.begun in
    let r = c.in-Ok.ensures in
    subst (λ (x : SiteOf × SiteSeatOf). IsRaiseTold (begun x.0.at) x.1.seat c.args.ask (Ok tt) c.reserve.new.seat.seat) (λ i. (c.self.view_is i, c.seat.view_is i)) (r.share, r.told (begun c.self.inside.at) c.self.invariant.2)

pub returns-in-Ok-clause-granted : goal.returns-in-Ok-clause-granted
returns-in-Ok-clause-granted g c =
    let seat = c.seat.inside in
    let n = c.tenant-number.result in
    let ask = c.args.ask in
    let r = c.add.ensures in
    let known = c.add.new.token.known in
    let took = added _ _ seat.books.known known (Raises seat.who n ask) r.seen r.own r.token (ap (λ l. l.entries) r.history) in
    let took' = subst (λ m. Took seat.books.known (Raises seat.who m ask) known) c.tenant-number.ensures took in
    subst (λ (s : SiteSeatOf). Took s.books (Raises s.who s.seat.tenant ask) known) c.seat.view_is took'

pub returns-in-Err-clause-raise : goal.returns-in-Err-clause-raise
returns-in-Err-clause-raise g c =
    let was = c.self.inside in
    let who = c.seat.inside.who in
    let n = c.tenant-number.result in
    let ask = c.args.ask in
    let hall = was.noted.hall in
    let hall' = c.reserve.new.self.hall in
    let before : BookedOf = record { hall = hall; book = was.book } in
    let after : BookedOf = record { hall = hall'; book = was.book } in
    let none = sym c.why_not_raise.ensures.why ∙ c.in_default.is in
    let may = may-raise hall was.book who n ask c.self.invariant.0 none c.in_default.ensures.room in
    let refusal = c.in-Err.refusal in
    let decided = subst (λ m. IsDecided hall (AdmitMore m ask) (Err refusal) hall') (sym c.tenant-number.ensures) c.in-Err.ensures.step in
    let away = not-raised hall hall' was.book who n ask refusal none may decided in
    let refused = subst (λ m. IsRaise before who m ask (Err (turned_by refusal)) after) c.tenant-number.ensures away in
    subst (λ (x : SiteOf × SiteSeatOf). IsRaise x.0.booked x.1.who x.1.seat.tenant ask (Err c.turned_by.result) after) (λ i. (c.self.view_is i, c.seat.view_is i)) (rw c.turned_by.ensures refused)

pub returns-in-Err-clause-told : goal.returns-in-Err-clause-told
returns-in-Err-clause-told g c =
    let was = c.self.inside in
    let who = c.seat.inside.who in
    let core = c.seat.inside.core.seat in
    let n = c.tenant-number.result in
    let ask = c.args.ask in
    let now = c.reserve.new.seat.seat in
    let begun = g.J.SiteNaming.begun in
    let r = c.in-Err.ensures in
    let none = sym c.why_not_raise.ensures.why ∙ c.in_default.is in
    let may = may-raise was.noted.hall was.book who n ask c.self.invariant.0 none c.in_default.ensures.room in
    let may' = subst (λ m. MayRaise was.noted.hall was.book who m ask) c.tenant-number.ensures may in
    let refused = not-raised-told was.noted.hall c.reserve.new.self.hall was.book (begun was.at) who core now ask c.in-Err.refusal may' r.step r.share (r.told (begun was.at) c.self.invariant.2) in
    subst (λ (x : SiteOf × SiteSeatOf). IsRaiseTold (begun x.0.at) x.1.seat ask (Err c.turned_by.result) now) (λ i. (c.self.view_is i, c.seat.view_is i)) (rw c.turned_by.ensures refused)
