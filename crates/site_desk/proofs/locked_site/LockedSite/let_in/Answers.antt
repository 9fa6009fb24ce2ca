-- A session is let in under the lock of a site's desk (`LockedSite::let_in`): its tenant is in the hall and its grant
-- in the book, or neither.
use Rattle.site_desk.proofs.Common.{◌≡◌, ◌+◌, ◌≤◌, ◌++◌, ◌∷◌, [], ℕ, true, List, length, rules, is_open_by, refl, sym, ◌∙◌, subst, Some, ap, why_over, Admit, AreHeld, BookEvent, IsBookBy, IsOpened, Known, Opens, TookInHall, IsCame, IsListed, IsTurnedAway, SiteOf, turned_by}
use Rattle.site_desk.proofs.Granting.{one-more}
use Rattle.site_desk.proofs.Holding.{held-open, open-first}
use Rattle.site_desk.proofs.Keepings.{booked-admit, has-room, not-admitted, not-granted}
use Rattle.site_desk.proofs.Lists.{has-place, listed-open}
use Rattle.site_desk.proofs.Comings.{not-refused, turned-away}
use Rattle.site_desk.specs.declared.entry.SeatOutcome.TheVariants.{Turned as turned_away_as}
use Rattle.site_desk.proofs.locked_site.LockedSite.let_in.Goals as goal

pub returns-in-Some-clause-came : goal.returns-in-Some-clause-came
returns-in-Some-clause-came g c =
    let comer = c.args.comer.now in
    let why = subst (λ (s : SiteOf). why_over s.booked.book.plan comer.who comer.ask s.booked.book.grants ≡ Some c.in-Some.refusal) c.self.view_is (sym c.why_not_open.ensures.why ∙ c.in-Some.is) in
    absurd (not-refused c.args.self.now comer c.in-Some.refusal c.requires why)

pub enter-requires : goal.enter-requires
enter-requires g c =
    let was = c.self.inside in
    let comer = c.args.comer.now in
    has-place was.book c.open.new.self was.roll comer.who c.tenant-number.result comer.ask c.self.invariant.1 c.open.ensures (subst (λ gs. length gs ≤ 64) c.grants-grants.ensures.grants c.grants-grants.ensures.few)

pub invariant_of-self : goal.invariant_of-self
invariant_of-self g c =
    let i = c.self.invariant in
    let r = c.in-Ok.ensures in
    let was = c.self.inside in
    let comer = c.args.comer.now in
    let n = c.tenant-number.result in
    let number : n ≡ was.noted.hall.shared.newest + 1 = c.tenant-number.ensures ∙ r.seat.1 in
    let m = c.begin-books.result.known.maker in
    let event = Opens comer.who n comer.ask in
    let entries = ap (λ l. l.entries) c.add.ensures.history ∙ ap (λ l. l.entries ++ (m, event) ∷ []) c.begin-books.ensures.history in
    let took = subst (λ m. TookInHall was.noted.hall (Admit m comer.ask) c.admit.new.self.hall) (sym number) r.step in (
      booked-admit was.noted.hall c.admit.new.self.hall was.book c.open.new.self comer.who n comer.ask i.0 number took c.open.ensures,
      subst (λ roll. IsListed c.open.new.self roll) (sym c.enter.ensures) (listed-open was.book c.open.new.self was.roll comer.who n comer.at comer.ask i.1 c.open.ensures),
      r.come (g.J.SiteNaming.begun was.at) i.2,
      r.id ∙ i.3,
      i.4,
      subst (λ es. IsBookBy (g.J.SiteNaming.plan was.at) es c.open.new.self) (sym entries) (one-more _ _ _ _ m event i.5 (sym c.why_not_open.ensures.why ∙ c.in_default.is) c.open.ensures),
      ap (λ l. l.id) c.add.ensures.history ∙ (ap (λ l. l.id) c.begin-books.ensures.history ∙ i.6),
      subst (λ es. AreHeld es c.open.new.self) (sym entries) (held-open _ _ _ m i.7 comer.who n comer.ask (not-granted was.noted.hall was.book comer.who n i.0 number) c.open.ensures),
    )

pub invariant_of-result : goal.invariant_of-result
invariant_of-result g c =
    let comer = c.args.comer.now in
    let n = c.tenant-number.result in
    let event = Opens comer.who n comer.ask in
    let mine : c.add.new.token.known.mine ≡ event ∷ [] = ap (λ (k : Known BookEvent). k.mine) c.add.ensures.token ∙ ap (λ (l : List BookEvent). l ++ event ∷ []) c.begin-books.ensures.seen.1 in
    let open_now : is_open_by comer.who c.in-Ok.core.seat.tenant c.add.new.token.known.mine ≡ true =
    subst (λ (x : ℕ × List BookEvent). is_open_by comer.who x.0 x.1 ≡ true) (λ i. (c.tenant-number.ensures i, sym mine i)) (open-first comer.who n comer.ask) in
    search rules

pub returns-in-Ok-clause-entry : goal.returns-in-Ok-clause-entry
returns-in-Ok-clause-entry g c =
    let was = c.self.inside in
    let comer = c.args.comer.now in
    let n = c.tenant-number.result in
    let seat = c.in-Ok.ensures.seat in
    let told = c.in-Ok.ensures.told (g.J.SiteNaming.begun was.at) c.self.invariant.2 in
    let plan = g.J.SiteNaming.plan was.at in
    let m = c.begin-books.result.known.maker in
    let log = was.events.entries in
    let event = Opens comer.who n comer.ask in
    let entries = ap (λ l. l.entries) c.add.ensures.history ∙ ap (λ l. l.entries ++ (m, event) ∷ []) c.begin-books.ensures.history in
    let mine = ap (λ (l : List BookEvent). l ++ event ∷ []) c.begin-books.ensures.seen.1 in
    let known : Known BookEvent = record { maker = m; seen = log ++ (m, event) ∷ []; mine = event ∷ [] } in
    let is : c.add.new.token.known ≡ known = c.add.ensures.token ∙ (λ i. record { maker = m; seen = entries i; mine = mine i }) in
    let granted = (one-more plan log was.book c.open.new.self m event c.self.invariant.5 (sym c.why_not_open.ensures.why ∙ c.in_default.is) c.open.ensures).1 in
    let opened : IsOpened plan comer.who n comer.ask known = record { before = log; seen = refl; unmade = c.begin-books.ensures.fresh; mine = refl; granted = granted } in
    let here = subst (λ (k : Known BookEvent). IsOpened plan comer.who n comer.ask k) (sym is) opened in
    rw (← c.self.view_is) (record { whose = refl; where_at = refl; unasked = seat.3; share = seat.2; admitted = told.0; new = told.2; opened = subst (λ n. IsOpened plan comer.who n comer.ask c.add.new.token.known) c.tenant-number.ensures here })

pub returns-in-Err-clause-came : goal.returns-in-Err-clause-came
returns-in-Err-clause-came g c =
    let was = c.self.inside in
    let comer = c.args.comer.now in
    let reason = turned_by c.in-Err.refusal in
    let after : SiteOf = record { at = was.at; booked = record { hall = c.admit.new.self.hall; book = was.book }; events = was.events.entries; roll = was.roll; shares = was.shares; left = was.left } in
    let room = has-room was.noted.hall was.book comer.ask c.self.invariant.0 c.in_default.ensures.few c.in_default.ensures.room in
    let away = not-admitted was.noted.hall c.admit.new.self.hall was.book comer.who comer.ask c.in-Err.refusal (sym c.why_not_open.ensures.why ∙ c.in_default.is) room c.in-Err.ensures.step in
    let here = subst (λ (s : SiteOf). IsTurnedAway s.booked comer.who comer.ask reason after.booked) c.self.view_is away in
    let same = ap (λ (s : SiteOf). record s { booked = after.booked }) c.self.view_is in
    subst (λ t. IsCame c.args.self.now comer (turned_away_as t) after) (sym c.turned_by.ensures)
    (turned-away c.args.self.now after comer reason c.requires here same)
