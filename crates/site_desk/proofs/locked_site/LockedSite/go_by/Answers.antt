-- A site's desk goes on by another plan (`LockedSite::go_by`): the hall stays, and hall and book are still in step.
use Rattle.site_desk.proofs.Common.{◌≡◌, ◌++◌, ◌∷◌, [], ℕ, List, None, refl, rules, ap, sym, ◌∙◌, subst, taken, Replans, AreHeld, BookEvent, BookOf, IsBookBy, IsBooked, IsFirstOf, IsListed, IsReplannedBy, Known, PlanOf, SiteOf}
use Rattle.site_book.specs.Books.{why_not_replan}
use Rattle.site_desk.proofs.Granting.{one-more}
use Rattle.site_desk.proofs.Holding.{held-replan}
use Rattle.site_desk.proofs.locked_site.LockedSite.go_by.Goals as goal

pub invariant_of-self : goal.invariant_of-self
invariant_of-self g c =
    let i = c.self.invariant in
    let was = c.self.inside in
    let plan = c.args.plan in
    let why = subst (λ (s : SiteOf). why_not_replan s.booked.book plan ≡ None) (sym c.self.view_is) c.requires in
    let same : plan ≡ c.in-Replans.plan = (let e = c.in-Replans.is in cc) in
    let m = c.begin-books.result.known.maker in
    let entries = ap (λ l. l.entries) c.add.ensures.history ∙ ap (λ l. l.entries ++ (m, Replans plan) ∷ []) c.begin-books.ensures.history in
    let went : c.replan.new.self ≡ taken was.book (Replans plan) = c.replan.ensures.book ∙ ap (λ (p : PlanOf). taken was.book (Replans p)) (sym same) in
    let booked : IsBooked was.noted.hall (taken was.book (Replans plan)) = search rules in (
      subst (λ b. IsBooked was.noted.hall b) (sym went) booked,
      subst (λ b. IsListed b was.roll) (sym went) i.1,
      i.2,
      i.3,
      i.4,
      subst (λ es. IsBookBy (g.J.SiteNaming.plan was.at) es c.replan.new.self) (sym entries) (one-more _ _ _ _ _ _ i.5 why went),
      ap (λ l. l.id) c.add.ensures.history ∙ (ap (λ l. l.id) c.begin-books.ensures.history ∙ i.6),
      subst (λ es. AreHeld es c.replan.new.self) (sym entries) (held-replan _ _ _ m i.7 plan went),
    )

pub returns-clause-taken : goal.returns-clause-taken
returns-clause-taken g c =
    let was = c.self.inside in
    let plan = c.args.plan in
    let m = c.begin-books.result.known.maker in
    let entries = ap (λ l. l.entries) c.add.ensures.history ∙ ap (λ l. l.entries ++ (m, Replans plan) ∷ []) c.begin-books.ensures.history in
    let maker : c.add.new.token.known.maker ≡ m = ap (λ (k : Known BookEvent). k.maker) c.add.ensures.token in
    let same : c.in-Replans.plan ≡ plan = (let e = c.in-Replans.is in cc) in
    let went = c.replan.ensures.book ∙ ap (λ (p : PlanOf). taken was.book (Replans p)) same in
    let before : SiteOf = record { at = was.at; booked = record { hall = was.noted.hall; book = was.book }; events = was.events.entries; roll = was.roll; shares = was.shares; left = was.left } in
    let after : SiteOf = record before { booked = record { hall = was.noted.hall; book = c.replan.new.self }; events = c.add.new.self.entries } in
    let is : after ≡ record before { booked = record before.booked { book = taken before.booked.book (Replans plan) }; events = before.events ++ (m, Replans plan) ∷ [] } = λ i. record before { booked = record { hall = was.noted.hall; book = went i }; events = entries i } in
    subst (λ (x : SiteOf × ℕ). after ≡ record x.0 { booked = record x.0.booked { book = taken x.0.booked.book (Replans plan) }; events = x.0.events ++ (x.1, Replans plan) ∷ [] }) (λ i. (c.self.view_is i, sym maker i)) is

pub returns-clause-told : goal.returns-clause-told
returns-clause-told g c =
    let was = c.self.inside in
    let plan = c.args.plan in
    let named = g.J.SiteNaming.plan was.at in
    let m = c.begin-books.result.known.maker in
    let log = was.events.entries in
    let event = Replans plan in
    let entries = ap (λ l. l.entries) c.add.ensures.history ∙ ap (λ l. l.entries ++ (m, event) ∷ []) c.begin-books.ensures.history in
    let mine = ap (λ (l : List BookEvent). l ++ event ∷ []) c.begin-books.ensures.seen.1 in
    let known : Known BookEvent = record { maker = m; seen = log ++ (m, event) ∷ []; mine = event ∷ [] } in
    let is : c.add.new.token.known ≡ known = c.add.ensures.token ∙ (λ i. record { maker = m; seen = entries i; mine = mine i }) in
    let why = subst (λ (s : SiteOf). why_not_replan s.booked.book plan ≡ None) (sym c.self.view_is) c.requires in
    let granted = (one-more named log was.book (taken was.book event) m event c.self.invariant.5 why refl).1 in
    let first : IsFirstOf named event known = record { before = log; seen = refl; unmade = c.begin-books.ensures.fresh; mine = refl; granted = granted } in
    let by : IsReplannedBy named plan was.book.plan known = (first, ap (λ (b : BookOf). b.plan) c.self.invariant.5.0) in
    let here = subst (λ (k : Known BookEvent). IsReplannedBy named plan was.book.plan k) (sym is) by in
    let left = subst (λ p. IsReplannedBy named plan p c.add.new.token.known) (sym c.replan.ensures.plan) here in
    subst (λ (s : SiteOf). (was.at ≡ s.at) × IsReplannedBy (g.J.SiteNaming.plan s.at) plan c.replan.result c.add.new.token.known) c.self.view_is (refl, left)
