-- A hall with its history admits a tenant (`NotedHall::admit`): the history ends with the Admit, which is all that the
-- new seat has made.
use Rattle.desk.proofs.Common.{rules, ◌≡◌, ◌<◌, ◌++◌, ◌∷◌, [], List, sym, ap, ◌∙◌, subst, refl, arith, length, Admit, tenant_in-new, Known, HasCome, IsSeated}
use Rattle.desk.proofs.Owners.{Step}
use Rattle.desk.proofs.Coming.{come-admitted, new-unused}
use Rattle.desk.proofs.noted_hall.NotedHall.admit.Goals as goal

pub invariant_of-result : goal.invariant_of-result
invariant_of-result g c =
    let t = c.next_tenant-tenant.result in
    let mine : c.add.new.token.known.mine ≡ Admit t c.args.reserve ∷ [] =
    ap (λ (k : Known Step). k.mine) c.add.ensures.token ∙ ap (λ (l : List Step). l ++ Admit t c.args.reserve ∷ []) c.begin-token.ensures.seen.1 in
    (rw mine (c.args.reserve, [], refl, (refl, refl, tt)), rw mine (refl, tt))

pub returns-clause-come : goal.returns-clause-come
returns-clause-come g c = λ begun come.
    let after = c.offer.new.self in
    let t = c.next_tenant-tenant.result in
    let m = c.begin-token.result.known.maker in
    let here = subst (HasCome begun) (sym c.self.view_is) come in
    let is = ap (λ l. l.entries) c.add.ensures.history ∙ ap (λ l. l.entries ++ (m, Admit t c.args.reserve) ∷ []) c.begin-token.ensures.history in
    let o = c.in_ok-offer.ensures in
    rw is (come-admitted c.self.inside.hall here after m t c.args.reserve c.in_ok-offer.field-0 c.next_tenant-tenant.ensures.value o.one o.taken o.newest o.explained)

pub returns-clause-told : goal.returns-clause-told
returns-clause-told g c = λ begun come.
    let here = subst (HasCome begun) (sym c.self.view_is) come in
    let log = c.self.inside.log.entries in
    let t = c.next_tenant-tenant.result in
    let number = c.next_tenant-tenant.ensures.value in
    let m = c.begin-token.result.known.maker in
    let step : Step = Admit t c.args.reserve in
    let seen = ap (λ l. l.entries) c.add.ensures.history ∙ ap (λ l. l.entries ++ (m, step) ∷ []) c.begin-token.ensures.history in
    let mine = ap (λ (l : List Step). l ++ step ∷ []) c.begin-token.ensures.seen.1 in
    let known : Known Step = record { maker = m; seen = log ++ (m, step) ∷ []; mine = step ∷ [] } in
    let is : c.add.new.token.known ≡ known = c.add.ensures.token ∙ (λ i. record { maker = m; seen = seen i; mine = mine i }) in
    let unused = new-unused c.self.inside.hall here t number in
    let later = here.later in
    let above : begun.shared.newest < t = omega (arith, later, number) in (
      subst (λ (k : Known Step). IsSeated c.args.reserve (record { tenant = t; share = length k.mine; asked = c.new.result.items; known = k })) (sym is)
          (record { before = log; seen = refl; unused = unused; unmade = c.begin-token.ensures.fresh; mine = refl }),
      above,
      tenant_in-new begun.shared.newest t begun.shared.tenants above here.first,
    )

pub returns-clause-moved : goal.returns-clause-moved
returns-clause-moved g c =
    let o = c.in_ok-offer.ensures in
    let before = c.self.inside.hall in
    let number = c.next_tenant-tenant.ensures.value in
    let newest = o.newest in
    search rules
