-- Of a site's session: no tenant stays after it, so the law `nobody_stays`.
use Rattle.site_office.proofs.Common.{◌≡◌, sym, ◌∙◌, site_request, SiteComes, site_relations}
use Rattle.site_office.proofs.HandlerLemmas.{chain-holds, leaves, site-turned}
use Rattle.site_office.proofs.laws.nobody_stays.Goals as goal

pub returns : goal.returns
returns g c = λ here called met paid informed from to source source' sink sink' office r none early talk gone.
    let does = g.O.Office.does in
    let access = g.O.AccessControl in
    let y = talk.lines in
    let knows = chain-holds (SiteComes (site_relations does access.greets access.pays access.informs)) (λ a. here a.office ≡ a.seated)
    (λ a line text b h e. site-turned does access.greets access.pays access.informs here called met paid informed (site_request a.seated line) a.office a.seated text b.office b.seated h e)
    from y.answered y.texts to y.answers_lead (none ∙ sym early) in
    leaves does access.greets access.pays access.informs here called met paid informed to.seated to.office office gone knows
