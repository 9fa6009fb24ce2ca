-- Of a site's book: only an idle guest goes for one who comes, so the law `only_idle_guests_go_for_another`.
use Rattle.site_book.proofs.Common.{idlest}
use Rattle.site_book.proofs.ComingLemmas.{ends-idle, idlest-there, idle-parts}
use Rattle.site_book.proofs.laws.only_idle_guests_go_for_another.Goals as goal

pub returns : goal.returns
returns c = λ plan grants roll who ask now most session refusal is.
    (let ended = ends-idle _ _ _ (idlest now most roll) session refusal is in
    let found = idlest-there now most roll ended.present ended.is in
    let parts = idle-parts now most ended.present found.1 in
    (ended.present, found.0, ended.number, parts.guest, parts.told, parts.waits, parts.silent))
