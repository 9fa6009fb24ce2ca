-- A site's session is told its budget (`inform` of `SiteOffice`): its customer, its desk and its seat stay, but for
-- what the seat knows of what the book granted.
use Rattle.site_office.proofs.Common.{subst, ◌∙◌, IsSameSeat}
use Rattle.site_office.proofs.office.SiteOfficeAccessControl.inform.Goals as goal

pub returns : goal.returns
returns g c =
    let first = c.hear_any.ensures in
    let second = c.amounts.ensures in
    (subst (λ s. IsSameSeat s c.amounts.new.self.seat) first.same_seat second.seat, second.same_who ∙ first.same_who, second.same_desk.0 ∙ first.same_desk.0, second.same_desk.1 ∙ first.same_desk.1)
