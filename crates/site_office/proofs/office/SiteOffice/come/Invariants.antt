-- A site's session waits for a seat (`SiteOffice::come`): at each turn of the wait, customer, desk and seat are as
-- before.
use Rattle.site_office.proofs.Common.{◌≡◌}
use Rattle.site_office.proofs.office.SiteOffice.come.Given as goal

abbrev pub invariant-loop : goal.invariant-loop
invariant-loop g l =
    (l.self.seat ≡ l.initial.self.seat) × (l.self.who ≡ l.initial.self.who) × (l.self.desk ≡ l.initial.self.desk) × (l.self.knew ≡ l.initial.self.knew)
