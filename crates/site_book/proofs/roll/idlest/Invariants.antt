-- A site's roll of sessions finds the idlest guest (`roll::idlest`): at each turn, the better of the one so far and
-- the idlest of those left is the idlest of all.
use Rattle.site_book.proofs.Common.{◌≡◌, drop, idler, idlest}
use Rattle.site_book.proofs.roll.idlest.Given as goal

-- the idlest so far and that of the rest give the idlest of all
abbrev pub invariant-loop-present : goal.invariant-loop-present
invariant-loop-present l = idler l.best (idlest l.now l.most (drop l.present-index l.roll)) ≡ idlest l.now l.most l.roll
