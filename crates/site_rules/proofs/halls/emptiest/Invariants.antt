-- A guest's hall at a site is chosen (`halls::emptiest`): at each turn, the best so far and the halls left decide.
use Rattle.std.proofs.Common.{◌≡◌, drop}
use Rattle.site_rules.specs.Halls.{emptiest}
use Rattle.site_rules.proofs.halls.emptiest.Given as goal

abbrev pub invariant-loop-place : goal.invariant-loop-place
invariant-loop-place l = emptiest l.best l.most l.place (drop l.place l.rooms) ≡ emptiest 0 0 0 l.rooms
