-- A site finds the customer of an address (`keys::closest`): at each turn, the closest network so far or one of those
-- left is the closest of all.
use Rattle.std.proofs.Common.{◌≡◌, drop}
use Rattle.site_file.specs.Keys.{closer, closest}
use Rattle.site_file.proofs.keys.closest.Given as goal

-- the closest so far and that of the rest give the closest of all
abbrev pub invariant-loop-key : goal.invariant-loop-key
invariant-loop-key l = closer l.best (closest l.address (drop l.key-index l.keys)) ≡ closest l.address l.keys
