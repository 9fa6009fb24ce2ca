-- A site's file is searched for the key of a network (`checks::same_network`): at each turn, no key passed so far is
-- of this network.
use Rattle.std.proofs.Common.{◌≡◌, drop}
use Rattle.site_file.specs.Checks.{same_network}
use Rattle.site_file.proofs.checks.same_network.Given as goal

-- none of those before is the network
abbrev pub invariant-loop-key : goal.invariant-loop-key
invariant-loop-key l = same_network l.network (drop l.key-index l.keys) ≡ same_network l.network l.keys
