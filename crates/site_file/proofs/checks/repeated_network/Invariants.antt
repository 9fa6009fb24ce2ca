-- A site's file is checked for a network that stands twice (`checks::repeated_network`): at each turn, none passed so
-- far stands twice.
use Rattle.std.proofs.Common.{◌≡◌, drop}
use Rattle.site_file.specs.Checks.{repeated_network}
use Rattle.site_file.proofs.checks.repeated_network.Given as goal

-- none of those before stands twice
abbrev pub invariant-loop-place : goal.invariant-loop-place
invariant-loop-place l = repeated_network (drop l.place l.keys) ≡ repeated_network l.keys
