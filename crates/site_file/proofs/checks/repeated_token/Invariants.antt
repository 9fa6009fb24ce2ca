-- A site's file is checked for a token that stands twice (`checks::repeated_token`): at each turn, none passed so far
-- stands twice.
use Rattle.std.proofs.Common.{◌≡◌, drop}
use Rattle.site_file.specs.Checks.{repeated_token}
use Rattle.site_file.proofs.checks.repeated_token.Given as goal

-- none of those before stands twice
abbrev pub invariant-loop-place : goal.invariant-loop-place
invariant-loop-place l = repeated_token (drop l.place l.keys) ≡ repeated_token l.keys
