-- A site's file is checked for a certificate that stands twice (`checks::repeated_certificate`): at each turn, none
-- passed so far stands twice.
use Rattle.std.proofs.Common.{◌≡◌, drop}
use Rattle.site_file.specs.Checks.{repeated_certificate}
use Rattle.site_file.proofs.checks.repeated_certificate.Given as goal

-- none of those before stands twice
abbrev pub invariant-loop-place : goal.invariant-loop-place
invariant-loop-place l = repeated_certificate (drop l.place l.keys) ≡ repeated_certificate l.keys
