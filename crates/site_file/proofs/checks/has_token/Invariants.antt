-- A site's file is checked for a customer's token (`checks::has_token`): at each turn, no key passed so far is the
-- customer's.
use Rattle.std.proofs.Common.{◌≡◌, drop}
use Rattle.site_file.specs.Checks.{has_token}
use Rattle.site_file.proofs.checks.has_token.Given as goal

-- none of those before is the customer's
abbrev pub invariant-loop-key : goal.invariant-loop-key
invariant-loop-key l = has_token l.number (drop l.key-index l.keys) ≡ has_token l.number l.keys
