-- A site finds the customer of a token (`keys::customer_of_digest`): at each turn, no token passed so far has this
-- digest.
use Rattle.std.proofs.Common.{◌≡◌, drop}
use Rattle.site_file.specs.Keys.{customer_of_digest}
use Rattle.site_file.proofs.keys.customer_of_digest.Given as goal

-- the customer is that of the rest
abbrev pub invariant-loop-key : goal.invariant-loop-key
invariant-loop-key l = customer_of_digest l.digest (drop l.key-index l.keys) ≡ customer_of_digest l.digest l.keys
