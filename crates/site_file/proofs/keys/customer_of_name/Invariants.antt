-- A site finds the customer of a certificate (`keys::customer_of_name`): at each turn, no certificate passed so far
-- has this name.
use Rattle.std.proofs.Common.{◌≡◌, drop}
use Rattle.site_file.specs.Keys.{customer_of_name}
use Rattle.site_file.proofs.keys.customer_of_name.Given as goal

-- the customer is that of the rest
abbrev pub invariant-loop-key : goal.invariant-loop-key
invariant-loop-key l = customer_of_name l.name (drop l.key-index l.keys) ≡ customer_of_name l.name l.keys
