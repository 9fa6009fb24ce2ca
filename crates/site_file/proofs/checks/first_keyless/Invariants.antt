-- A site's file is checked for a customer without a key (`checks::first_keyless`): at each turn, all customers passed
-- so far have a key.
use Rattle.std.proofs.Common.{◌≡◌, drop}
use Rattle.site_file.specs.Checks.{first_keyless}
use Rattle.site_file.proofs.checks.first_keyless.Given as goal

-- all before have a key
abbrev pub invariant-loop-number : goal.invariant-loop-number
invariant-loop-number l = first_keyless (drop l.number l.customers) l.number l.keys ≡ first_keyless l.customers 0 l.keys
