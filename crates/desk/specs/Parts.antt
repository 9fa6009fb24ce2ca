-- Meaning: how many parts a desk's ledger has; who has all of them knows that no share of the count of steps is missing.
use Rattle.std.specs.Prelude.{ℕ}

-- all parts of a desk's ledger: 3 * 2 ^ 62
abbrev pub ledger_parts : ℕ
ledger_parts = 13835058055282163712
