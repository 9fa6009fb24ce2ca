-- Meaning: the count of computations (of leaves) of a pool's workers, and where it stays as it is.
use Rattle.std.specs.Prelude.{ℕ}
use Rattle.jamboree_rules.specs.declared.pool_rules.count.Computations.{Computations}

-- how many computations of leaves were begun in the pool
abbrev pub begun : Computations → ℕ
begun computations = computations.begun

-- the greatest u64: a count that has come to it stays there
abbrev pub greatest_count : ℕ
greatest_count = 18446744073709551615
