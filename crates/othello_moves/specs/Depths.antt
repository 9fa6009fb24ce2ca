-- Meaning: how many plies deep an Othello board may be searched.
use Rattle.std.specs.Prelude.{ℕ}

-- the greatest depth to which a board may be searched, in plies
abbrev pub greatest_depth : ℕ
greatest_depth = 12
