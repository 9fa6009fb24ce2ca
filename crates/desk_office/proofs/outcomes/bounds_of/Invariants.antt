-- The table of a reply, for a session (`outcomes::bounds_of`): at each turn, the entries listed are the first of the
-- reply's.
use Rattle.desk_office.proofs.Common.{◌≡◌, take, table_of}
use Rattle.desk_office.proofs.outcomes.bounds_of.Given as goal

abbrev pub invariant-loop-number : goal.invariant-loop-number
invariant-loop-number l = l.bounds ≡ take l.number (table_of l.reply)
