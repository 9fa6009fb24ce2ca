-- Rows of a session's TABLE lines: what the table of one ASK of the opening is, and that no other job has one.
use Rattle.session.proofs.Common.{◌≡◌, Some, subst, digits, squares, IsTable, Asked, opening_board}
use Rattle.session.proofs.rows.a_table_is_of_what_was_asked.Goals as goal

-- what is there is what was asked
same : (a b : Asked) → Some a ≡ Some b → b ≡ a
same a b h = cc h

pub returns : goal.returns
unfolding digits squares
returns c = record {
  opening = λ analysis h. subst (λ a. IsTable a.depth a.board analysis.bounds) (same (record { board = opening_board; depth = 1 }) h.asked h.is) h.table;
  unasked = λ analysis h. absurd (cc h.is);
}
