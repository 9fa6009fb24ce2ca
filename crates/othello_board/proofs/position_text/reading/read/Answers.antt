-- A position's text is read (`reading::read`): what is read is the position that it spells, or its first fault.
use Rattle.othello_board.proofs.PositionText.Common.{◌∙◌, refl, sym, arith}
use Rattle.othello_board.proofs.PositionText.Readings.{spells-seen, ok-exactly}
use Rattle.othello_board.proofs.position_text.reading.read.Goals as goal

pub returns-clause-ok : goal.returns-clause-ok
returns-clause-ok c =
    spells-seen _ c.in_ok-discs.discs.black c.in_ok-discs.discs.white c.seen_by-board.result c.in-Some.side
    (omega arith) c.in_ok-discs.ensures.ok c.in_ok-discs.discs.disjoint
    c.seen_by-board.ensures.black c.seen_by-board.ensures.white
    (omega arith) (sym c.side_spelled.ensures ∙ c.in-Some.is) _ refl refl

pub returns-clause-exact : goal.returns-clause-exact
returns-clause-exact c =
    ok-exactly _ (record { board = c.seen_by-board.result; side = c.in-Some.side }) c.seen_by-board.ensures.fits (returns-clause-ok c)
