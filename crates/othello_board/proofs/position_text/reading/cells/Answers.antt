-- A position's text is read (`reading::cells`): the next byte gives its square's mark (a disc or a blank), or is
-- the first that spells none.
use Rattle.othello_board.proofs.PositionText.Common.{refl, sym, ◌∙◌}
use Rattle.othello_board.proofs.PositionText.ReadingLemmas.{one-more, held-spelled}
use Rattle.othello_board.proofs.position_text.reading.cells.Goals as goal

pub returns-in_default-clause-err : goal.returns-in_default-clause-err
returns-in_default-clause-err c = (
  c.loop-square.square,
  refl,
  record {
    len = c.requires;
    within = c.loop-square-test.true;
    unspelled = sym c.spelled.ensures ∙ c.in_default.is;
    before = held-spelled _ _ _ _ c.loop-square.invariant;
  },
)

pub loop-square-preserved : goal.loop-square-preserved
loop-square-preserved c =
    one-more _ _ _ _ _ _ c.in-Some.mark c.loop-square.invariant (sym c.spelled.ensures ∙ c.in-Some.is)
    c.with-discs.ensures.here c.with-discs.ensures.black c.with-discs.ensures.white
