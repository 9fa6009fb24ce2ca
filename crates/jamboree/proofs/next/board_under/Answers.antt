-- A search's next act (`next::board_under`): the child's board is its parent's after the choice.
use Rattle.jamboree.proofs.Common.{arith, frame_with}
use Rattle.jamboree.proofs.ActLemmas.{child-opens}
use Rattle.jamboree.proofs.next.board_under.Goals as goal

pub returns : goal.returns
returns c grain others entries phase =
    let b = c.after.result in
    child-opens grain (frame_with c.args.frame.now entries) (frame_with c.args.parent.now others) b.own b.opp c.choice-chosen.result phase
    c.choice-chosen.ensures.value c.after.ensures (omega arith) (omega arith) b.disjoint
