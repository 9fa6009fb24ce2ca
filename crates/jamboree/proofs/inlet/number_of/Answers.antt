-- A search's inlet (`inlet::number_of`): the number of the child's choice is at most 64.
use Rattle.jamboree.proofs.Common.{arith, board, choices-fit, child-told, frame_in}
use Rattle.jamboree.proofs.inlet.number_of.Goals as goal

pub returns-clause-small : goal.returns-clause-small
returns-clause-small c =
    let f = frame_in c.args.frame.now in
    omega (arith, (child-told f (frame_in c.args.child.now) c.requires).2, choices-fit (board f))
