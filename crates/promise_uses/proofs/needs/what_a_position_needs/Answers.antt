-- A use of the law on positions (`what_a_position_needs`): what suffices for one meets each frame's inequality.
use Rattle.promise_uses.proofs.Common.{arith}
use Rattle.promise_uses.proofs.needs.what_a_position_needs.Goals as goal

pub returns-clause-nodes : goal.returns-clause-nodes
returns-clause-nodes c = let is = c.positions_suffice.ensures.nodes 6 in (is.0, λ narrow b. is.1.choices 9 narrow b (omega arith), λ b. is.1.narrow 9 b, λ b. is.2 8 b)

pub returns-clause-segments : goal.returns-clause-segments
returns-clause-segments c = let is = c.positions_suffice.ensures.segments 6 in (is.0, λ b. is.1.choices 9 b (omega arith), λ b. is.1.some 9 b, λ b. is.2 8 b)
