-- Of searches: each frame that is computed has an answer that it can take, so the law `a_computed_frame_has_an_answer`.
use Rattle.onward.proofs.Answers.{answer-to, frames-answered}
use Rattle.onward.proofs.a_computed_frame_has_an_answer.Goals as goal

pub returns-clause-leaf : goal.returns-clause-leaf
returns-clause-leaf c = answer-to

pub returns-clause-frames : goal.returns-clause-frames
returns-clause-frames c = frames-answered
