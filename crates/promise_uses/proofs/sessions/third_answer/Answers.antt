-- A use of the desk's session (`third_answer`): what is written is the answers to what was read, the third among them,
-- or a beginning of these.
use Rattle.promise_uses.proofs.Served.{serves-third}
use Rattle.promise_uses.proofs.sessions.third_answer.Goals as goal

pub returns : goal.returns
returns g c = serves-third _ _ _ _ _ _ _ c.serve_desk.ensures.lines
