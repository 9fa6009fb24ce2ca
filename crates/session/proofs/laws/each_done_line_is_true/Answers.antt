-- Of a session's DONE lines: each has the minimax value of what was asked, so the law `each_done_line_is_true`.
use Rattle.session.proofs.TrueCalls.{true-session}
use Rattle.session.proofs.laws.each_done_line_is_true.Goals as goal

pub returns : goal.returns
returns g c = λ asks keeps source source' sink sink' office office' r new session. true-session g.O.Office.does asks keeps new session
