-- A text is written by as many calls as it takes (`output::write_text`): at each turn, the bytes so far are written.
-- It ends, as each call takes one at least.
use Rattle.line_io.proofs.Common.{length, ◌-◌, ◌≤◌}
use Rattle.line_io.proofs.Written.{Sent}
use Rattle.line_io.proofs.output.write_text.Given as goal

abbrev pub invariant-loop-sent : goal.invariant-loop-sent
invariant-loop-sent g l =
    record { within : l.sent ≤ length l.bytes; sent : Sent g.K.Sink.takes l.initial.sink l.bytes l.sent l.sink }

abbrev pub decreases-loop-sent : goal.decreases-loop-sent
decreases-loop-sent g l = length l.bytes - l.sent
