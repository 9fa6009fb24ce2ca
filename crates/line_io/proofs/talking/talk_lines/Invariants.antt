-- A talk is answered line by line (`talk_lines`): at each turn, the lines of all bytes so far are answered, and none
-- of them ends the talk.
use Rattle.line_io.proofs.Talks.{TalkingSoFar}
use Rattle.line_io.proofs.talking.talk_lines.Given as goal

abbrev pub invariant-loop : goal.invariant-loop
invariant-loop g l =
    TalkingSoFar g.A.Ends.ends g.S.Source.gives g.K.Sink.takes g.A.LineAnswerer.answers l.initial.source l.initial.sink l.initial.answerer l.source l.sink l.answerer l.cutter
