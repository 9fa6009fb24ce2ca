-- Answers for read: what came stands behind what was ahead.
use Rattle.std.proofs.Common.{◌∙◌, ◌+◌, slice_range}
use Rattle.tcp_server.proofs.AheadLemmas.{put-length, reads-behind}
use Rattle.tcp_server.proofs.taped.socket.TapedReader.read.Goals as goal
use Rattle.tcp_server.proofs.taped.socket.TapedReader.read.Goals.{in-Ok, in-Err}

pub returns-clause-came : goal.returns-clause-came
returns-clause-came c =
    let s = c.self.inside in
    elim c.match-read_taped.branch [
      | in-Ok w ↦
          rw (w.result-is, w.self-inside-is) (
            slice_range c.read_taped.new.block s.end (s.end + w.in-Ok.count),
            put-length c.read_taped.new.block s.end w.in-Ok.count w.in-Ok.ensures.bound,
            reads-behind c.read_taped.new.block s.block s.start s.end w.in-Ok.count c.self.invariant.0 w.in-Ok.ensures.bound c.read_taped.ensures.kept (c.self.view_is ∙ c.begin_anew.ensures) w.in-Ok.ensures.noted,
          )
      | in-Err w ↦ rw w.result-is tt
    ]
