-- Answers for note_call: the tape's one pass then knows one call more.
use Rattle.std.proofs.Common.{refl, ◌∷◌, [], ◌++◌}
use Rattle.atomic_table.specs.Table.{Act}
use Rattle.tcp_server.proofs.taped.note_call.Goals as goal

pub load-requires : goal.load-requires
load-requires g c =
    let me = c.tape.inside.pass.me in
    (c.tape.invariant.1, c.tape.invariant.0, λ s kept long at small. ((me.0.0, me.0.1 ++ g.C.TapedCall.call ∷ []), Act.keeps, tt, tt, refl))
