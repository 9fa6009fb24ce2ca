-- A list's guesses of places (`Guesses::guess`): what is guessed is what was put down last in the number's entry.
use Rattle.std.proofs.Common.{◌<◌, length, arith}
use Rattle.numbered_list.proofs.Places.{masked, guessed}
use Rattle.numbered_list.proofs.table.Guesses.guess.Goals as goal

pub returns : goal.returns
returns g c =
    let places = c.self.inside.places.items in
    let e = masked c.args.number c.self.inside.mask (length places) c.self.invariant.0 c.self.invariant.1 in
    let some : 0 < length places = omega (arith, c.self.invariant.0) in
    rw (← c.self.view_is) (guessed places c.args.number c.index.result.now some (rw e at c.index.ensures))
