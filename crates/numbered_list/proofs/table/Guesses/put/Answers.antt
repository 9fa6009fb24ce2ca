-- A list's guesses of places (`Guesses::put`): the number's entry then has the place, and a place below 2^32 is
-- guessed as it is.
use Rattle.std.proofs.Common.{◌<◌, length, arith, refl}
use Rattle.numbered_list.proofs.Places.{masked, low-bits, found-again}
use Rattle.numbered_list.proofs.table.Guesses.put.Goals as goal

pub returns-clause-put : goal.returns-clause-put
returns-clause-put g c =
    let e = masked c.args.number c.self.inside.mask (length c.self.inside.places.items) c.self.invariant.0 c.self.invariant.1 in
    rw (e, low-bits c.args.place) (rw c.self.view_is refl)

pub returns-clause-found : goal.returns-clause-found
returns-clause-found g c small =
    let places = c.self.inside.places.items in
    let e = masked c.args.number c.self.inside.mask (length places) c.self.invariant.0 c.self.invariant.1 in
    let some : 0 < length places = omega (arith, c.self.invariant.0) in
    rw (e, low-bits c.args.place) (found-again places c.args.number c.args.place some small)
