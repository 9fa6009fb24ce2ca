-- A use of the desk's `ask` (`nine_asks_in_vain`): the 257th ask of tenant 9 is refused, and nothing changes.
use Rattle.promise_uses.proofs.Parts.{no-more}
use Rattle.promise_uses.proofs.desks.nine_asks_in_vain.Goals as goal

pub returns-clause-refused : goal.returns-clause-refused
returns-clause-refused g c = no-more c.args.seat.now c.ask.new.seat _ c.ask.result c.ask.ensures.asked c.requires
