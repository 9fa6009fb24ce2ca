-- A use of a site's `ask` (`a_session_asks_in_vain`): the 257th ask of a session is refused, and nothing changes.
use Rattle.promise_uses.proofs.Parts.{no-more}
use Rattle.promise_uses.proofs.sites.a_session_asks_in_vain.Goals as goal

pub returns-clause-refused : goal.returns-clause-refused
returns-clause-refused g c = no-more c.args.seat.now.seat c.ask.new.seat.seat _ c.ask.result c.ask.ensures.asked c.requires
