-- The hall is offered a step (`Hall::offer`): jobs that have ended stay as they are, and BadAct isn't told of a step
-- that submits nothing.
use Rattle.hall.proofs.Halls.{ended-stays, none-bad}
use Rattle.hall.proofs.hall.Hall.offer.Goals as goal

pub returns-clause-ended : goal.returns-clause-ended
returns-clause-ended g c = ended-stays c.decide-answer.ensures.explained _ c.decide-answer.ensures.decided.one

pub returns-clause-bad_act : goal.returns-clause-bad_act
returns-clause-bad_act g c none = none-bad c.decide-answer.ensures.explained none c.decide-answer.ensures.decided.one
