-- A server's session asks for a search (`ask` of `DeskOffice`): the call is one of an office at its desk, by the
-- question of its line.
use Rattle.desk_office.proofs.Common.{OfficeOf}
use Rattle.desk_office.proofs.TurnLemmas.{ask-turn}
use Rattle.desk_office.proofs.office.DeskOfficeOffice.ask.Goals as goal

pub returns-in-Some : goal.returns-in-Some
returns-in-Some g c =
    let from : OfficeOf = record { seat = c.args.self.now.seat; knew = c.args.self.now.knew } in
    let asked = c.args.question.now in
    let told = c.ask.ensures in
    ask-turn g.L.DeskLedger.begun from c.in-Some.seat c.ask.new.seat asked.position.board asked.depth asked.position.side c.ask.result c.in-Some.is asked.shallow told.asked told.full told.told told.refused
