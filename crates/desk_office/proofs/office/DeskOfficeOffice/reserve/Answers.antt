-- A server's session reserves more (`reserve` of `DeskOffice`): the call is one of an office at its desk.
use Rattle.desk_office.proofs.Common.{OfficeOf}
use Rattle.desk_office.proofs.TurnLemmas.{reserve-turn}
use Rattle.desk_office.proofs.office.DeskOfficeOffice.reserve.Goals as goal

pub returns-in-Some : goal.returns-in-Some
returns-in-Some g c =
    let from : OfficeOf = record { seat = c.args.self.now.seat; knew = c.args.self.now.knew } in
    let told = c.reserve.ensures in
    reserve-turn g.L.DeskLedger.begun from c.in-Some.seat c.reserve.new.seat c.args.reserve c.reserve.result c.in-Some.is told.share told.told told.refused
