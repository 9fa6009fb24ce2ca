-- A server's session cancels a job (`cancel` of `DeskOffice`): the call is one of an office at its desk.
use Rattle.desk_office.proofs.Common.{OfficeOf}
use Rattle.desk_office.proofs.TurnLemmas.{cancel-turn}
use Rattle.desk_office.proofs.office.DeskOfficeOffice.cancel.Goals as goal

pub returns-in-Some : goal.returns-in-Some
returns-in-Some g c =
    let from : OfficeOf = record { seat = c.args.self.now.seat; knew = c.args.self.now.knew } in
    let told = c.cancel.ensures in
    cancel-turn g.L.DeskLedger.begun from c.in-Some.seat c.cancel.new.seat c.args.job c.cancel.result c.in-Some.is told.share told.none told.told told.refused
