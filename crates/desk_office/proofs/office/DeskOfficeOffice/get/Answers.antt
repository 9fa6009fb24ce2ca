-- A server's session asks how a job stands (`get` of `DeskOffice`): the call is one of an office at its desk.
use Rattle.desk_office.proofs.Common.{OfficeOf}
use Rattle.desk_office.proofs.TurnLemmas.{get-turn}
use Rattle.desk_office.proofs.office.DeskOfficeOffice.get.Goals as goal

pub returns-in-Some : goal.returns-in-Some
returns-in-Some g c =
    let from : OfficeOf = record { seat = c.args.self.now.seat; knew = c.args.self.now.knew } in
    let told = c.get_seen.ensures in
    get-turn g.L.DeskLedger.begun from c.in-Some.seat c.get_seen.new.seat c.args.job c.get_seen.result c.told_answer.result c.in-Some.is told.look told.shown told.told c.told_answer.ensures
