-- A server's session waits for a job (`wait` of `DeskOffice`): the call is one of an office at its desk.
use Rattle.desk_office.proofs.Common.{OfficeOf}
use Rattle.desk_office.proofs.TurnLemmas.{wait-turn}
use Rattle.desk_office.proofs.office.DeskOfficeOffice.wait.Goals as goal

pub returns-in-Some : goal.returns-in-Some
returns-in-Some g c =
    let from : OfficeOf = record { seat = c.args.self.now.seat; knew = c.args.self.now.knew } in
    let told = c.wait_seen.ensures in
    wait-turn g.L.DeskLedger.begun from c.in-Some.seat c.wait_seen.new.seat c.args.job c.wait_seen.result c.told_answer.result c.in-Some.is told.look told.shown told.told c.told_answer.ensures
