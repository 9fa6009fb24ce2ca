-- A hall gets a new history (`NotedHall::new`): it has come by it from itself, by no step.
use Rattle.desk.proofs.Common.{refl, ap}
use Rattle.desk.proofs.Coming.{come-begun}
use Rattle.desk.proofs.noted_hall.NotedHall.new.Goals as goal

pub returns-clause-come : goal.returns-clause-come
returns-clause-come g c = rw (ap (λ l. l.entries) c.into_log.ensures) (come-begun c.args.hall c.args.hall refl c.count-count.ensures.explained)
