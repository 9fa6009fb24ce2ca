-- The one worker of `solve` (`worker::own_step`): what it offers is a worker's step or a Spend.
use Rattle.solve_engine.proofs.Common.{IfSome, sym, subst, IsWork}
use Rattle.solve_engine.proofs.Staying.{held-work}
use Rattle.solve_engine.proofs.worker.own_step.Goals as goal

pub returns : goal.returns
returns c = subst (λ offer. IfSome offer (λ step. IsWork step)) (sym c.step.ensures) (held-work c.args.worker c.args.held.now)
