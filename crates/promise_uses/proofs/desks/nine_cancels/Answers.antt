-- A use of the desk's `cancel` (`nine_cancels`): tenant 9's cancel, taken, ends the history with its Cancel; refused,
-- it leaves tenant and share.
use Rattle.promise_uses.proofs.Common.{ℕ, Cancel, SearchStep}
use Rattle.promise_uses.proofs.Parts.{taken-nine, refused-nine, kept-of, share-of}
use Rattle.promise_uses.proofs.desks.nine_cancels.Goals as goal

pub returns-clause-taken : goal.returns-clause-taken
returns-clause-taken g c there =
    let step : ℕ → SearchStep = λ n. Cancel n c.args.job in
    taken-nine g.L.DeskLedger.begun _ _ step _ _ c.requires.nine (c.cancel.ensures.told there)

pub returns-clause-refused : goal.returns-clause-refused
returns-clause-refused g c there =
    let step : ℕ → SearchStep = λ n. Cancel n c.args.job in
    refused-nine g.L.DeskLedger.begun _ _ step _ _ c.requires.nine (c.cancel.ensures.told there)

pub returns-clause-kept : goal.returns-clause-kept
returns-clause-kept g c = kept-of c.args.seat.now c.cancel.new.seat c.cancel.result c.cancel.ensures.share c.requires.nine

pub returns-clause-share : goal.returns-clause-share
returns-clause-share g c = share-of c.args.seat.now c.cancel.new.seat c.cancel.result c.cancel.ensures.share
