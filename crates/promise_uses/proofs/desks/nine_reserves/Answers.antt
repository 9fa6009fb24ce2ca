-- A use of the desk's `reserve` (`nine_reserves`): tenant 9's raise, taken, ends the history with its AdmitMore;
-- refused, it leaves tenant and share.
use Rattle.promise_uses.proofs.Common.{ℕ, AdmitMore, SearchStep}
use Rattle.promise_uses.proofs.Parts.{taken-nine, refused-nine, kept-of, share-of}
use Rattle.promise_uses.proofs.desks.nine_reserves.Goals as goal

pub returns-clause-taken : goal.returns-clause-taken
returns-clause-taken g c =
    let step : ℕ → SearchStep = λ n. AdmitMore n c.args.reserve in
    taken-nine g.L.DeskLedger.begun _ _ step _ _ c.requires.nine c.reserve.ensures.told

pub returns-clause-refused : goal.returns-clause-refused
returns-clause-refused g c =
    let step : ℕ → SearchStep = λ n. AdmitMore n c.args.reserve in
    refused-nine g.L.DeskLedger.begun _ _ step _ _ c.requires.nine c.reserve.ensures.told

pub returns-clause-kept : goal.returns-clause-kept
returns-clause-kept g c = kept-of c.args.seat.now c.reserve.new.seat c.reserve.result c.reserve.ensures.share c.requires.nine

pub returns-clause-share : goal.returns-clause-share
returns-clause-share g c = share-of c.args.seat.now c.reserve.new.seat c.reserve.result c.reserve.ensures.share
