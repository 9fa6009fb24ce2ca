-- A use of the desk's `compare` (`two_sessions`): what two sessions have seen is of one history.
use Rattle.promise_uses.proofs.Common.{◌≡◌, List, ℕ, sym, subst, IsPrefix, own, SearchStep}
use Rattle.promise_uses.proofs.Parts.{seen-by}
use Rattle.promise_uses.proofs.desks.two_sessions.Goals as goal

pub returns-clause-begin : goal.returns-clause-begin
returns-clause-begin g c =
    let told = c.compare.ensures in
    (told.one.0, subst (λ (l : List (ℕ × SearchStep)). IsPrefix c.args.other.now.seen l) (sym told.history) told.other.0)

pub returns-clause-own : goal.returns-clause-own
returns-clause-own g c =
    let told = c.compare.ensures in
    (seen-by c.args.one.now c.compare.new.one told.one, subst (λ (l : List (ℕ × SearchStep)). own c.args.other.now.maker l ≡ c.args.other.now.mine) (sym told.history) (seen-by c.args.other.now c.compare.new.other told.other))
