-- A list of searches on a new core (`running::run_from_new`): the headline holds of it, and the core's jobs are then
-- what the taken Submits asked for.
use Rattle.jamboree_core.proofs.Common.{ℕ, ap, subst, Jamboree, IsHeadlineInFull, submitted_by}
use Rattle.jamboree_core.proofs.Serving.{headline-from-new, core-serves}
use Rattle.jamboree_core.proofs.running.run_from_new.Goals as goal

pub returns-clause-headline : goal.returns-clause-headline
returns-clause-headline g c =
    let told = c.in_ok-run_searches.ensures.headline in
    let grain = ap (λ (p : Jamboree). p.grain) c.in_ok-core.ensures.procedure in
    let P : ℕ → Type 0 = λ n. IsHeadlineInFull n c.in_ok-core.core.shared c.args.steps.now told.0 c.run_searches.new.core.shared in
    let both = headline-from-new _ c.args.config _ c.args.steps.now told.0 _ c.in_ok-core.ensures.empty c.requires (subst P grain told.2) in
    (told.0, told.1, both.0, both.1)

pub returns-clause-serves : goal.returns-clause-serves
returns-clause-serves g c number =
    let told = returns-clause-headline g c in
    core-serves (submitted_by c.args.steps.now told.0) c.run_searches.new.core.shared number told.3
