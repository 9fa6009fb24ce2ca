-- One step on a core of searches (`running::step_search`): the jobs stay searches, and BadAct is told of a Submit
-- alone.
use Rattle.jamboree_core.proofs.Replying.{search-fits}
use Rattle.jamboree_core.proofs.Possible.{answer-none-bad}
use Rattle.jamboree_core.proofs.Serving.{after-asked}
use Rattle.jamboree_core.proofs.running.step_search.Goals as goal

pub returns-clause-searching : goal.returns-clause-searching
returns-clause-searching g c origins core search = record {
  fits = c.step.ensures.fitting origins core.fits (λ ok. search-fits c.args.step.now (search ok));
  asked = λ number. after-asked number origins c.args.step.now c.step.result core.asked search;
}

pub returns-clause-bad_act : goal.returns-clause-bad_act
returns-clause-bad_act g c origins core none =
    answer-none-bad c.args.core.now.procedure.grain origins c.args.core.now.shared c.args.step.now c.step.result c.step.ensures.kept_before.shaped core.fits none c.step.ensures.one.answered
