-- The answer to a line of `solve` (`job::answer_in`): the job's reply, or the serial search's, is the minimax value
-- and the best choice.
use Rattle.solve_engine.proofs.Common.{◌∙◌, ap₂, rules, w32, to_z-of_z, SFits, minimax, best_choice}
use Rattle.solve_engine.proofs.Asking.{asked-serves, outcome-to, outcome-there, reply-of, reply-cells}
use Rattle.solve_engine.proofs.job.answer_in.Goals as goal

pub outcome_of-requires : goal.outcome_of-requires
outcome_of-requires g c = asked-serves _ c.args.core.now.shared c.requires.asked

pub unwrap-requires : goal.unwrap-requires
unwrap-requires g c =
    outcome-there _ c.outcome_of.result (outcome-to c.requires.there.1 c.requires.asked c.outcome_of.ensures.asked)

pub returns-in-Done-clause-value : goal.returns-in-Done-clause-value
returns-in-Done-clause-value g c =
    let to = outcome-to c.requires.there.1 c.requires.asked c.outcome_of.ensures.asked in
    let fits : SFits w32 c.value.result = search rules in
    let on = reply-of _ c.outcome_of.result c.unwrap.result c.in-Done.reply to c.unwrap.ensures c.in-Done.is in
    to_z-of_z w32 c.value.result fits ∙ c.value.ensures ∙ ap₂ minimax on.depth (reply-cells _ _ _ c.in-Done.reply on)

pub returns-in-Done-clause-choice : goal.returns-in-Done-clause-choice
returns-in-Done-clause-choice g c =
    let to = outcome-to c.requires.there.1 c.requires.asked c.outcome_of.ensures.asked in
    let on = reply-of _ c.outcome_of.result c.unwrap.result c.in-Done.reply to c.unwrap.ensures c.in-Done.is in
    c.choice.ensures ∙ ap₂ best_choice on.depth (reply-cells _ _ _ c.in-Done.reply on)
