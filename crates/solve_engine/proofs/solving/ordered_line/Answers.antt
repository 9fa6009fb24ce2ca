-- A line of `solve --ordered` (`solving::ordered_line`): its answer is the defined text.
use Rattle.solve_engine.proofs.Common.{ap, ap₂, ◌∙◌, rules, w32, to_z-of_z, SFits, value_text, question_answer, solved}
use Rattle.solve_engine.proofs.solving.ordered_line.Goals as goal

pub returns-in-Ok-clause-text : goal.returns-in-Ok-clause-text
returns-in-Ok-clause-text c =
    let found = c.search_ordered_full-found in
    let fits : SFits w32 found.result.score = search rules in
    c.value_text.ensures.text
    ∙ ap (λ v. value_text v found.result.choice) (to_z-of_z w32 found.result.score fits)
    ∙ ap₂ value_text found.ensures.score found.ensures.choice
    ∙ ap (question_answer solved) c.in-Ok.ensures
