-- A line of `solve` (`solving::solve_line`): its answer is the defined text, or that of fault 19 where memory was
-- refused.
use Rattle.solve_engine.proofs.Common.{ap, ap₂, ◌∙◌, true, false, rules, w32, to_z-of_z, SFits, value_text, error_text, question_answer, solved_unless}
use Rattle.solve_engine.proofs.solving.solve_line.Goals as goal

pub returns-in-Ok-solve_by_core-clause-text : goal.returns-in-Ok-solve_by_core-clause-text
returns-in-Ok-solve_by_core-clause-text g c =
    let found = c.in-Ok-solve_by_core in
    let fits : SFits w32 found.found.answer.value = search rules in (
      false,
      c.value_text.ensures.text
          ∙ ap (λ v. value_text v found.found.answer.choice) (to_z-of_z w32 found.found.answer.value fits)
          ∙ ap₂ value_text found.ensures.value found.ensures.choice
          ∙ ap (question_answer (solved_unless false)) c.in-Ok.ensures,
    )

pub returns-in-Err-solve_by_core-clause-text : goal.returns-in-Err-solve_by_core-clause-text
returns-in-Err-solve_by_core-clause-text g c =
    (true, c.error_text.ensures.text ∙ ap error_text c.number.ensures ∙ ap (question_answer (solved_unless true)) c.in-Ok.ensures)

pub returns-in-Err-clause-text : goal.returns-in-Err-clause-text
returns-in-Err-clause-text g c =
    (false, c.error_text-in-Err.ensures.text ∙ ap error_text c.number-in-Err.ensures ∙ ap (question_answer (solved_unless false)) c.in-Err.ensures)
