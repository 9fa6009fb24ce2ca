-- A line of `solve --visited` (`solving::visited_line`): its answer has the defined value and move, and a number.
use Rattle.solve_engine.proofs.Common.{ap, ap₂, ◌∙◌, rules, w32, to_z-of_z, SFits, visited_text, question_answer, solved_with_count}
use Rattle.solve_engine.proofs.solving.visited_line.Goals as goal

pub returns-in-Ok-clause-text : goal.returns-in-Ok-clause-text
returns-in-Ok-clause-text c =
    let found = c.search_full-found in
    let fits : SFits w32 found.result.score = search rules in (
      found.result.visited,
      c.visited_text.ensures.text
          ∙ ap (λ v. visited_text v found.result.choice found.result.visited) (to_z-of_z w32 found.result.score fits)
          ∙ ap₂ (λ v m. visited_text v m found.result.visited) found.ensures.score found.ensures.choice
          ∙ ap (question_answer (solved_with_count found.result.visited)) c.in-Ok.ensures,
    )
