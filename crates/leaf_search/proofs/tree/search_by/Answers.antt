-- The serial search of a root (`tree::search_by`): at depth 0 too the score is a bound, and there is no choice.
use Rattle.leaf_search.proofs.Common.{◌≡◌, sym, ◌∙◌, ap, subst, arith, IfSome, Contains, ints, cells, choices, minimax, best_choice-leaf, Scored}
use Rattle.leaf_search.proofs.WindowLemmas.{exact-bound}
use Rattle.leaf_search.proofs.SerialLemmas.{searched-leaf, score-and-count}
use Rattle.leaf_search.specs.Serial.{searched}
use Rattle.leaf_search.proofs.tree.search_by.Goals as goal

pub returns-then-depth-gt0-clause-chosen : goal.returns-then-depth-gt0-clause-chosen
returns-then-depth-gt0-clause-chosen g c =
    subst (λ b. IfSome c.best_of.result.choice (Contains (choices (cells b)))) c.of-weighed.ensures c.best_of.ensures.chosen

pub returns-clause-bound : goal.returns-clause-bound
returns-clause-bound g c =
    let none : c.args.depth ≡ 0 = omega arith in
    let score_is : c.entered.result ≡ c.entered-2.result.score = omega (arith, ints, ap (λ (s : Scored). s.score) c.entered-2.ensures) in
    let value_is = ap (λ b. minimax 0 (cells b)) (sym c.of-weighed.ensures) ∙ sym c.entered.ensures.value in
    exact-bound _ _ _ _ (ap (λ d. minimax d (cells c.args.board)) none ∙ value_is ∙ score_is)

pub returns-clause-choice : goal.returns-clause-choice
returns-clause-choice g c higher lower =
    let none : c.args.depth ≡ 0 = omega arith in
    rw (c.entered-2.ensures, none) (sym (best_choice-leaf (cells c.args.board)))

pub returns-clause-specified : goal.returns-clause-specified
returns-clause-specified g c rules =
    let none : c.args.depth ≡ 0 = omega arith in
    let board = cells c.args.board in
    let score_is : c.entered.result ≡ c.entered-2.result.score = omega (arith, ints, ap (λ (s : Scored). s.score) c.entered-2.ensures) in
    let value_is = ap (λ b. minimax 0 (cells b)) (sym c.of-weighed.ensures) ∙ sym c.entered.ensures.value in
    ap (λ d. searched d board c.args.window.alpha c.args.window.beta) none ∙ searched-leaf board _ _
    ∙ score-and-count (value_is ∙ score_is) (sym (ap (λ (s : Scored). s.visited) c.entered-2.ensures))
