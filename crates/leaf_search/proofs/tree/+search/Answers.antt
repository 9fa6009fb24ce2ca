-- The serial search (`tree::search`): the scores of a board and of the choices below it are bounds of their minimax
-- values, and in the rules' order those of the specified search.
use Rattle.leaf_search.proofs.Common.{rules, ◌≡◌, neg_ℤ, negsuc, ◌-◌, sym, ◌∙◌, ap, arith, int_max, ints, clamps, cells, goes_down, final_value, choices, choice_value, minimax, Counted, minimax-deeper, minimax-over}
use Rattle.leaf_search.proofs.WindowLemmas.{child-of, Searched-start, Searched-next, Searched-turn, Searched-cut, Searched-bound, Searched-real, exact-bound, some-rearranged, none-rearranged}
use Rattle.leaf_search.proofs.SerialLemmas.{child-found, searched-leaf, searched-over, IsInTurn-start, IsInTurn-next, IsInTurn-cut, IsInTurn-end, score-and-count}
use Rattle.leaf_search.specs.Serial.{searched}
use Rattle.leaf_search.proofs.tree.+search.Goals as goal

pub score_of-search_below-child-requires : goal.score_of-search_below-child-requires
score_of-search_below-child-requires g t c =
    let here = Searched-next c.loop-choice.invariant.0 c.in-Some.ensures in
    let deep = ap (λ p. c.args.depth - p) c.plies.ensures.value in
    let below = c.args.depth - c.plies.result in
    let down = goes_down c.args.depth below (cells c.args.board) (cells c.after.result.board) c.in-Some.choice here c.after.ensures c.requires.deep deep in
    search rules

pub score_of-after-requires : goal.score_of-after-requires
score_of-after-requires g t c = Searched-next c.loop-choice.invariant.0 c.in-Some.ensures

pub score_of-returns-then-best-window : goal.score_of-returns-then-best-window
score_of-returns-then-best-window g t c =
    let board = cells c.args.board in
    let searching = c.loop-choice.invariant.0.searching in
    let e = c.search_below-child.ensures in
    let child = child-of c.args.depth board c.in-Some.choice c.plies.ensures.value c.after.ensures c.of_child-seen.ensures.alpha c.of_child-seen.ensures.beta e.bound e.within in
    let score = c.with-best.ensures.score in
    let beta_is : c.of_child-seen.result.beta ≡ neg_ℤ (int_max c.args.window.alpha c.loop-choice.best.score) =
    c.of_child-seen.ensures.beta ∙ ap (λ b. neg_ℤ (int_max c.args.window.alpha b)) (omega (arith, ints, searching.least, searching.greatest)) in
    record {
      bound = rw (minimax-deeper c.args.depth board c.requires.deep)
          (Searched-cut c.loop-choice.invariant.0 c.in-Some.ensures (final_value board) c.args.window.open child score (omega (arith, ints)));
      within = (omega (arith, ints, clamps, score, e.within.1), omega (arith, ints, clamps, score, e.within.0, searching.greatest));
      specified = λ rules. IsInTurn-cut (c.loop-choice.invariant.1 rules) c.in-Some.ensures
          (child-found c.args.depth board _ _ c.in-Some.choice c.plies.ensures.value c.after.ensures c.of_child-seen.ensures.alpha beta_is (e.specified rules))
          (score-and-count (sym score) (sym c.with-best.ensures.visited)) (omega (arith, ints));
    }

pub score_of-loop-choice-preserved : goal.score_of-loop-choice-preserved
score_of-loop-choice-preserved g t c =
    let board = cells c.args.board in
    let searching = c.loop-choice.invariant.0.searching in
    let beta_is : c.of_child-seen.result.beta ≡ neg_ℤ (int_max c.args.window.alpha c.loop-choice.best.score) =
    c.of_child-seen.ensures.beta ∙ ap (λ b. neg_ℤ (int_max c.args.window.alpha b)) (omega (arith, ints, searching.least, searching.greatest)) in (
      Searched-turn c.loop-choice.invariant.0 c.in-Some.ensures
          (child-of c.args.depth (cells c.args.board) c.in-Some.choice c.plies.ensures.value c.after.ensures c.of_child-seen.ensures.alpha beta_is
          c.search_below-child.ensures.bound c.search_below-child.ensures.within)
          c.with-best.ensures.score (omega (arith, ints)),
      λ rules. IsInTurn-next (c.loop-choice.invariant.1 rules) c.in-Some.ensures
          (child-found c.args.depth board _ _ c.in-Some.choice c.plies.ensures.value c.after.ensures c.of_child-seen.ensures.alpha beta_is (c.search_below-child.ensures.specified rules))
          (score-and-count (sym c.with-best.ensures.score) (sym c.with-best.ensures.visited)) (omega (arith, ints)),
    )

pub score_of-returns : goal.score_of-returns
score_of-returns g t c =
    let board = cells c.args.board in
    let searching = c.loop-choice.invariant.0.searching in
    let some = some-rearranged board c.list-left.ensures.all c.is_empty.ensures c.if-is_empty.false in
    record {
      bound = rw (minimax-deeper c.args.depth board c.requires.deep) (Searched-bound c.loop-choice.invariant.0 c.in_default.ensures some (final_value board));
      within = (Searched-real c.loop-choice.invariant.0 c.in_default.ensures some, searching.greatest);
      specified = λ rules. IsInTurn-end (c.loop-choice.invariant.1 rules) c.in_default.ensures;
    }

-- where the game is over
pub score_of-returns-then-is_empty-clause-bound : goal.score_of-returns-then-is_empty-clause-bound
score_of-returns-then-is_empty-clause-bound g t c =
    let board = cells c.args.board in
    let score_is : final_value board ≡ c.entered.result.score = omega (arith, ints, ap (λ (s : Counted). s.score) c.entered.ensures, c.final_value.ensures.value) in
    exact-bound _ _ _ _ (minimax-over c.args.depth board (none-rearranged board c.list-left.ensures.all c.is_empty.ensures c.if-is_empty.true) ∙ score_is)

pub score_of-returns-then-is_empty-clause-specified : goal.score_of-returns-then-is_empty-clause-specified
score_of-returns-then-is_empty-clause-specified g t c rules =
    let board = cells c.args.board in
    let score_is : final_value board ≡ c.entered.result.score = omega (arith, ints, ap (λ (s : Counted). s.score) c.entered.ensures, c.final_value.ensures.value) in
    searched-over c.args.depth board _ _ c.requires.deep (none-rearranged board c.list-left.ensures.all c.is_empty.ensures c.if-is_empty.true)
    ∙ score-and-count score_is (sym (ap (λ (s : Counted). s.visited) c.entered.ensures))

-- a leaf
pub search_below-returns-clause-specified : goal.search_below-returns-clause-specified
search_below-returns-clause-specified g t c rules =
    let none : c.args.depth ≡ 0 = omega arith in
    let board = cells c.args.weighed.board in
    let score_is : c.entered.result ≡ c.entered-2.result.score =
    omega (arith, ints, ap (λ (s : Counted). s.score) c.entered-2.ensures, c.entered.ensures.within.0, c.entered.ensures.within.1) in
    ap (λ d. searched d board c.args.window.alpha c.args.window.beta) none ∙ searched-leaf board _ _
    ∙ score-and-count (sym c.entered.ensures.value ∙ score_is) (sym (ap (λ (s : Counted). s.visited) c.entered-2.ensures))

pub search_below-returns-clause-bound : goal.search_below-returns-clause-bound
search_below-returns-clause-bound g t c =
    let none : c.args.depth ≡ 0 = omega arith in
    let score_is : c.entered.result ≡ c.entered-2.result.score =
    omega (arith, ints, ap (λ (s : Counted). s.score) c.entered-2.ensures, c.entered.ensures.within.0, c.entered.ensures.within.1) in
    exact-bound _ _ _ _ (ap (λ d. minimax d (cells c.args.weighed.board)) none ∙ sym c.entered.ensures.value ∙ score_is)

pub score_of-loop-choice-init : goal.score_of-loop-choice-init
score_of-loop-choice-init g t c =
    let board = cells c.args.board in
    let score_is : c.entered-best.result.score ≡ negsuc 199999 = omega (arith, ints, ap (λ (s : Counted). s.score) c.entered-best.ensures) in (
      Searched-start c.args.window.alpha c.args.window.beta (choice_value c.args.depth board) (choices board) _ _ score_is c.args.window.least c.args.window.open c.list-left.ensures.all,
      λ rules. IsInTurn-start c.args.depth board _ _ _ _ c.requires.deep (some-rearranged board c.list-left.ensures.all c.is_empty.ensures c.if-is_empty.false)
          (rules _ _ c.list-left.ensures.order) (score-and-count score_is (ap (λ (s : Counted). s.visited) c.entered-best.ensures)),
    )
