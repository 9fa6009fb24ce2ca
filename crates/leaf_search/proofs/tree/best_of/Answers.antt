-- The serial search of a root (`tree::best_of`): its score bounds the value, and its choice is the first best.
use Rattle.leaf_search.proofs.Common.{◌≡◌, neg_ℤ, negsuc, sym, ◌∙◌, ap, arith, int_max, ints, clamps, cells, choices, choice_value, final_value, Scored, minimax-deeper, best_choice-deeper, minimax-over, best_choice-over}
use Rattle.leaf_search.proofs.WindowLemmas.{IsTakenIn, IsSearching-start, greater, still-chosen, child-of, IsSearching-turn, IsSearching-cut, IsSearching-next, IsSearching-real, IsSearching-bound, IsSearching-best, exact-bound, some-left, none-left}
use Rattle.leaf_search.proofs.SerialLemmas.{child-found, searched-over, IsInTurn-start, IsInTurn-next, IsInTurn-cut, IsInTurn-end, score-and-count}
use Rattle.leaf_search.proofs.tree.best_of.Given.{Over}
use Rattle.leaf_search.proofs.tree.best_of.Goals as goal

pub after-requires : goal.after-requires
after-requires g c = IsSearching-next c.loop-choice.invariant.0 c.in-Some.ensures.cases

-- the child's score is taken in where the search ends
taken-in : (g : Over) (c : goal.Then-best-window g) → IsTakenIn c.loop-choice.best.score c.search_below-child.result.score c.loop-choice.best.choice c.in-Some.choice c.take_in.new.self.score c.take_in.new.self.choice
taken-in g c = record { better = c.take_in.ensures.better; kept = c.take_in.ensures.kept }

pub returns-then-best-window : goal.returns-then-best-window
returns-then-best-window g c =
    let board = cells c.args.weighed.board in
    let s = c.loop-choice.invariant.0 in
    let e = c.search_below-child.ensures in
    let child = child-of c.args.depth board c.in-Some.choice c.plies.ensures.value c.after.ensures c.of_child-seen.ensures.alpha c.of_child-seen.ensures.beta e.bound e.within in
    let score = greater (taken-in g c) in
    let beta_is : c.of_child-seen.result.beta ≡ neg_ℤ (int_max c.args.window.alpha c.loop-choice.best.score) =
    c.of_child-seen.ensures.beta ∙ ap (λ b. neg_ℤ (int_max c.args.window.alpha b)) (omega (arith, ints, s.least, s.greatest)) in
    record {
      bound = rw (minimax-deeper c.args.depth board c.requires)
          (IsSearching-cut s c.in-Some.ensures.cases (final_value board) c.args.window.open child score (omega (arith, ints)));
      choice = λ higher lower. absurd (omega (arith, ints));
      within = (omega (arith, ints, clamps, e.within.1), omega (arith, ints, clamps, e.within.0, s.greatest));
      chosen = still-chosen (taken-in g c) _ s.chosen (IsSearching-next s c.in-Some.ensures.cases);
      specified = λ rules. IsInTurn-cut (c.loop-choice.invariant.1 rules) c.in-Some.ensures.cases
          (child-found c.args.depth (cells c.args.weighed.board) _ _ c.in-Some.choice c.plies.ensures.value c.after.ensures c.of_child-seen.ensures.alpha beta_is (e.specified rules))
          (score-and-count (sym score) (sym c.take_in.ensures.visited)) (omega (arith, ints));
    }

pub loop-choice-preserved : goal.loop-choice-preserved
loop-choice-preserved g c =
    let beta_is : c.of_child-seen.result.beta ≡ neg_ℤ (int_max c.args.window.alpha c.loop-choice.best.score) =
    c.of_child-seen.ensures.beta ∙ ap (λ b. neg_ℤ (int_max c.args.window.alpha b)) (omega (arith, ints, c.loop-choice.invariant.0.least, c.loop-choice.invariant.0.greatest)) in
    let turn : IsTakenIn c.loop-choice.best.score c.search_below-child.result.score c.loop-choice.best.choice c.in-Some.choice c.take_in.new.self.score c.take_in.new.self.choice =
    record { better = c.take_in.ensures.better; kept = c.take_in.ensures.kept } in (
      IsSearching-turn c.loop-choice.invariant.0 c.in-Some.ensures.cases
          (child-of c.args.depth (cells c.args.weighed.board) c.in-Some.choice c.plies.ensures.value c.after.ensures c.of_child-seen.ensures.alpha beta_is
          c.search_below-child.ensures.bound c.search_below-child.ensures.within)
          turn (omega (arith, ints)),
      λ rules. IsInTurn-next (c.loop-choice.invariant.1 rules) c.in-Some.ensures.cases
          (child-found c.args.depth (cells c.args.weighed.board) _ _ c.in-Some.choice c.plies.ensures.value c.after.ensures c.of_child-seen.ensures.alpha beta_is (c.search_below-child.ensures.specified rules))
          (score-and-count (sym (greater turn)) (sym c.take_in.ensures.visited)) (omega (arith, ints)),
    )

pub returns : goal.returns
returns g c =
    let board = cells c.args.weighed.board in
    let s = c.loop-choice.invariant.0 in
    let end = c.in_default.ensures.cases in
    let some = some-left board c.new-left.ensures c.is_empty.ensures c.if-is_empty.false in
    record {
      bound = rw (minimax-deeper c.args.depth board c.requires) (IsSearching-bound s end some (final_value board));
      choice = λ higher lower. rw (best_choice-deeper c.args.depth board c.requires, minimax-deeper c.args.depth board c.requires)
          (IsSearching-best s end some (final_value board) higher);
      within = (IsSearching-real s end some, s.greatest);
      chosen = s.chosen;
      specified = λ rules. IsInTurn-end (c.loop-choice.invariant.1 rules) end;
    }

-- where the game is over
pub returns-then-is_empty-clause-bound : goal.returns-then-is_empty-clause-bound
returns-then-is_empty-clause-bound g c =
    let board = cells c.args.weighed.board in
    let score_is : final_value board ≡ c.entered.result.score = omega (arith, ints, ap (λ (s : Scored). s.score) c.entered.ensures, c.final_value.ensures.value) in
    exact-bound _ _ _ _ (minimax-over c.args.depth board (none-left board c.new-left.ensures c.is_empty.ensures c.if-is_empty.true) ∙ score_is)

pub returns-then-is_empty-clause-choice : goal.returns-then-is_empty-clause-choice
returns-then-is_empty-clause-choice g c higher lower =
    let board = cells c.args.weighed.board in
    let over = none-left board c.new-left.ensures c.is_empty.ensures c.if-is_empty.true in
    ap (λ (s : Scored). s.choice) c.entered.ensures ∙ sym (best_choice-over c.args.depth board over)

pub returns-then-is_empty-clause-specified : goal.returns-then-is_empty-clause-specified
returns-then-is_empty-clause-specified g c rules =
    let board = cells c.args.weighed.board in
    let score_is : final_value board ≡ c.entered.result.score = omega (arith, ints, ap (λ (s : Scored). s.score) c.entered.ensures, c.final_value.ensures.value) in
    searched-over c.args.depth board _ _ c.requires (none-left board c.new-left.ensures c.is_empty.ensures c.if-is_empty.true)
    ∙ score-and-count score_is (sym (ap (λ (s : Scored). s.visited) c.entered.ensures))

pub loop-choice-init : goal.loop-choice-init
loop-choice-init g c =
    let board = cells c.args.weighed.board in
    let all = c.new-left.ensures in
    let score_is : c.entered-best.result.score ≡ negsuc 199999 = omega (arith, ints, ap (λ (s : Scored). s.score) c.entered-best.ensures) in (
      rw (all, ap (λ (s : Scored). s.choice) c.entered-best.ensures)
          (IsSearching-start c.args.window.alpha c.args.window.beta (choice_value c.args.depth board) (choices board) _ score_is c.args.window.least c.args.window.open),
      λ rules. IsInTurn-start c.args.depth board _ _ _ _ c.requires (some-left board all c.is_empty.ensures c.if-is_empty.false) all
          (score-and-count score_is (ap (λ (s : Scored). s.visited) c.entered-best.ensures)),
    )
