-- The ordered serial search (`ordered`): its score is a bound of the minimax value and its choice the first best,
-- whatever the order in which choices are tried.
use Rattle.leaf_search.proofs.Common.{rules, eqb-true, ◌≡◌, ◌<◌, length, neg_ℤ, ◌-◌, sym, ◌∙◌, ap, arith, int_max, ints, cells, choices, goes_down, final_value, Scored, minimax-deeper, best_choice-deeper, minimax-over, best_choice-over}
use Rattle.leaf_search.proofs.WindowLemmas.{child-of, exact-bound, test-low}
use Rattle.leaf_search.proofs.RankingLemmas.{IsFloor, ranked-in, IsRanking-next, IsRanking-turn, IsRanking-cut, IsRanking-cut_within, IsRanking-cut_chosen, IsRanking-bound, IsRanking-best, IsRanking-within}
use Rattle.leaf_search.proofs.ListLemmas.{ranked_at, ranked-all, ranked-many, ranked-next, ranked-end, none-from-length, filled}
use Rattle.leaf_search.proofs.ordered.+ordered.Goals as goal

-- where the game is over
pub best_ranked-returns-then-is_empty-clause-bound : goal.best_ranked-returns-then-is_empty-clause-bound
best_ranked-returns-then-is_empty-clause-bound t c =
    let board = cells c.args.weighed.board in
    let none : length c.as_slice-all.result.now ≡ 0 = eqb-true (length c.as_slice-all.result.now) 0 (sym c.is_empty.ensures ∙ c.if-is_empty.true) in
    let over = none-from-length (choices board) (ranked-many board c.as_slice-all.result.now c.as_slice-all.ensures.value c.rank.ensures ∙ none) in
    let score_is : final_value board ≡ c.entered.result.score = omega (arith, ints, ap (λ (s : Scored). s.score) c.entered.ensures, c.final_value.ensures.value) in
    exact-bound _ _ _ _ (minimax-over c.args.depth board over ∙ score_is)

pub best_ranked-returns-then-is_empty-clause-choice : goal.best_ranked-returns-then-is_empty-clause-choice
best_ranked-returns-then-is_empty-clause-choice t c wanted higher lower =
    let board = cells c.args.weighed.board in
    let none : length c.as_slice-all.result.now ≡ 0 = eqb-true (length c.as_slice-all.result.now) 0 (sym c.is_empty.ensures ∙ c.if-is_empty.true) in
    let over = none-from-length (choices board) (ranked-many board c.as_slice-all.result.now c.as_slice-all.ensures.value c.rank.ensures ∙ none) in
    ap (λ (s : Scored). s.choice) c.entered.ensures ∙ sym (best_choice-over c.args.depth board over)

-- one turn
pub best_ranked-after-after-requires : goal.best_ranked-after-after-requires
best_ranked-after-after-requires t c =
    let board = cells c.args.weighed.board in
    let all = c.as_slice-all.result.now in
    let here : c.loop-ranked.ranked-index < length all = omega arith in
    let perm = ranked-all board all c.as_slice-all.ensures.value c.rank.ensures in
    IsRanking-next c.loop-ranked.invariant perm (ranked-next board all c.as_slice-all.ensures.value c.loop-ranked.ranked-index here)

pub best_ranked-score_after-child-requires : goal.best_ranked-score_after-child-requires
best_ranked-score_after-child-requires t c =
    let board = cells c.args.weighed.board in
    let all = c.as_slice-all.result.now in
    let r = ranked_at all c.loop-ranked.ranked-index in
    let here : c.loop-ranked.ranked-index < length all = omega arith in
    let perm = ranked-all board all c.as_slice-all.ensures.value c.rank.ensures in
    let next = IsRanking-next c.loop-ranked.invariant perm (ranked-next board all c.as_slice-all.ensures.value c.loop-ranked.ranked-index here) in
    let deep = ap (λ p. c.args.depth - p) c.plies.ensures.value in
    let down = goes_down c.args.depth (c.args.depth - c.plies.result) board (cells c.after-after.result.board) r.choice next c.after-after.ensures c.requires deep in
    search rules

pub best_ranked-returns-then-best-window : goal.best_ranked-returns-then-best-window
best_ranked-returns-then-best-window t c =
    let board = cells c.args.weighed.board in
    let s = c.loop-ranked.invariant in
    let e = c.score_after-child.ensures in
    let all = c.as_slice-all.result.now in
    let r = ranked_at all c.loop-ranked.ranked-index in
    let here : c.loop-ranked.ranked-index < length all = omega arith in
    let perm = ranked-all board all c.as_slice-all.ensures.value c.rank.ensures in
    let next = ranked-next board all c.as_slice-all.ensures.value c.loop-ranked.ranked-index here in
    let beta_is : c.of_child-seen.result.beta ≡ neg_ℤ (int_max c.args.window.alpha c.floor.result) =
    c.of_child-seen.ensures.beta ∙ ap (λ b. neg_ℤ (int_max c.args.window.alpha b)) (omega (arith, ints, s.least, s.greatest, c.floor.ensures.most, c.floor.ensures.least)) in
    let child = child-of c.args.depth board r.choice c.plies.ensures.value c.after-after.ensures c.of_child-seen.ensures.alpha beta_is e.bound e.within in
    let turn = ranked-in beta_is c.take_in.ensures.score c.take_in.ensures.better c.take_in.ensures.above c.take_in.ensures.kept in
    record {
      bound = rw (minimax-deeper c.args.depth board c.requires) (IsRanking-cut s perm next child turn (omega (arith, ints)) (final_value board) c.args.window.open);
      choice = λ wanted higher lower. absurd (omega (arith, ints));
      within = IsRanking-cut_within s perm next child turn (omega (arith, ints));
      chosen = IsRanking-cut_chosen s perm next child turn (omega (arith, ints));
    }

pub best_ranked-loop-ranked-preserved : goal.best_ranked-loop-ranked-preserved
best_ranked-loop-ranked-preserved t c =
    let board = cells c.args.weighed.board in
    let s = c.loop-ranked.invariant in
    let e = c.score_after-child.ensures in
    let all = c.as_slice-all.result.now in
    let r = ranked_at all c.loop-ranked.ranked-index in
    let here : c.loop-ranked.ranked-index < length all = omega arith in
    let perm = ranked-all board all c.as_slice-all.ensures.value c.rank.ensures in
    let next = ranked-next board all c.as_slice-all.ensures.value c.loop-ranked.ranked-index here in
    let beta_is : c.of_child-seen.result.beta ≡ neg_ℤ (int_max c.args.window.alpha c.floor.result) =
    c.of_child-seen.ensures.beta ∙ ap (λ b. neg_ℤ (int_max c.args.window.alpha b)) (omega (arith, ints, s.least, s.greatest, c.floor.ensures.most, c.floor.ensures.least)) in
    let child = child-of c.args.depth board r.choice c.plies.ensures.value c.after-after.ensures c.of_child-seen.ensures.alpha beta_is e.bound e.within in
    let turn = ranked-in beta_is c.take_in.ensures.score c.take_in.ensures.better c.take_in.ensures.above c.take_in.ensures.kept in
    let floor : IsFloor c.args.first c.loop-ranked.best.found.score c.loop-ranked.best.place r.place c.floor.result =
    record { most = c.floor.ensures.most; least = c.floor.ensures.least; earlier = c.floor.ensures.earlier; only = c.floor.ensures.only } in
    IsRanking-turn s perm next child floor turn (omega (arith, ints))

-- all were searched
pub best_ranked-returns : goal.best_ranked-returns
best_ranked-returns t c =
    let board = cells c.args.weighed.board in
    let s = c.loop-ranked.invariant in
    let all = c.as_slice-all.result.now in
    let perm = ranked-all board all c.as_slice-all.ensures.value c.rank.ensures in
    let some : 0 < length all = filled (length all) c.is_empty.result c.is_empty.ensures c.if-is_empty.false in
    let many : 0 < length (choices board) = omega (arith, ranked-many board all c.as_slice-all.ensures.value c.rank.ensures, some) in
    let none = ranked-end all c.loop-ranked.ranked-index (omega arith) in
    record {
      bound = rw (minimax-deeper c.args.depth board c.requires) (IsRanking-bound s perm none many (final_value board));
      choice = λ wanted higher lower. rw (best_choice-deeper c.args.depth board c.requires, minimax-deeper c.args.depth board c.requires)
          (IsRanking-best s perm none many (final_value board) wanted higher);
      within = IsRanking-within s perm none many;
      chosen = s.chosen;
    }

-- a test
pub score_after-returns-then-test-window-clause-bound : goal.score_after-returns-then-test-window-clause-bound
score_after-returns-then-test-window-clause-bound t c =
    test-low c.search_ranked-test.ensures.bound c.last.ensures.alpha c.last.ensures.beta c.args.window.open (omega (arith, ints))
