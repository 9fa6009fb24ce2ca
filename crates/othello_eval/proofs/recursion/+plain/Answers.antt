-- The plain recursion for minimax (`recursion::plain`): value and choice are the defined ones, at leaves, at the end
-- of a game, and by each choice's value.
use Rattle.othello_eval.proofs.Common.{rules, ◌<◌, ◌-◌, sym, ap, ◌∙◌, subst, to_z, w32, Some, arith, cells, choices, goes_down, length-cells, IsWithin, choice_value}
use Rattle.othello_eval.proofs.MinimaxLemmas.{minimax-over, best_choice-over, minimax-within, same_bits, within_more, child-value, leaf-value-at, leaf-choice-at, start-value, start-choice, running-more, running-same, running-all, left-chosen, next-chosen}
use Rattle.othello_eval.proofs.recursion.+plain.Goals as goal

pub plain-other-requires : goal.plain-other-requires
plain-other-requires t c =
    let next = c.in-Some-pop_first.next in
    let here = (next-chosen (choices (cells c.args.board)) c.loop-next.invariant.chosen c.in-Some-pop_first.ensures.cases).0 in
    let deep : 0 < c.args.depth = omega arith in
    let less = ap (λ p. c.args.depth - p) c.plies-in-Some-pop_first.ensures.value in
    let after = c.after-in-Some-pop_first in
    let down = goes_down c.args.depth (c.args.depth - c.plies-in-Some-pop_first.result) (cells c.args.board) (cells after.result) next here after.ensures deep less in
    search rules

pub returns-in_default : goal.returns-in_default
returns-in_default t c =
    let board = cells c.args.board in
    let over = sym c.new-left.ensures ∙ c.in_default.ensures.cases in
    let same = same_bits c.final_value.result c.final_value.ensures.within in
    record {
      value = same ∙ c.final_value.ensures.value ∙ sym (minimax-over c.args.depth board over);
      within = subst (IsWithin 128000) (sym same) c.final_value.ensures.within;
      choice = sym (best_choice-over c.args.depth board over);
    }

pub returns-then-depth-eq0 : goal.returns-then-depth-eq0
returns-then-depth-eq0 t c =
    let board = cells c.args.board in
    let is = sym c.new-left.ensures ∙ c.in-Some.ensures.cases in
    let within = within_more c.eval.result c.eval.ensures.within in
    let same = same_bits c.eval.result within in
    record {
      value = same ∙ c.eval.ensures.value ∙ leaf-value-at c.args.depth board _ _ is c.if-depth-eq0.true;
      within = subst (IsWithin 128000) (sym same) within;
      choice = leaf-choice-at c.args.depth board c.if-depth-eq0.true;
    }

pub loop-next-init : goal.loop-next-init
loop-next-init t c =
    let board = cells c.args.board in
    let deep : 0 < c.args.depth = omega arith in
    let is = sym c.new-left.ensures ∙ c.in-Some.ensures.cases in
    let worth = child-value c.args.depth board c.in-Some.first c.after.ensures c.plies.ensures.value c.plain-value.ensures.value c.plain-value.ensures.within in
    record {
      value = start-value c.args.depth board _ c.in-Some.first c.pop_first.new.self is deep worth;
      choice = start-choice c.args.depth board _ c.in-Some.first c.pop_first.new.self is deep worth;
      chosen = left-chosen (choices board) c.pop_first.new.self c.in-Some.first is;
    }

pub after-requires-in-Some-pop_first : goal.after-requires-in-Some-pop_first
after-requires-in-Some-pop_first t c =
    (next-chosen (choices (cells c.args.board)) c.loop-next.invariant.chosen c.in-Some-pop_first.ensures.cases).0

pub loop-next-preserved-then-other-value : goal.loop-next-preserved-then-other-value
loop-next-preserved-then-other-value t c =
    let board = cells c.args.board in
    let next = c.in-Some-pop_first.next in
    let below = c.plain-other.ensures in
    let worth = child-value c.args.depth board next c.after-in-Some-pop_first.ensures c.plies-in-Some-pop_first.ensures.value below.value below.within in
    let cases = c.in-Some-pop_first.ensures.cases in
    let step = running-more (choice_value c.args.depth board) (to_z w32 c.loop-next.value-bits) c.loop-next.best cases worth c.if-other-value.true in
    record {
      value = ap (λ p. p.0) step ∙ c.loop-next.invariant.value;
      choice = ap (λ p. Some p.1) step ∙ c.loop-next.invariant.choice;
      chosen = (next-chosen (choices board) c.loop-next.invariant.chosen cases).1;
    }

pub loop-next-preserved : goal.loop-next-preserved
loop-next-preserved t c =
    let board = cells c.args.board in
    let next = c.in-Some-pop_first.next in
    let below = c.plain-other.ensures in
    let worth = child-value c.args.depth board next c.after-in-Some-pop_first.ensures c.plies-in-Some-pop_first.ensures.value below.value below.within in
    let cases = c.in-Some-pop_first.ensures.cases in
    let step = running-same (choice_value c.args.depth board) (to_z w32 c.loop-next.value-bits) c.loop-next.best cases worth c.if-other-value.false in
    record {
      value = ap (λ p. p.0) step ∙ c.loop-next.invariant.value;
      choice = ap (λ p. Some p.1) step ∙ c.loop-next.invariant.choice;
      chosen = (next-chosen (choices board) c.loop-next.invariant.chosen cases).1;
    }

pub returns : goal.returns
returns t c =
    let board = cells c.args.board in
    let v = choice_value c.args.depth board in
    let end = running-all v (to_z w32 c.loop-next.value-bits) c.loop-next.best c.loop-next.left c.in_default-pop_first.ensures.cases in
    let value = ap (λ p. p.0) (sym end) ∙ c.loop-next.invariant.value in
    record {
      value = value;
      within = subst (IsWithin 128000) (sym value) (minimax-within c.args.depth board (length-cells c.args.board));
      choice = ap (λ p. Some p.1) (sym end) ∙ c.loop-next.invariant.choice;
    }
