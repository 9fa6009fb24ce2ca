-- What suffices for a search (`amounts::enough`): no number overflows, and the reservation is the defined one, within
-- the limits of a tenant.
use Rattle.std.proofs.Common.{arith, ap, refl, ℕ, ◌≡◌, min, ◌∙◌}
use Rattle.othello_board.specs.Words.{cells}
use Rattle.jamboree_core.specs.Enough.{board_nodes, board_segments}
use Rattle.jamboree_core.proofs.EnoughBounds.{most, all-squares, are-segments, are-nodes, within-limits, value-within}
use Rattle.jamboree_core.proofs.amounts.enough.Goals as goal

pub overflow_sub-empty : goal.overflow_sub-empty
overflow_sub-empty c = let all = all-squares c.args.board.own c.args.board.opp c.count-own.ensures.own c.count-own.ensures.opp in omega (arith, all)

pub overflow_sub-empty-2 : goal.overflow_sub-empty-2
overflow_sub-empty-2 c = let all = all-squares c.args.board.own c.args.board.opp c.count-own.ensures.own c.count-own.ensures.opp in omega (arith, all)

pub overflow_mul-max : goal.overflow_mul-max
overflow_mul-max c = let all = all-squares c.args.board.own c.args.board.opp c.count-own.ensures.own c.count-own.ensures.opp in omega (arith, all, c.max.ensures)

module _ (c : goal.After-new) where
  segments : c.most_needed-needed.result.segments ≡ min (board_segments c.args.depth c.args.grain (cells c.args.board)) most
  segments =
      c.most_needed-needed.ensures.segments
      ∙ ap (λ (n : ℕ). min n most)
      (are-segments c.args.board.own c.args.board.opp c.count-own.ensures.own c.count-own.ensures.opp c.args.depth c.args.grain refl (omega (arith, c.min.ensures, c.max.ensures, c.min-choices.ensures))
      (omega (arith, c.from.ensures, c.max-plies.ensures, c.saturating_sub.ensures)))

  nodes : c.most_needed-needed.result.nodes ≡ min (board_nodes c.args.depth c.args.grain (cells c.args.board)) most
  nodes =
      c.most_needed-needed.ensures.nodes
      ∙ ap (λ (n : ℕ). min n most)
      (are-nodes c.args.board.own c.args.board.opp c.count-own.ensures.own c.count-own.ensures.opp c.args.depth c.args.grain refl (omega (arith, c.min.ensures, c.max.ensures, c.min-choices.ensures))
      (omega (arith, c.from.ensures, c.max-plies.ensures, c.saturating_sub.ensures)))

pub returns-clause-within : goal.returns-clause-within
returns-clause-within c = within-limits _ _ (segments c) (nodes c) c.new.result c.new.ensures.within

pub returns-clause-value : goal.returns-clause-value
returns-clause-value c = value-within _ _ (segments c) (nodes c) c.new.result c.new.ensures.within c.new.ensures.value
