-- A leaf's value (`leaf::entered`): where the game is over the final value, else the evaluation.
use Rattle.leaf_search.proofs.Common.{◌≡◌, ◌↔◌, Bool, IsTrue, true, false, [], sym, ◌∙◌, ap, arith, ints, Board, cells, choices, minimax, minimax-leaf-there, minimax-over}
use Rattle.leaf_search.proofs.leaf.entered.Goals as goal

-- where the game is over
pub returns-then-is_over-clause-value : goal.returns-then-is_over-clause-value
returns-then-is_over-clause-value c =
    let board = cells c.args.weighed.board in
    let over = ap (λ b. choices (cells b)) (sym c.of-mobility.ensures) ∙ c.is_over.ensures.0 c.if-is_over.true in
    let value : c.final_value.result ≡ minimax 0 board = c.final_value.ensures.value ∙ sym (minimax-over 0 board over) in
    omega (arith, ints, value)

-- where it goes on
goes-on : (board b : Board) (over : Bool) → b ≡ board → IsTrue over ↔ (choices (cells b) ≡ []) → over ≡ false → choices (cells board) ≡ [] → ⊥
goes-on board b over same exactly denied none = let told : over ≡ true = exactly.1 (ap (λ x. choices (cells x)) same ∙ none) in cc

pub returns-clause-value : goal.returns-clause-value
returns-clause-value c =
    let board = c.args.weighed.board in
    let on = goes-on board c.of-mobility.result.board c.is_over.result c.of-mobility.ensures c.is_over.ensures c.if-is_over.false in
    let value : c.eval.result ≡ minimax 0 (cells board) = c.eval.ensures.value ∙ sym (minimax-leaf-there (cells board) on) in
    omega (arith, ints, value)
