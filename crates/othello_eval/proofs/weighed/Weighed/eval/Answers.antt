-- A board with its weighed discs is evaluated (`Weighed::eval`): the sums fit in 32 bits, and the result is the
-- evaluation.
use Rattle.othello_eval.proofs.Common.{◌≡◌, ◌≤◌, ◌<◌, ◌^◌, ℕ, List, length, filter, count_ones, sym, ap, ap₂, ◌∙◌, pos, ◌+ℤ◌, ◌-ℤ◌, ◌*ℤ◌, subst, arith, Cell, squares, exchanged, is_legal, cells, bits_of, legal_squares, legal_squares-fit, length-in_order, weights, discs_value, eval, IsWithin}
use Rattle.othello_eval.proofs.ValueLemmas.{eval-within, known-within, small-fits, difference-fits, mobility-fits, eval-fits, eval-is}
use Rattle.othello_eval.proofs.weighed.Weighed.eval.Goals as goal

-- as many bits are set as squares are legal, so at most 64
counted : (board : List Cell) (word : ℕ) → word ≡ bits_of (filter (is_legal board) squares) → word < 2 ^ 64 → count_ones word ≡ length (legal_squares board)
counted board word e fits = sym (length-in_order (is_legal board) word e fits)

few : (board : List Cell) (word : ℕ) → word ≡ bits_of (filter (is_legal board) squares) → word < 2 ^ 64 → count_ones word ≤ 64
few board word e fits = omega (arith, counted board word e fits, legal_squares-fit board)

pub overflow_cast-difference : goal.overflow_cast-difference
overflow_cast-difference c = let m = c.args.mobility in small-fits (count_ones m.own) (few (cells m.board) m.own m.own_legal (omega arith))

pub overflow_cast-difference-2 : goal.overflow_cast-difference-2
overflow_cast-difference-2 c = let m = c.args.mobility in small-fits (count_ones m.opp) (few (exchanged (cells m.board)) m.opp m.opp_legal (omega arith))

pub overflow_sub-difference : goal.overflow_sub-difference
overflow_sub-difference c =
    let m = c.args.mobility in
    difference-fits (count_ones m.own) (count_ones m.opp)
    (few (cells m.board) m.own m.own_legal (omega arith)) (few (exchanged (cells m.board)) m.opp m.opp_legal (omega arith))

pub overflow_mul-result : goal.overflow_mul-result
overflow_mul-result c =
    let m = c.args.mobility in
    mobility-fits (count_ones m.own) (count_ones m.opp)
    (few (cells m.board) m.own m.own_legal (omega arith)) (few (exchanged (cells m.board)) m.opp m.opp_legal (omega arith))

pub overflow_add-result : goal.overflow_add-result
overflow_add-result c =
    let m = c.args.mobility in
    eval-fits c.args.self.discs (count_ones m.own) (count_ones m.opp) (known-within _ (cells c.args.self.board) c.args.self.weighed)
    (few (cells m.board) m.own m.own_legal (omega arith)) (few (exchanged (cells m.board)) m.opp m.opp_legal (omega arith))

pub returns : goal.returns
returns c =
    let m = c.args.mobility in
    let is =
    eval-is c.args.self.discs (count_ones m.own) (count_ones m.opp) (known-within _ (cells c.args.self.board) c.args.self.weighed)
    (few (cells m.board) m.own m.own_legal (omega arith)) (few (exchanged (cells m.board)) m.opp m.opp_legal (omega arith))
    ∙ ap (λ v. v +ℤ (pos 4 *ℤ (pos (count_ones m.own) -ℤ pos (count_ones m.opp)))) (c.args.self.weighed ∙ ap (λ b. discs_value (cells b) weights) (sym c.requires))
    ∙ ap₂ (λ a b. discs_value (cells m.board) weights +ℤ (pos 4 *ℤ (pos a -ℤ pos b)))
    (counted (cells m.board) m.own m.own_legal (omega arith)) (counted (exchanged (cells m.board)) m.opp m.opp_legal (omega arith))
    ∙ ap (λ b. eval (cells b)) c.requires in
    record { value = is; within = subst (IsWithin 1184) (sym is) (eval-within (cells c.args.self.board)) }
