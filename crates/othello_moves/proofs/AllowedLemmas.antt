-- What holds of every choice (a legal square or a pass) of an Othello board.
use Rattle.othello_moves.proofs.Common.{◌≡◌, ◌<◌, ◌≤◌, ltb, List, map, length, All, Contains, refl, arith, ℕ, ◌+◌, ◌-◌, ◌*◌, Bool, true, false, cond, [], ◌∷◌, list_all, cond_both, cond-true, cond-false, Decides-by_and, Decides-ltb, length-map, All-nil, All-cons, All-map, All-filter, filter_passes, All-contains, length-filter, count_by-le-length, Cell, squares, is_legal, exchanged, is_nil, Board, cells, length-cells_of, Choice, Square, Pass, in_order, legal_squares, choices, after, IsAllowed, choices_without_move, plies}

in_order-below : All (λ s. s < 64) in_order
unfolding in_order squares
in_order-below = (Decides-by_and (λ s. ltb s 64) (λ s. s < 64) (list_all (λ s. ltb s 64)) (λ s. Decides-ltb s 64) refl (λ _ _. refl) in_order).0 refl

in_order-length : length in_order ≡ 64
unfolding in_order squares
in_order-length = refl

allowed-squares : (board : List Cell) → All (IsAllowed board) (map Square (legal_squares board))
allowed-squares board =
    All-map (IsAllowed board) Square (legal_squares board)
    (λ k d lt. (All-filter (is_legal board) (λ s. s < 64) in_order in_order-below k d lt, filter_passes (is_legal board) in_order k d lt))

-- every choice is allowed
pub choices_allowed : (board : List Cell) → All (IsAllowed board) (choices board)
choices_allowed board = grind (arith, cond_both, All-nil, All-cons, allowed-squares)

pub contained-allowed : (board : List Cell) (c : Choice) → Contains (choices board) c → IsAllowed board c
contained-allowed board c h = All-contains (IsAllowed board) (choices board) c (choices_allowed board) h

-- there are at most 64 legal squares
pub legal_squares-fit : (board : List Cell) → length (legal_squares board) ≤ 64
legal_squares-fit board = omega (arith, length-filter (is_legal board) in_order, count_by-le-length (is_legal board) in_order, in_order-length)

-- and at most 64 choices
pub choices-fit : (board : List Cell) → length (choices board) ≤ 64
choices-fit board = grind (arith, cond_both, length-map, legal_squares-fit)

pub squares-length : length squares ≡ 64
unfolding squares
squares-length = refl

-- the board after a move has 64 cells, and the board after a pass as many as before
pub length-after : (board : List Cell) (c : Choice) → length board ≡ 64 → length (after board c) ≡ 64
length-after board c h3 = grind (arith, length-map, squares-length)

-- a board has 64 cells
pub length-cells : (b : Board) → length (cells b) ≡ 64
length-cells b = length-cells_of b.own b.opp

-- A pass is followed by a square: so plies and passes together go down with each choice.

-- who passes has no legal square, and the other side has one
abbrev CanPass : List Cell → Choice → Type 0
CanPass board (Square s) = Unit {0}
CanPass board Pass = (is_nil (legal_squares board) ≡ true) × (is_nil (legal_squares (exchanged board)) ≡ false)

can-pass : (board : List Cell) → All (CanPass board) (choices board)
can-pass board =
    cond_both (is_nil (legal_squares board)) (choices_without_move board) (map Square (legal_squares board)) (All (CanPass board))
    (λ none. cond_both (is_nil (legal_squares (exchanged board))) [] (Pass ∷ []) (All (CanPass board)) (λ _. All-nil (CanPass board)) (λ some. All-cons (CanPass board) Pass [] (none, some) (All-nil (CanPass board))))
    (λ _. All-map (CanPass board) Square (legal_squares board) (λ k d lt. tt))

passed : (board : List Cell) → Contains (choices board) Pass → CanPass board Pass
passed board h = All-contains (CanPass board) (choices board) Pass (can-pass board) h

-- after a pass there is a legal square
pub square_after_pass : (board : List Cell) → Contains (choices board) Pass → is_nil (legal_squares (after board Pass)) ≡ false
square_after_pass board h = (passed board h).1

-- 1 where the mover has no legal square, as where it has to pass, and else 0
abbrev pub passing : List Cell → ℕ
passing board = cond (is_nil (legal_squares board)) 1 0

at_most-1 : (b : Bool) → cond b 1 0 < 2
at_most-1 b = grind arith

-- so twice the depth and the pass that is due, counted together, fall with each choice
pub goes_down : (depth left : ℕ) (board child : List Cell) (c : Choice) → Contains (choices board) c → child ≡ after board c → 0 < depth → left ≡ depth - plies c
    → 2 * left + passing child < 2 * depth + passing board
goes_down depth left board child c h6 h7 h8 h9 = grind (arith, at_most-1, cond-true, passed, cond-false)
