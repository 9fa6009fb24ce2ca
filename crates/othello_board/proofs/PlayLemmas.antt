-- The flips of an Othello board, all directions together.
use Rattle.othello_board.proofs.Common.{◌≡◌, ℕ, ◌^◌, ◌<◌, true, false, List, bit_and, bit_or, ap, ap₂, ◌∙◌, arith, ◌-◌, Bool, cond, eqb, ◌∷◌, min, max, sym, w64, flat_map, bit_at_or, same_from_bits, bit_at_and, bit_at_not, bit_at-zero, bit_at-lt, same_from_bits_below, Direction, North, NorthEast, East, SouthEast, South, SouthWest, West, NorthWest, directions, ray, run, flips, squares, cell_at, is_among, made_own, exchanged_cell, exchanged, cells_of, bits_of, cell_of, rising_run, falling_run, bit_at, and_le_l, or_comm, Empty, Own, Opp}
use Rattle.othello_board.proofs.CellLemmas.{or-assoc, or-zero, bits_of-append, apart, bit_at-bits_of, map-map, map-squares-same, cell_at-cells_of, exchanged-cell_of-by}
use Rattle.othello_board.proofs.ShiftLemmas.{ray_at, stride, ordered, falls_by, table-read, ray-fits, ray-ordered, ray-falls}
use Rattle.othello_board.proofs.EndLemmas.{rising, falling}

flips-together : (f : Direction → List ℕ)
    → bit_or (bit_or (bit_or (bit_or (bit_or (bit_or (bit_or (bits_of (f North)) (bits_of (f NorthEast))) (bits_of (f East))) (bits_of (f SouthEast))) (bits_of (f South))) (bits_of (f SouthWest))) (bits_of (f West))) (bits_of (f NorthWest))
    ≡ bits_of (flat_map f directions)
flips-together f = simp (or-assoc, bits_of-append, or-zero)

exchange : (a b c d : ℕ) → bit_or (bit_or a b) (bit_or c d) ≡ bit_or (bit_or a c) (bit_or b d)
exchange a b c d =
    same_from_bits _ _ (λ i. rw (bit_at_or (bit_or a b) (bit_or c d) i, bit_at_or a b i, bit_at_or c d i, bit_at_or (bit_or a c) (bit_or b d) i, bit_at_or a c i, bit_at_or b d i) (omega arith))

by-lanes : (n ne e se s sw w nw : ℕ)
    → bit_or (bit_or (bit_or e w) (bit_or se nw)) (bit_or (bit_or s n) (bit_or sw ne)) ≡ bit_or (bit_or (bit_or (bit_or (bit_or (bit_or (bit_or n ne) e) se) s) sw) w) nw
by-lanes n ne e se s sw w nw =
    ap₂ bit_or (exchange e w se nw) (exchange s n sw ne)
    ∙ exchange (bit_or e se) (bit_or w nw) (bit_or s sw) (bit_or n ne)
    ∙ or_comm (bit_or (bit_or e se) (bit_or s sw)) (bit_or (bit_or w nw) (bit_or n ne))
    ∙ ap (λ x. bit_or x (bit_or (bit_or e se) (bit_or s sw))) (or_comm (bit_or w nw) (bit_or n ne))
    ∙ exchange (bit_or n ne) (bit_or w nw) (bit_or e se) (bit_or s sw)
    ∙ ap (bit_or (bit_or (bit_or n ne) (bit_or e se))) (or_comm (bit_or w nw) (bit_or s sw))
    ∙ in-line
  where
    in-line : bit_or (bit_or (bit_or n ne) (bit_or e se)) (bit_or (bit_or s sw) (bit_or w nw)) ≡ bit_or (bit_or (bit_or (bit_or (bit_or (bit_or (bit_or n ne) e) se) s) sw) w) nw
    in-line = simp (or-assoc)

-- what the lanes of the two vectors make together
pub flips-in-lanes : (own opp s : ℕ) → opp < 2 ^ 64 → bit_and own opp ≡ 0 → s < 64
    → bit_or (bit_or (bit_or (rising_run own opp (ray_at s East)) (falling_run 1 own opp (ray_at s West))) (bit_or (rising_run own opp (ray_at s SouthEast)) (falling_run 9 own opp (ray_at s NorthWest))))
    (bit_or (bit_or (rising_run own opp (ray_at s South)) (falling_run 8 own opp (ray_at s North))) (bit_or (rising_run own opp (ray_at s SouthWest)) (falling_run 7 own opp (ray_at s NorthEast))))
    ≡ bits_of (flips (cells_of own opp) s)
flips-in-lanes own opp s opp_fits disjoint below =
    let at : Direction → ℕ = λ d. bits_of (run (cells_of own opp) s d) in
    let up : (d : Direction) → ordered true (ray d s) ≡ true → rising_run own opp (ray_at s d) ≡ bits_of (run (cells_of own opp) s d) =
    λ d order. rising own opp (ray_at s d) (ray d s) (table-read d s below) order (ray-fits d s below) opp_fits disjoint in
    let down : (d : Direction) → ordered false (ray d s) ≡ true → falls_by (stride d) (ray d s) ≡ true → 0 < stride d → falling_run (stride d) own opp (ray_at s d) ≡ bits_of (run (cells_of own opp) s d) =
    λ d order falls some. falling (stride d) own opp (ray_at s d) (ray d s) some (table-read d s below) order falls (ray-fits d s below) opp_fits disjoint in
    ap₂ bit_or
    (ap₂ bit_or
    (ap₂ bit_or (up East (ray-ordered East s below)) (down West (ray-ordered West s below) (ray-falls West s below) (omega arith)))
    (ap₂ bit_or (up SouthEast (ray-ordered SouthEast s below)) (down NorthWest (ray-ordered NorthWest s below) (ray-falls NorthWest s below) (omega arith))))
    (ap₂ bit_or
    (ap₂ bit_or (up South (ray-ordered South s below)) (down North (ray-ordered North s below) (ray-falls North s below) (omega arith)))
    (ap₂ bit_or (up SouthWest (ray-ordered SouthWest s below)) (down NorthEast (ray-ordered NorthEast s below) (ray-falls NorthEast s below) (omega arith))))
    ∙ by-lanes (at North) (at NorthEast) (at East) (at SouthEast) (at South) (at SouthWest) (at West) (at NorthWest)
    ∙ flips-together (run (cells_of own opp) s)

-- The two words after a move, square by square.

-- the words after these discs were made own and the board was exchanged share no bit
pub play-disjoint : (own opp discs : ℕ) → opp < 2 ^ 64 → discs < 2 ^ 64 → bit_and own opp ≡ 0 → bit_and (bit_and opp (2 ^ 64 - 1 - discs)) (bit_or own discs) ≡ 0
play-disjoint own opp discs opp_fits discs_fit disjoint =
    let kept = bit_and opp (2 ^ 64 - 1 - discs) in
    let low : bit_and kept (bit_or own discs) < 2 ^ 64 = omega (arith, and_le_l kept (bit_or own discs), and_le_l opp (2 ^ 64 - 1 - discs)) in
    let zero_low : 0 < 2 ^ 64 = omega arith in
    same_from_bits_below 64 _ _ low zero_low (λ i below.
    let not_discs = bit_at_not w64 discs i discs_fit below in
    rw (bit_at_and kept (bit_or own discs) i, bit_at_and opp (2 ^ 64 - 1 - discs) i, bit_at_or own discs i, bit_at-zero i)
    (omega (arith, not_discs, apart own opp i disjoint, bit_at-lt discs i)))

-- one square after the move
played-cell : (own opp discs : ℕ) → own < 2 → opp < 2 → discs < 2 → min own opp ≡ 0 → (made : Bool) → discs ≡ cond made 1 0
    → cond (eqb (min opp (1 - discs)) 1) Own (cond (eqb (max own discs) 1) Opp Empty) ≡ exchanged_cell (cond made Own (cond (eqb own 1) Own (cond (eqb opp 1) Opp Empty)))
played-cell own opp discs h4 h5 h6 h7 made h9 = grind (arith, apart, exchanged-cell_of-by)

-- all cells after a move, where the word holds just these squares
pub played-cells_of : (own opp discs : ℕ) (squares_made : List ℕ) → discs < 2 ^ 64 → bit_and own opp ≡ 0
    → ((i : ℕ) → bit_at discs i ≡ cond (is_among i squares_made) 1 0)
    → cells_of (bit_and opp (2 ^ 64 - 1 - discs)) (bit_or own discs) ≡ exchanged (made_own squares_made (cells_of own opp))
played-cells_of own opp discs made discs_fit disjoint same =
    let board = cells_of own opp in
    map-squares-same (cell_of (bit_and opp (2 ^ 64 - 1 - discs)) (bit_or own discs)) (λ s. exchanged_cell (cond (is_among s made) Own (cell_at board s))) (λ s below.
    let not_discs : bit_at (2 ^ 64 - 1 - discs) s ≡ 1 - bit_at discs s = bit_at_not w64 discs s discs_fit below in
    rw (bit_at_and opp (2 ^ 64 - 1 - discs) s, bit_at_or own discs s, not_discs, cell_at-cells_of own opp s below)
    (played-cell (bit_at own s) (bit_at opp s) (bit_at discs s) (bit_at-lt own s) (bit_at-lt opp s) (bit_at-lt discs s) (apart own opp s disjoint) (is_among s made) (same s)))
    ∙ sym (map-map exchanged_cell (λ s. cond (is_among s made) Own (cell_at board s)) squares)

-- the word that `play` makes holds the square and what it flips
pub bit_at-made : (flipped : List ℕ) (s i : ℕ) → bit_at (bit_or (bits_of flipped) (2 ^ s)) i ≡ cond (is_among i (s ∷ flipped)) 1 0
bit_at-made flipped s i = ap (λ n. bit_at n i) (or_comm (bits_of flipped) (2 ^ s)) ∙ bit_at-bits_of (s ∷ flipped) i
