-- Representation: the directions of an Othello board as its words of bits see them: as shifts.
use Rattle.othello_board.proofs.Common.{bit_at, Direction, North, NorthEast, East, SouthEast, South, SouthWest, West, NorthWest, ◌≡◌, zero, suc, ◌*◌, ◌/◌, ◌%◌, ◌^◌, ◌<◌, ◌≤◌, Bool, true, ◌&&◌, eqb, leb, ltb, inl, inr, sym, ap, ◌∙◌, arith, false, [], ◌∷◌, unwrap_or, ◌||◌, get_or, List, refl, subst, ℕ, ◌+◌, ◌-◌, nat_lt, if◌then◌else◌, Option, Some, None, ltb-true, leb-true, eqb-true, and_parts, div-add-mod', mod_below, pow_pos, eqb_tells, bit_at-zero, bit_at_above, bit_at_cat_low, bit_at_cat_high, option_map, step, squares_beside, ray, list_all, RAYS, bits_of}

-- the opposite direction
abbrev pub opposite : Direction → Direction
opposite North = South
opposite NorthEast = SouthWest
opposite East = West
opposite SouthEast = NorthWest
opposite South = North
opposite SouthWest = NorthEast
opposite West = East
opposite NorthWest = SouthEast

-- bit s of a word for Some s, and 0 for None
abbrev pub bit_there : ℕ → Option ℕ → ℕ
bit_there word None = 0
bit_there word (Some s) = bit_at word s

-- t - k, or None where t is less than k
abbrev pub less_by : ℕ → ℕ → Option ℕ
less_by k t = if nat_lt t k then None else Some (t - k)

-- t + k, or None where that is over 63
abbrev pub more_by : ℕ → ℕ → Option ℕ
more_by k t = if nat_lt (t + k) 64 then Some (t + k) else None

-- the square whose bit a shift of a word by one step in a direction moves to square t; None where the shift brings in
-- a 0. The shift ignores the left and the right edge: a step beyond column h comes in at column a, and the other way
-- round
abbrev pub slid_from : Direction → ℕ → Option ℕ
slid_from North t = more_by 8 t
slid_from NorthEast t = more_by 7 t
slid_from East t = less_by 1 t
slid_from SouthEast t = less_by 9 t
slid_from South t = less_by 8 t
slid_from SouthWest t = less_by 7 t
slid_from West t = more_by 1 t
slid_from NorthWest t = more_by 9 t

-- A shifted word, bit by bit.

-- a test that holds below n
abbrev pub all_below : ℕ → (ℕ → Bool) → Bool
all_below zero test = true
all_below (suc n) test = test n && all_below n test

pub holds-below : (n : ℕ) (test : ℕ → Bool) → all_below n test ≡ true → (s : ℕ) → s < n → test s ≡ true
holds-below zero test all s below = absurd (omega arith)
holds-below (suc n) test all s below =
    let parts = and_parts (test n) (all_below n test) all in
    elim (eqb_tells s n) [
      | inl same ↦ ap test same.1 ∙ parts.0
      | inr other ↦ holds-below n test parts.1 s (omega (arith, other.1))
    ]

-- a word shifted right and left, bit by bit
pub bit_at-right : (x k t : ℕ) → bit_at (x / 2 ^ k) t ≡ bit_at x (t + k)
bit_at-right x k t =
    let back : t + k - k ≡ t = omega arith in
    sym (ap (λ n. bit_at n (t + k)) (sym (div-add-mod' x (2 ^ k)))
    ∙ bit_at_cat_high (x / 2 ^ k) k (x % 2 ^ k) (t + k) (mod_below x (2 ^ k) (pow_pos k)) (omega arith)
    ∙ ap (bit_at (x / 2 ^ k)) back)

pub bit_at-left : (x k t : ℕ) → t < 64 → bit_at (x * 2 ^ k % 2 ^ 64) t ≡ bit_at (x * 2 ^ k + 0) t
bit_at-left x k t below =
    let y = x * 2 ^ k in
    sym (ap (λ n. bit_at n t) (omega arith ∙ sym (div-add-mod' y (2 ^ 64)))
    ∙ bit_at_cat_low (y / 2 ^ 64) 64 (y % 2 ^ 64) t below)

-- whether a shift to the left (up_test) or right (down_test) by k brings to square t the bit of this square; of None: a 0
abbrev pub up_test : ℕ → ℕ → Option ℕ → Bool
up_test k t None = ltb t k
up_test k t (Some s) = leb k t && eqb s (t - k)

abbrev pub down_test : ℕ → ℕ → Option ℕ → Bool
down_test k t None = ltb 63 (t + k)
down_test k t (Some s) = eqb s (t + k)

-- where the test holds, the shift brings that bit
up-by : (x k t : ℕ) (from : Option ℕ) → t < 64 → up_test k t from ≡ true → bit_at (x * 2 ^ k % 2 ^ 64) t ≡ bit_there x from
up-by x k t None below test =
    let fell : t < k = ltb-true t k test in
    omega (arith, bit_at-left x k t below, bit_at_cat_low x k 0 t fell, bit_at-zero t)
up-by x k t (Some s) below test =
    let parts = and_parts (leb k t) (eqb s (t - k)) test in
    let high : k ≤ t = leb-true k t parts.0 in
    let from : s ≡ t - k = eqb-true s (t - k) parts.1 in
    bit_at-left x k t below ∙ bit_at_cat_high x k 0 t (pow_pos k) high ∙ ap (bit_at x) (sym from)

down-by : (x k t : ℕ) (from : Option ℕ) → x < 2 ^ 64 → t < 64 → down_test k t from ≡ true → bit_at (x / 2 ^ k) t ≡ bit_there x from
down-by x k t None fits below test =
    let over : 63 < t + k = ltb-true 63 (t + k) test in
    omega (arith, bit_at-right x k t, bit_at_above x 64 (t + k) fits (omega arith))
down-by x k t (Some s) fits below test = bit_at-right x k t ∙ ap (bit_at x) (sym (eqb-true s (t + k) test))

-- a shift does what a table of squares says, where it does so at each square
pub slid-up : (x k : ℕ) (from : ℕ → Option ℕ) → all_below 64 (λ t. up_test k t (from t)) ≡ true → (t : ℕ) → t < 64 → bit_at (x * 2 ^ k % 2 ^ 64) t ≡ bit_there x (from t)
slid-up x k from all t below = up-by x k t (from t) below (holds-below 64 (λ s. up_test k s (from s)) all t below)

pub slid-down : (x k : ℕ) (from : ℕ → Option ℕ) → all_below 64 (λ t. down_test k t (from t)) ≡ true → x < 2 ^ 64 → (t : ℕ) → t < 64 → bit_at (x / 2 ^ k) t ≡ bit_there x (from t)
slid-down x k from all fits t below = down-by x k t (from t) fits below (holds-below 64 (λ s. down_test k s (from s)) all t below)

-- Steps and the way back.

-- a step leads to a square of the board, and a step in the other direction leads back
abbrev is_square : ℕ → Option ℕ → Bool
is_square s None = false
is_square s (Some t) = eqb t s

abbrev back_test : Direction → ℕ → Option ℕ → Bool
back_test back s None = true
back_test back s (Some t) = ltb t 64 && is_square s (step back t)

is_square-true : (s : ℕ) (o : Option ℕ) → is_square s o ≡ true → o ≡ Some s
is_square-true s o h3 = grind arith

back-by : (back : Direction) (s t : ℕ) (next : Option ℕ) → back_test back s next ≡ true → next ≡ Some t → (t < 64) × (step back t ≡ Some s)
back-by back s t next h5 h6 = grind (arith, is_square-true)

back-everywhere : (d : Direction) → all_below 64 (λ s. back_test (opposite d) s (step d s)) ≡ true
back-everywhere d = grind arith

pub step-back : (d : Direction) (s t : ℕ) → s < 64 → step d s ≡ Some t → (t < 64) × (step (opposite d) t ≡ Some s)
step-back d s t below e =
    back-by (opposite d) s t (step d s) (holds-below 64 (λ q. back_test (opposite d) q (step d q)) (back-everywhere d) s below) e

-- the squares beside a square: none at the edge, else the next one and those beside it
pub beside-edge : (n : ℕ) (d : Direction) (s : ℕ) → step d s ≡ None → squares_beside (suc n) d s ≡ []
unfolding squares_beside
beside-edge n d s edge = ap (λ next. unwrap_or (option_map (λ t. t ∷ squares_beside n d t) next) []) edge

pub beside-next : (n : ℕ) (d : Direction) (s t : ℕ) → step d s ≡ Some t → squares_beside (suc n) d s ≡ t ∷ squares_beside n d t
unfolding squares_beside
beside-next n d s t next = ap (λ found. unwrap_or (option_map (λ u. u ∷ squares_beside n d u) found) []) next

-- The table of rays holds what the rules say, and the squares of a ray come in order.

-- where the table has the rays of a direction
abbrev pub number_of : Direction → ℕ
number_of East = 0
number_of SouthEast = 1
number_of South = 2
number_of SouthWest = 3
number_of West = 4
number_of NorthWest = 5
number_of North = 6
number_of NorthEast = 7

-- whether a step in a direction leads to a greater square
abbrev pub rises : Direction → Bool
rises East = true
rises SouthEast = true
rises South = true
rises SouthWest = true
rises _ = false

-- by how many squares a step in a direction rises or falls
abbrev pub stride : Direction → ℕ
stride East = 1
stride West = 1
stride SouthEast = 9
stride NorthWest = 9
stride South = 8
stride North = 8
stride SouthWest = 7
stride NorthEast = 7

holds-in-table : (d : Direction) → all_below 64 (λ s. eqb (get_or (get_or RAYS s []) (number_of d) 0) (bits_of (ray d s))) ≡ true
unfolding squares_beside
holds-in-table North = refl
holds-in-table NorthEast = refl
holds-in-table East = refl
holds-in-table SouthEast = refl
holds-in-table South = refl
holds-in-table SouthWest = refl
holds-in-table West = refl
holds-in-table NorthWest = refl

pub table-read : (d : Direction) (s : ℕ) → s < 64 → get_or (get_or RAYS s []) (number_of d) 0 ≡ bits_of (ray d s)
table-read d s below =
    eqb-true (get_or (get_or RAYS s []) (number_of d) 0) (bits_of (ray d s)) (holds-below 64 (λ t. eqb (get_or (get_or RAYS t []) (number_of d) 0) (bits_of (ray d t))) (holds-in-table d) s below)

-- the word of the table for a square and a direction
abbrev pub ray_at : ℕ → Direction → ℕ
ray_at s d = get_or (get_or RAYS s []) (number_of d) 0

rays-fit : (d : Direction) → all_below 64 (λ s. ltb (bits_of (ray d s)) (2 ^ 64)) ≡ true
unfolding squares_beside
rays-fit North = refl
rays-fit NorthEast = refl
rays-fit East = refl
rays-fit SouthEast = refl
rays-fit South = refl
rays-fit SouthWest = refl
rays-fit West = refl
rays-fit NorthWest = refl

pub ray-fits : (d : Direction) (s : ℕ) → s < 64 → ray_at s d < 2 ^ 64
ray-fits d s below =
    subst (λ n. n < 2 ^ 64) (sym (table-read d s below)) (ltb-true (bits_of (ray d s)) (2 ^ 64) (holds-below 64 (λ t. ltb (bits_of (ray d t)) (2 ^ 64)) (rays-fit d) s below))

-- one square comes before another where the numbers rise, or where they fall
abbrev pub comes : Bool → ℕ → ℕ → Bool
comes true s t = ltb s t
comes false s t = ltb t s

-- the squares of a list are on the board, and each comes before those after it
abbrev pub ordered : Bool → List ℕ → Bool
ordered up [] = true
ordered up (s ∷ more) = ltb s 64 && (list_all (comes up s) more && ordered up more)

rays-ordered : (d : Direction) → all_below 64 (λ s. ordered (rises d) (ray d s)) ≡ true
unfolding squares_beside
rays-ordered North = refl
rays-ordered NorthEast = refl
rays-ordered East = refl
rays-ordered SouthEast = refl
rays-ordered South = refl
rays-ordered SouthWest = refl
rays-ordered West = refl
rays-ordered NorthWest = refl

pub ray-ordered : (d : Direction) (s : ℕ) → s < 64 → ordered (rises d) (ray d s) ≡ true
ray-ordered d s below = holds-below 64 (λ t. ordered (rises d) (ray d t)) (rays-ordered d) s below

-- the squares of a list fall by this number at each step: each is more than those after it by that number, up to 6 times
abbrev pub falls_to : ℕ → ℕ → ℕ → Bool
falls_to k s t = eqb s (t + k) || (eqb s (t + 2 * k) || (eqb s (t + 3 * k) || (eqb s (t + 4 * k) || (eqb s (t + 5 * k) || eqb s (t + 6 * k)))))

abbrev pub falls_by : ℕ → List ℕ → Bool
falls_by k [] = true
falls_by k (s ∷ more) = list_all (falls_to k s) more && falls_by k more

rays-fall : (d : Direction) → all_below 64 (λ s. rises d || falls_by (stride d) (ray d s)) ≡ true
unfolding squares_beside
rays-fall North = refl
rays-fall NorthEast = refl
rays-fall East = refl
rays-fall SouthEast = refl
rays-fall South = refl
rays-fall SouthWest = refl
rays-fall West = refl
rays-fall NorthWest = refl

pub ray-falls : (d : Direction) (s : ℕ) → s < 64 → rises d || falls_by (stride d) (ray d s) ≡ true
ray-falls d s below = holds-below 64 (λ t. rises d || falls_by (stride d) (ray d t)) (rays-fall d) s below
