-- What suffices for a search, by the empty squares and the opposing discs of its position: it meets the inequality of
-- each frame; and how it is computed.
use Rattle.jamboree_core.proofs.Common.{◌≡◌, ℕ, inl, inr, Bool, true, false, List, [], ◌∷◌, length, refl, ap, subst, ◌∙◌, ◌+◌, ◌-◌, ◌<◌, ◌≤◌, arith, cases_Bool, replicate, Cell, zero, suc, ◌*◌, slice_index_or, map, if◌then◌else◌, ne_eqb, get_or-map, All-get_or, All-from_get_or, sum_by-le, is_nil, exchanged, played, Choice, Square, Pass, IsAllowed, choices, legal_squares, empty_squares, opposing_discs, after, plies, choices_allowed, legal-empty, legal-opposing, few-choices, exchanged-empty, board-parts, played-fewer, charge, Cost, choice_of, search_cost, later_cost, later_costs, first_costs, choice_costs, IsEnough, enough_nodes, Size, choice_sizes, IsRoomy, enough_segments, most_choices, choices_within, spawning_plies, search_nodes, search_segments, board_nodes, board_segments, length-map, mul-le, Option, Some, None, sym, ReserveOf, cells_of, ◌≢◌, ◌^◌, ◌↔◌, min, max, count_by, IsSome, IfSome, cases_lt, IsWithinLimits, is_own_cell, is_opp_cell, count-squares, count-own}

-- ---- the choices of a board

abbrev within : List Cell → ℕ
within b = choices_within (empty_squares b) (opposing_discs b)

-- the bound is the same for both players
within-exchanged : (b : List Cell) → within (exchanged b) ≡ within b
within-exchanged b = let empty = exchanged-empty b in let parts = board-parts b in omega (arith, empty, parts)

module _ (b : List Cell) (moves : is_nil (legal_squares b) ≡ false) where
  are : choices b ≡ map Square (legal_squares b)
  are = rw moves refl

  as-many : length (choices b) ≡ length (legal_squares b)
  as-many = rw are (length-map (legal_squares b) Square)

  few : length (choices b) ≤ within b
  few = let all = few-choices b in let same = as-many in let empty = legal-empty b in let opposing = legal-opposing b in omega (arith, all, same, empty, opposing)

  -- each choice is a legal square
  square-at : (i : ℕ) → i < length (choices b) → (s : ℕ) × (choice_of b i ≡ Square s) × (suc (empty_squares (played b s)) ≤ empty_squares b)
  square-at i inside =
      let s = slice_index_or (legal_squares b) i 0 in
      let same = as-many in
      let is : choice_of b i ≡ Square s = ap (λ (cs : List Choice). slice_index_or cs i Pass) are ∙ get_or-map Square (legal_squares b) i 0 Pass (omega (arith, inside, same)) in
      let allowed = subst (IsAllowed b) is (All-get_or (IsAllowed b) (choices b) i Pass inside (choices_allowed b)) in
      (s, is, played-fewer b s allowed.0 allowed.1)

-- ---- what grows with the plies

-- a recursion over plies: a frame with c choices takes own c, and times c as much as each search of a choice
record IsGrown (takes : (choices empty plies : ℕ) → ℕ) (own times : ℕ → ℕ) : Type 0 where
  pub none : (c e : ℕ) → takes c e 0 ≡ 1
  pub some : (c e p : ℕ) → takes c e (suc p) ≡ own c + times c * takes (most_choices (e - 1)) (e - 1) p
  pub two : (c : ℕ) → 2 ≤ own c
  pub own_more : (c d : ℕ) → c ≤ d → own c ≤ own d
  pub times_more : (c d : ℕ) → c ≤ d → times c ≤ times d

-- what a frame takes: one less than that where it doesn't pass
abbrev level : ((choices empty plies : ℕ) → ℕ) → Bool → ℕ → ℕ → ℕ → ℕ
level takes passes c e zero = 1
level takes passes c e (suc p) = takes c e (suc p) - (if passes then 0 else 1)

abbrev board_level : ((choices empty plies : ℕ) → ℕ) → ℕ → ℕ → List Cell → ℕ
board_level takes grain depth b = level takes (is_nil (legal_squares b)) (within b) (empty_squares b) (depth - grain)

module _ {takes : (choices empty plies : ℕ) → ℕ} {own times : ℕ → ℕ} (grown : IsGrown takes own times) where
  takes-more : (c d e f p : ℕ) → c ≤ d → e ≤ f → takes c e p ≤ takes d f p
  takes-more c d e f zero less fewer = let one = grown.none c e in let other = grown.none d f in omega (arith, one, other)
  takes-more c d e f (suc p) less fewer =
      let rest = takes-more (most_choices (e - 1)) (most_choices (f - 1)) (e - 1) (f - 1) p (omega (arith, fewer)) (omega (arith, fewer)) in
      let whole = mul-le (times c) (takes (most_choices (e - 1)) (e - 1) p) (times d) (takes (most_choices (f - 1)) (f - 1) p) (grown.times_more c d less) rest in
      let front = grown.own_more c d less in
      let one = grown.some c e p in
      let other = grown.some d f p in
      omega (arith, whole, front, one, other)

  level-some : (passes : Bool) (c e p : ℕ) → (1 ≤ level takes passes c e p) × (level takes passes c e p ≤ takes c e p)
  level-some passes c e zero = let one = grown.none c e in (omega arith, omega (arith, one))
  level-some true c e (suc p) = let is = grown.some c e p in let two = grown.two c in (omega (arith, is, two), omega arith)
  level-some false c e (suc p) = let is = grown.some c e p in let two = grown.two c in (omega (arith, is, two), omega arith)

  board-some : (grain depth : ℕ) (b : List Cell) → 1 ≤ board_level takes grain depth b
  board-some grain depth b = (level-some (is_nil (legal_squares b)) (within b) (empty_squares b) (depth - grain)).0

  -- a frame that passes opens one, which doesn't
  level-pass : (c e p q : ℕ) → q ≤ suc p → (1 ≤ q → q ≡ suc p) → suc (level takes false c e q) ≤ takes c e (suc p)
  level-pass c e p zero le is = let all = grown.some c e p in let two = grown.two c in omega (arith, all, two)
  level-pass c e p (suc q) le is = let same : q ≡ p = omega (arith, is (omega arith)) in let all = grown.some c e p in let two = grown.two c in rw same (omega (arith, all, two))

  module _ (grain depth : ℕ) (b : List Cell) where
    abbrev below : ℕ
    below = takes (most_choices (empty_squares b - 1)) (empty_squares b - 1) (depth - 1 - grain)

    square-level : is_nil (legal_squares b) ≡ false → (i : ℕ) → i < length (choices b) → board_level takes grain (depth - plies (choice_of b i)) (after b (choice_of b i)) ≤ below
    square-level moves i inside =
        let s = square-at b moves i inside in
        let after = played b s.0 in
        let fewer = s.2 in
        let under = (level-some (is_nil (legal_squares after)) (within after) (empty_squares after) (depth - 1 - grain)).1 in
        let more = takes-more (within after) (most_choices (empty_squares b - 1)) (empty_squares after) (empty_squares b - 1) (depth - 1 - grain) (omega (arith, fewer)) (omega (arith, fewer)) in
        rw s.1 (omega (arith, under, more))

    pass-level : 1 ≤ depth → is_nil (legal_squares (exchanged b)) ≡ false → suc (board_level takes grain (depth - 0) (exchanged b)) ≤ takes (within b) (empty_squares b) (suc (depth - 1 - grain))
    pass-level deep goes =
        rw (goes, within-exchanged b, exchanged-empty b)
        (level-pass (within b) (empty_squares b) (depth - 1 - grain) (depth - 0 - grain) (omega (arith, deep)) (λ over. omega (arith, over, deep)))

    -- what all choices take, by whether there is a square
    whole-level : (all : ℕ) → (is_nil (legal_squares b) ≡ true → all ≤ takes (within b) (empty_squares b) (suc (depth - 1 - grain))) →
        (is_nil (legal_squares b) ≡ false → suc all ≤ own (within b) + times (within b) * below) → all ≤ level takes (is_nil (legal_squares b)) (within b) (empty_squares b) (suc (depth - 1 - grain))
    whole-level all passes moves = elim (cases_Bool (is_nil (legal_squares b))) [
      | inl lacks ↦ (let most = passes lacks in rw lacks (omega (arith, most)))
      | inr square ↦ (let is = grown.some (within b) (empty_squares b) (depth - 1 - grain) in let most = moves square in rw square (omega (arith, is, most)))
    ]

deeper : (grain depth : ℕ) → grain < depth → depth - grain ≡ suc (depth - 1 - grain)
deeper grain depth deep = omega arith

spawning : (grain depth : ℕ) → spawning_plies (suc depth) grain ≡ suc (suc depth - 1 - grain)
spawning grain depth = omega arith

-- ---- nodes

nodes-grown : IsGrown search_nodes (λ c. 2) (λ c. 2 * c - 1)
nodes-grown = record { none = λ c e. refl; some = λ c e p. refl; two = λ c. omega arith; own_more = λ c d less. omega arith; times_more = λ c d less. omega (arith, less) }

-- the frames under one that opens frames: all of its search but itself
abbrev board_cost : ℕ → Cost
board_cost grain depth narrow b = board_level search_nodes grain depth b - 1

-- choices that aren't spawned cost each at most m
later-most : (cost : ℕ → ℕ → ℕ) (m k n : ℕ) → ((i : ℕ) → k ≤ i → i < k + n → cost i 0 ≤ m) → later_costs cost k (replicate n 0) ≤ n * m
later-most cost m k zero each = omega arith
later-most cost m k (suc n) each =
    let one = each k (omega arith) (omega arith) in
    let rest = later-most cost m (suc k) n (λ i low high. each i (omega arith) (omega arith)) in
    omega (arith, one, rest)

module _ (grain depth : ℕ) (b : List Cell) where
  module _ (moves : is_nil (legal_squares b) ≡ false) where
    one-cost : (i : ℕ) (narrow : Bool) → i < length (choices b) → search_cost (board_cost grain) depth b i narrow ≤ below nodes-grown grain depth b
    one-cost i narrow inside =
        let most = square-level nodes-grown grain depth b moves i inside in
        let some = board-some nodes-grown grain (depth - plies (choice_of b i)) (after b (choice_of b i)) in
        omega (arith, most, some)

    later-cost : (narrow : Bool) (i : ℕ) → i < length (choices b) → later_cost (board_cost grain) depth narrow b i 0 ≤ below nodes-grown grain depth b + below nodes-grown grain depth b
    later-cost narrow i inside = grind (arith, one-cost i true inside, one-cost i false inside)

    squares-cost : (narrow : Bool) (n : ℕ) → length (choices b) ≡ n → choice_costs (board_cost grain) depth narrow b ≤ (2 * within b - 1) * below nodes-grown grain depth b
    squares-cost narrow zero many = rw many (omega arith)
    squares-cost narrow (suc n) many =
        let all = below nodes-grown grain depth b in
        let first = one-cost 0 narrow (omega (arith, many)) in
        let later = later-most (later_cost (board_cost grain) depth narrow b) (all + all) 1 n (λ i low high. later-cost narrow i (omega (arith, many, low, high))) in
        let most = few b moves in
        let whole = mul-le (suc (n + n)) all (2 * within b - 1) all (omega (arith, most, many)) (omega arith) in
        rw many (omega (arith, first, later, whole))

  pass-cost : (narrow : Bool) → 1 ≤ depth → is_nil (legal_squares b) ≡ true → suc (choice_costs (board_cost grain) depth narrow b) ≤ search_nodes (within b) (empty_squares b) (suc (depth - 1 - grain))
  pass-cost narrow some none = elim (cases_Bool (is_nil (legal_squares (exchanged b)))) [
    | inl over ↦ rw (none, over) (omega arith)
    | inr goes ↦ (let less = pass-level nodes-grown grain depth b some goes in
        let one = board-some nodes-grown grain (depth - 0) (exchanged b) in
        let e : choices b ≡ Pass ∷ [] = rw (none, goes) refl in
        let all : choice_costs (board_cost grain) depth narrow b ≡ suc (board_cost grain (depth - 0) narrow (exchanged b)) + 0 =
        ap (λ (cs : List Choice). first_costs (board_cost grain) depth narrow b (replicate (length cs) 0)) e
        ∙ ap (λ (cs : List Choice). suc (board_cost grain (depth - plies (slice_index_or cs 0 Pass)) narrow (after b (slice_index_or cs 0 Pass))) + 0) e in
        omega (arith, all, less, one))
  ]

  all-costs : (narrow : Bool) → 1 ≤ depth → suc (choice_costs (board_cost grain) depth narrow b) ≤ level search_nodes (is_nil (legal_squares b)) (within b) (empty_squares b) (suc (depth - 1 - grain))
  all-costs narrow some = whole-level nodes-grown grain depth b (suc (choice_costs (board_cost grain) depth narrow b)) (pass-cost narrow some)
      (λ moves. let most = squares-cost moves narrow (length (choices b)) refl in omega (arith, most))

pub positions-enough : (grain : ℕ) → IsEnough grain (board_cost grain)
positions-enough grain = record {
  choices = λ depth narrow b deep. (let costs = all-costs grain depth b narrow (omega (arith, deep)) in rw (deeper grain depth deep) (omega (arith, costs)));
  narrow = λ depth b. omega arith;
}

-- the nodes of a root's search
pub root-nodes : (grain depth : ℕ) (b : List Cell) → enough_nodes (board_cost grain) depth b ≤ board_nodes depth grain b
root-nodes grain zero b = let is : spawning_plies zero grain ≡ suc zero = omega arith in rw is (omega arith)
root-nodes grain (suc depth) b =
    let costs = all-costs grain (suc depth) b false (omega arith) in
    let less = (level-some nodes-grown (is_nil (legal_squares b)) (within b) (empty_squares b) (suc (suc depth - 1 - grain))).1 in
    rw (spawning grain depth, ne_eqb (suc depth) 0 (λ e. absurd (omega arith))) (omega (arith, costs, less))

-- ---- segments

segments-grown : IsGrown search_segments (λ c. 1 + charge (12 + c)) (λ c. c)
segments-grown = record { none = λ c e. refl; some = λ c e p. omega arith; two = λ c. omega arith; own_more = λ c d less. omega (arith, less); times_more = λ c d less. less }

abbrev board_size : ℕ → Size
board_size grain depth b = board_level search_segments grain depth b

module _ (grain depth : ℕ) (b : List Cell) where
  squares-size : is_nil (legal_squares b) ≡ false → choice_sizes (board_size grain) depth b ≤ charge (12 + within b) + within b * below segments-grown grain depth b
  squares-size moves =
      let size = λ (choice : Choice). board_size grain (depth - plies choice) (after b choice) in
      let most = below segments-grown grain depth b in
      let all = sum_by-le size most (choices b) (All-from_get_or (λ choice. size choice ≤ most) (choices b) Pass (square-level segments-grown grain depth b moves)) in
      let many = few b moves in
      let whole = mul-le (length (choices b)) most (within b) most many (omega arith) in
      omega (arith, all, whole, many)

  pass-size : 1 ≤ depth → is_nil (legal_squares b) ≡ true → choice_sizes (board_size grain) depth b ≤ search_segments (within b) (empty_squares b) (suc (depth - 1 - grain))
  pass-size some none = elim (cases_Bool (is_nil (legal_squares (exchanged b)))) [
    | inl over ↦ rw (none, over) (omega arith)
    | inr goes ↦ (let less = pass-level segments-grown grain depth b some goes in rw (none, goes) (omega (arith, less)))
  ]

  all-sizes : 1 ≤ depth → choice_sizes (board_size grain) depth b ≤ level search_segments (is_nil (legal_squares b)) (within b) (empty_squares b) (suc (depth - 1 - grain))
  all-sizes some = whole-level segments-grown grain depth b (choice_sizes (board_size grain) depth b) (pass-size some) (λ moves. let most = squares-size moves in omega (arith, most))

pub positions-roomy : (grain : ℕ) → IsRoomy grain (board_size grain)
positions-roomy grain = record { choices = λ depth b deep. rw (deeper grain depth deep) (all-sizes grain depth b (omega (arith, deep))); some = board-some segments-grown grain }

-- the segments of a root's search
pub root-segments : (grain depth : ℕ) (b : List Cell) → enough_segments (board_size grain) depth b ≤ board_segments depth grain b
root-segments grain zero b = let is : spawning_plies zero grain ≡ suc zero = omega arith in rw is (omega arith)
root-segments grain (suc depth) b =
    let sizes = all-sizes grain (suc depth) b (omega arith) in
    let less = (level-some segments-grown (is_nil (legal_squares b)) (within b) (empty_squares b) (suc (suc depth - 1 - grain))).1 in
    rw (spawning grain depth, ne_eqb (suc depth) 0 (λ e. absurd (omega arith))) (omega (arith, sizes, less))

-- ---- any position

pub any-nodes : (grain depth : ℕ) (b : List Cell) → board_nodes depth grain b ≤ search_nodes 56 64 (spawning_plies depth grain)
any-nodes grain depth b = takes-more nodes-grown (within b) 56 (empty_squares b) 64 (spawning_plies depth grain) (omega arith) (let parts = board-parts b in omega (arith, parts))

pub any-segments : (grain depth : ℕ) (b : List Cell) → board_segments depth grain b ≤ search_segments 56 64 (spawning_plies depth grain)
any-segments grain depth b = takes-more segments-grown (within b) 56 (empty_squares b) 64 (spawning_plies depth grain) (omega arith) (let parts = board-parts b in omega (arith, parts))

abbrev pub most : ℕ
most = 2 ^ 32 - 1

saturated : (k x m : ℕ) → min (k * min x m) m ≡ min (k * x) m
saturated zero x m = omega arith
saturated (suc k) x m = elim (cases_lt x m) [
  | inl below ↦ (let same : min x m ≡ x = omega (arith, below) in rw same refl)
  | inr over ↦ (let same : min x m ≡ m = omega (arith, over) in let all : m + k * m ≤ x + k * x + m + k * m = omega arith in rw same (omega (arith, over, all)))
]

pub segments-step : (choices empty plies left first below product frame sum : ℕ) → plies ≢ 0 → left ≡ empty - 1 → first ≡ most_choices left → below ≡ min (search_segments first left (plies - 1)) most →
    product ≡ min (choices * below) most → frame ≡ charge (12 + choices) → sum ≡ min (product + (1 + frame)) most → sum ≡ min (search_segments choices empty plies) most
segments-step choices empty zero left first below product frame sum some is_left is_first is_below is_product is_frame is_sum = absurd (some refl)
segments-step choices empty (suc plies) left first below product frame sum some is_left is_first is_below is_product is_frame is_sum =
    let one : suc plies - 1 ≡ plies = omega arith in
    let under = rw (is_first, is_left, one) at is_below in
    let whole = saturated choices (search_segments (most_choices (empty - 1)) (empty - 1) plies) most in
    rw (is_sum, is_product, under) (omega (arith, whole, is_frame))

pub nodes-step : (choices empty plies left first below searches product sum : ℕ) → plies ≢ 0 → left ≡ empty - 1 → first ≡ most_choices left → below ≡ min (search_nodes first left (plies - 1)) most →
    searches ≡ 2 * choices - 1 → product ≡ min (searches * below) most → sum ≡ min (product + 2) most → sum ≡ min (search_nodes choices empty plies) most
nodes-step choices empty zero left first below searches product sum some is_left is_first is_below is_searches is_product is_sum = absurd (some refl)
nodes-step choices empty (suc plies) left first below searches product sum some is_left is_first is_below is_searches is_product is_sum =
    let one : suc plies - 1 ≡ plies = omega arith in
    let under = rw (is_first, is_left, one) at is_below in
    let whole = saturated (2 * choices - 1) (search_nodes (most_choices (empty - 1)) (empty - 1) plies) most in
    rw (is_sum, is_product, under, is_searches) (omega (arith, whole))

-- the discs and the empty squares of two words, by their counts
module _ (own opp : ℕ) {mine theirs : ℕ} (are_mine : mine ≡ count_by is_own_cell (cells_of own opp)) (are_theirs : theirs ≡ count_by is_opp_cell (cells_of own opp)) where
  pub opposing : opposing_discs (cells_of own opp) ≡ theirs
  opposing = count-squares is_opp_cell own opp ∙ sym are_theirs

  pub all-squares : empty_squares (cells_of own opp) + (theirs + mine) ≡ 64
  all-squares = let parts = board-parts (cells_of own opp) in let other = count-own own opp in let seen = opposing in omega (arith, parts, other, seen, are_mine)

  -- what is computed of them is what suffices
  module _ (depth grain : ℕ) {empty choices plies : ℕ} (is_empty : empty ≡ 64 - mine - theirs) (are_choices : choices ≡ min (min empty 56) (8 * max mine theirs)) (are_plies : plies ≡ max (depth - grain) 1) where
    at-empty : empty ≡ empty_squares (cells_of own opp)
    at-empty = let all = all-squares in omega arith

    at-choices : choices ≡ choices_within (empty_squares (cells_of own opp)) (opposing_discs (cells_of own opp))
    at-choices = let all = all-squares in let seen = opposing in let same = at-empty in omega arith

    at-plies : plies ≡ spawning_plies depth grain
    at-plies = omega arith

    pub are-segments : search_segments choices empty plies ≡ board_segments depth grain (cells_of own opp)
    are-segments = rw (at-choices, at-empty, at-plies) refl

    pub are-nodes : search_nodes choices empty plies ≡ board_nodes depth grain (cells_of own opp)
    are-nodes = rw (at-choices, at-empty, at-plies) refl

-- what is within the limits isn't cut off
module _ {segments nodes : ℕ} (s n : ℕ) (are_segments : segments ≡ min s most) (are_nodes : nodes ≡ min n most) where
  pub within-limits : (found : Option ReserveOf) → IsSome found ↔ IsWithinLimits (record { segments = segments; nodes = nodes }) → IsSome found ↔ IsWithinLimits (record { segments = s; nodes = n })
  within-limits found w = (λ some. let fits = w.0 some in grind arith, λ fits. w.1 (grind arith))

  pub value-within : (found : Option ReserveOf) → IsSome found ↔ IsWithinLimits (record { segments = segments; nodes = nodes }) → IfSome found (λ r. r ≡ record { segments = segments; nodes = nodes }) →
      IfSome found (λ r. r ≡ record { segments = s; nodes = n })
  value-within None w is = tt
  value-within (Some r) w is =
      let fits = w.0 refl in
      let one : segments ≡ s = omega (arith, fits.segments_within) in
      let two : nodes ≡ n = omega (arith, fits.nodes_within) in
      is ∙ rw (one, two) refl
