-- The minimax value of an Othello board: the greatest of the values of some choices, and the first choice that attains
-- a value.
use Rattle.othello_eval.proofs.Common.{◌≡◌, ℤ, Bool, true, false, List, [], ◌∷◌, ◌++◌, map, Option, Some, None, refl, ◌∙◌, ap, arith, cond, ℕ, zero, suc, ◌<◌, sym, length, neg_ℤ, ap₂, Contains, ⊎_elim, int_lt, subst, ◌-◌, pos, ◌-ℤ◌, w32, to_z, of_z, find, ◌≤ℤ◌, ◌<ℤ◌, IsSome, All, int_max, ints, clamps, to_z-of_z, false_from_ne_true, cond_both, cond-true, cond-false, cases_Bool, All-head, All-tail, All-nil, All-cons, All-weaker, All-contains_itself, find-append, option_or, greatest, greatest_or, int_equal, leaf_value, over_squares, value_after, minimax, choice_value, best_choice, Cell, exchanged, played, is_nil, Choice, Square, Pass, choices, choices_without_move, legal_squares, after, plies, length-after, eval, final_value, IsWithin}
use Rattle.std.proofs.lemmas.Simd.{map-map}
use Rattle.othello_eval.proofs.ValueLemmas.{eval-within, final_value-within}

-- two equal numbers pass the test, and two that pass are equal
pub int_equal-same : (x y : ℤ) → x ≡ y → int_equal x y ≡ true
int_equal-same x y same = grind (arith, ints)

pub same-from-int_equal : (x y : ℤ) → int_equal x y ≡ true → x ≡ y
same-from-int_equal x y passed = grind (arith, ints)

pub int_equal-other : (x y : ℤ) → (x ≡ y → ⊥) → int_equal x y ≡ false
int_equal-other x y ne = false_from_ne_true (int_equal x y) (λ e. ne (same-from-int_equal x y e))

pub int_equal-below : (x y : ℤ) → x <ℤ y → int_equal x y ≡ false
int_equal-below x y below = grind (arith, ints)

-- the greater of two numbers is at least each, and at most what both are
pub int_max-upper : (x y top : ℤ) → x ≤ℤ top → y ≤ℤ top → int_max x y ≤ℤ top
int_max-upper x y top first second = omega (arith, ints, clamps)

pub int_max-left : (x y low : ℤ) → low ≤ℤ x → low ≤ℤ int_max x y
int_max-left x y low under = omega (arith, ints, clamps)

pub int_max-right : (x y low : ℤ) → low ≤ℤ y → low ≤ℤ int_max x y
int_max-right x y low under = omega (arith, ints, clamps)

pub greatest-upper : {X : Type 0} (v : X → ℤ) (x : ℤ) (cs : List X) (top : ℤ) → x ≤ℤ top → All (λ c. v c ≤ℤ top) cs → greatest x (map v cs) ≤ℤ top
greatest-upper v x [] top first rest = first
greatest-upper v x (c ∷ cs) top first rest =
    int_max-upper x (greatest (v c) (map v cs)) top first
    (greatest-upper v (v c) cs top (All-head (λ c. v c ≤ℤ top) c cs rest) (All-tail (λ c. v c ≤ℤ top) c cs rest))

-- the greatest value of some choices is at most what each is at most
pub greatest_or-upper : {X : Type 0} (v : X → ℤ) (other : ℤ) (c : X) (cs : List X) (top : ℤ) → All (λ c. v c ≤ℤ top) (c ∷ cs) → greatest_or other (map v (c ∷ cs)) ≤ℤ top
greatest_or-upper v other c cs top all =
    greatest-upper v (v c) cs top (All-head (λ c. v c ≤ℤ top) c cs all) (All-tail (λ c. v c ≤ℤ top) c cs all)

pub greatest-first : (x : ℤ) (ys : List ℤ) → x ≤ℤ greatest x ys
greatest-first x [] = omega (arith, ints)
greatest-first x (y ∷ ys) = int_max-left x (greatest y ys) x (omega (arith, ints))

-- and at least the value of each
pub greatest-lower : {X : Type 0} (v : X → ℤ) (x : ℤ) (before : List X) (c : X) (later : List X) → v c ≤ℤ greatest x (map v (before ++ c ∷ later))
greatest-lower v x [] c later = int_max-right x (greatest (v c) (map v later)) (v c) (greatest-first (v c) (map v later))
greatest-lower v x (b ∷ before) c later = grind (arith, greatest-lower v (v b) before c later, int_max-right)

pub greatest_or-lower : {X : Type 0} (v : X → ℤ) (other : ℤ) (before : List X) (c : X) (later : List X) → v c ≤ℤ greatest_or other (map v (before ++ c ∷ later))
greatest_or-lower v other [] c later = greatest-first (v c) (map v later)
greatest_or-lower v other (b ∷ before) c later = greatest-lower v (v b) before c later

-- the value of the first choice that attains x, or else what is found among the others
pub found-below-max : (value x greatest : ℤ) {X : Type 0} (c : X) (more : Option X) (test : Bool) → int_equal value x ≡ test → (IsSome more → x ≤ℤ greatest) →
    IsSome (cond test (Some c) more) → x ≤ℤ int_max value greatest
found-below-max value x greatest c more test h7 h8 h9 = grind (arith, same-from-int_equal, int_max-left, int_max-right)

-- the greatest of x and these values is at least the greatest of these values
pub found-below-greatest : {X : Type 0} (v : X → ℤ) (x : ℤ) (c : X) (cs : List X) → IsSome (find (λ d. int_equal (v d) x) (c ∷ cs)) → x ≤ℤ greatest (v c) (map v cs)
found-below-greatest v x c [] found = grind (arith, found-below-max)
found-below-greatest v x c (d ∷ cs) found = grind (arith, found-below-greatest v x d cs, found-below-max)

-- none of these choices has a value above all of theirs
pub find-none : {X : Type 0} (v : X → ℤ) (x : ℤ) (cs : List X) → All (λ c. v c <ℤ x) cs → find (λ c. int_equal (v c) x) cs ≡ None
find-none v x [] below = refl
find-none v x (c ∷ cs) below =
    rw (int_equal-below (v c) x (All-head (λ c. v c <ℤ x) c cs below)) (find-none v x cs (All-tail (λ c. v c <ℤ x) c cs below))

-- the first of these choices stays the first, and a choice of value x after others below x is the first
option_or-some : {X : Type 0} (first more : Option X) → IsSome first → option_or first more ≡ first
option_or-some first more h3 = grind arith

pub find-kept : {X : Type 0} (test : X → Bool) (cs : List X) (c : X) (first : Option X) → find test cs ≡ first → IsSome first → find test (cs ++ c ∷ []) ≡ first
find-kept test cs c first found some =
    find-append test cs (c ∷ []) ∙ (ap (λ o. option_or o (find test (c ∷ []))) found ∙ option_or-some first (find test (c ∷ [])) some)

pub find-new : {X : Type 0} (v : X → ℤ) (x : ℤ) (cs : List X) (c : X) (later : List X) → All (λ d. v d <ℤ x) cs → v c ≡ x → find (λ d. int_equal (v d) x) (cs ++ c ∷ later) ≡ Some c
find-new v x cs c later below same = grind (arith, find-append, find-none, int_equal-same)

-- Minimax values and best choices at a board, from what its choices are worth.

-- ---- by the choices

pub minimax-leaf : (board : List Cell) → minimax 0 board ≡ leaf_value board (choices board)
unfolding minimax
minimax-leaf board = refl

pub best_choice-leaf : (board : List Cell) → best_choice 0 board ≡ None
unfolding best_choice
best_choice-leaf board = refl

-- a mover with legal squares chooses among them
squares-there : (own : List ℕ) (other : List Choice) → is_nil own ≡ false → cond (is_nil own) other (map Square own) ≡ map Square own
squares-there own other h3 = grind arith

pub minimax-squares : (depth : ℕ) (board : List Cell) → is_nil (legal_squares board) ≡ false
    → minimax (suc depth) board ≡ over_squares (minimax depth) board (legal_squares board)
unfolding minimax
minimax-squares depth board some = grind (arith, squares-there, map-map)

-- with one ply at least, a choice is worth what comes after it: a pass, a square, any choice
module _ (depth : ℕ) (board : List Cell) where
  -- these choices are worth the same either way
  abbrev AreWorth : List Choice → Type 0
  AreWorth cs = map (λ c. neg_ℤ (value_after (minimax depth) board c)) cs ≡ map (choice_value (suc depth) board) cs

  one-pass : (theirs : List ℕ) → theirs ≡ legal_squares (exchanged board) → AreWorth (cond (is_nil theirs) [] (Pass ∷ []))
  one-pass [] same = refl
  one-pass (s ∷ theirs) same =
      ap (λ v. neg_ℤ v ∷ []) (sym (minimax-squares depth (exchanged board) (ap is_nil (sym same))) ∙ ap (λ d. minimax d (exchanged board)) (omega arith))

  squares-same : (own : List ℕ) → AreWorth (map Square own)
  squares-same [] = refl
  squares-same (s ∷ own) = ap₂ (λ v more. neg_ℤ v ∷ more) (ap (λ d. minimax d (played board s)) (omega arith)) (squares-same own)

  by-squares : (own : List ℕ) → AreWorth (cond (is_nil own) (choices_without_move board) (map Square own))
  by-squares own = grind (arith, one-pass, squares-same)

pub minimax-deeper : (depth : ℕ) (board : List Cell) → 0 < depth → minimax depth board ≡ greatest_or (final_value board) (map (choice_value depth board) (choices board))
unfolding minimax
minimax-deeper zero board some = absurd (omega arith)
minimax-deeper (suc depth) board some = ap (greatest_or (final_value board)) (by-squares depth board (legal_squares board))

pub best_choice-deeper : (depth : ℕ) (board : List Cell) → 0 < depth → best_choice depth board ≡ find (λ c. int_equal (choice_value depth board c) (minimax depth board)) (choices board)
unfolding best_choice
best_choice-deeper zero board some = absurd (omega arith)
best_choice-deeper (suc depth) board some = refl

-- a finished game has its final value at every depth, and no best choice
pub minimax-over : (depth : ℕ) (board : List Cell) → choices board ≡ [] → minimax depth board ≡ final_value board
minimax-over zero board over = minimax-leaf board ∙ ap (leaf_value board) over
minimax-over (suc depth) board over =
    minimax-deeper (suc depth) board (omega arith) ∙ ap (λ cs. greatest_or (final_value board) (map (choice_value (suc depth) board) cs)) over

pub best_choice-over : (depth : ℕ) (board : List Cell) → choices board ≡ [] → best_choice depth board ≡ None
best_choice-over zero board over = best_choice-leaf board
best_choice-over (suc depth) board over =
    best_choice-deeper (suc depth) board (omega arith) ∙ ap (find (λ c. int_equal (choice_value (suc depth) board c) (minimax (suc depth) board))) over

-- a game that goes on has its evaluation at depth 0
pub minimax-goes_on : (board : List Cell) (c : Choice) (cs : List Choice) → choices board ≡ c ∷ cs → minimax 0 board ≡ eval board
minimax-goes_on board c cs e = minimax-leaf board ∙ ap (leaf_value board) e

-- and else the greatest of what the choices are worth
pub minimax-more : (depth : ℕ) (board : List Cell) (c : Choice) (cs : List Choice) → 0 < depth → choices board ≡ c ∷ cs
    → minimax depth board ≡ greatest (choice_value depth board c) (map (choice_value depth board) cs)
minimax-more depth board c cs some e = grind (arith, minimax-deeper)

-- ---- bounds

pub within_more : (z : ℤ) → IsWithin 1184 z → IsWithin 128000 z
within_more z h = (omega (arith, ints), omega (arith, ints))

within-negated : (n : ℕ) (z : ℤ) → IsWithin n z → IsWithin n (neg_ℤ z)
within-negated n z h = (omega (arith, ints), omega (arith, ints))

module _ {X : Type 0} (n : ℕ) (v : X → ℤ) (each : (c : X) → IsWithin n (v c)) where
  greatest-within : (x : ℤ) (cs : List X) → IsWithin n x → IsWithin n (greatest x (map v cs))
  greatest-within x [] h = h
  greatest-within x (c ∷ cs) h = grind (arith, greatest-within (v c) cs (each c), cond_both)

  greatest_or-within : (other : ℤ) (cs : List X) → IsWithin n other → IsWithin n (greatest_or other (map v cs))
  greatest_or-within other [] h = h
  greatest_or-within other (c ∷ cs) h = greatest-within (v c) cs (each c)

leaf-within : (board : List Cell) (cs : List Choice) → length board ≡ 64 → IsWithin 128000 (leaf_value board cs)
leaf-within board cs h3 = grind (arith, final_value-within, within_more, eval-within)

-- what comes after a choice lies within too
after-within : (depth : ℕ) → ((b : List Cell) → length b ≡ 64 → IsWithin 128000 (minimax depth b)) → (board : List Cell) (c : Choice) → length board ≡ 64 →
    IsWithin 128000 (value_after (minimax depth) board c)
after-within depth within board (Square s) e = within (played board s) (length-after board (Square s) e)
after-within depth within board Pass e =
    let b = exchanged board in
    let other : length b ≡ 64 = length-after board Pass e in
    greatest_or-within 128000 (λ (s : ℕ). neg_ℤ (minimax depth (played b s)))
    (λ s. within-negated 128000 (minimax depth (played b s)) (within (played b s) (length-after b (Square s) other)))
    (final_value b) (legal_squares b) (final_value-within b other)

-- every minimax value of a board of 64 cells lies within -128,000 and 128,000
pub minimax-within : (depth : ℕ) (board : List Cell) → length board ≡ 64 → IsWithin 128000 (minimax depth board)
unfolding minimax
minimax-within zero board e = leaf-within board (choices board) e
minimax-within (suc depth) board e =
    greatest_or-within 128000 (λ c. neg_ℤ (value_after (minimax depth) board c))
    (λ c. within-negated 128000 (value_after (minimax depth) board c) (after-within depth (minimax-within depth) board c e))
    (final_value board) (choices board) (final_value-within board e)

-- The greatest value and the first choice that attains it, choice by choice.

max-assoc : (x y z : ℤ) → int_max x (int_max y z) ≡ int_max (int_max x y) z
max-assoc x y z = omega (arith, ints, clamps)

max-left : (x y : ℤ) → y ≤ℤ x → int_max x y ≡ x
max-left x y l = omega (arith, ints, clamps)

max-right : (x y : ℤ) → x <ℤ y → int_max x y ≡ y
max-right x y l = omega (arith, ints, clamps)

under : (x y : ℤ) → int_lt x y ≡ true → x <ℤ y
under x y t = grind (arith, ints)

over : (x y : ℤ) → int_lt x y ≡ false → y ≤ℤ x
over x y f = grind (arith, ints)

greatest-step : (x y : ℤ) (ys : List ℤ) → greatest x (y ∷ ys) ≡ greatest (int_max x y) ys
greatest-step x y [] = refl
greatest-step x y (z ∷ zs) = max-assoc x y (greatest z zs)

-- from the best value so far and the choice that attains it, over the choices that are left: a later
-- choice takes over only where it is worth more
abbrev pub running : (Choice → ℤ) → ℤ → Choice → List Choice → ℤ × Choice
running v best c [] = (best, c)
running v best c (e ∷ es) = cond (int_lt best (v e)) (running v (v e) e es) (running v best c es)

pub running-value : (v : Choice → ℤ) (best : ℤ) (c : Choice) (es : List Choice) → (running v best c es).0 ≡ greatest best (map v es)
running-value v best c [] = refl
running-value v best c (e ∷ es) =
    cond_both (int_lt best (v e)) (running v (v e) e es) (running v best c es) (λ p. p.0 ≡ greatest best (map v (e ∷ es)))
    (λ t. running-value v (v e) e es ∙ ap (λ x. greatest x (map v es)) (sym (max-right best (v e) (under best (v e) t))) ∙ sym (greatest-step best (v e) (map v es)))
    (λ f. running-value v best c es ∙ ap (λ x. greatest x (map v es)) (sym (max-left best (v e) (over best (v e) f))) ∙ sym (greatest-step best (v e) (map v es)))

-- the first of these choices that is worth m
abbrev pub first_worth : (Choice → ℤ) → ℤ → List Choice → Option Choice
first_worth v m cs = find (λ c. int_equal (v c) m) cs

skipped : (v : Choice → ℤ) (m : ℤ) (c : Choice) (cs : List Choice) → (v c ≡ m → ⊥) → first_worth v m (c ∷ cs) ≡ first_worth v m cs
skipped v m c cs ne = cond-false (int_equal (v c) m) (Some c) (first_worth v m cs) (int_equal-other (v c) m ne)

-- a choice that is worth no more than the one before it changes nothing
passed-over : (v : Choice → ℤ) (m : ℤ) (c e : Choice) (es : List Choice) → v e ≤ℤ v c → v c ≤ℤ m
    → first_worth v m (c ∷ e ∷ es) ≡ first_worth v m (c ∷ es)
passed-over v m c e es l h = grind (arith, cond_both, cond-true, skipped, int_equal-same, cond-false)

pub running-choice : (v : Choice → ℤ) (best : ℤ) (c : Choice) (es : List Choice) → v c ≡ best
    → first_worth v (greatest best (map v es)) (c ∷ es) ≡ Some (running v best c es).1
running-choice v best c [] at = cond-true (int_equal (v c) best) (Some c) None (int_equal-same (v c) best at)
running-choice v best c (e ∷ es) at =
    let later = running-choice v (v e) e es refl in
    let stays = running-choice v best c es at in
    cond_both (int_lt best (v e)) (running v (v e) e es) (running v best c es)
    (λ p. first_worth v (greatest best (map v (e ∷ es))) (c ∷ e ∷ es) ≡ Some p.1)
    (λ t. more (under best (v e) t) ∙ later) (λ f. same (over best (v e) f) ∙ stays)
  where
    more : best <ℤ v e → first_worth v (greatest best (map v (e ∷ es))) (c ∷ e ∷ es) ≡ first_worth v (greatest (v e) (map v es)) (e ∷ es)
    more l =
        ap (λ m. first_worth v m (c ∷ e ∷ es)) (greatest-step best (v e) (map v es) ∙ ap (λ x. greatest x (map v es)) (max-right best (v e) l))
        ∙ skipped v (greatest (v e) (map v es)) c (e ∷ es) (λ q. absurd (omega (arith, ints, greatest-first (v e) (map v es))))

    same : v e ≤ℤ best → first_worth v (greatest best (map v (e ∷ es))) (c ∷ e ∷ es) ≡ first_worth v (greatest best (map v es)) (c ∷ es)
    same l =
        ap (λ m. first_worth v m (c ∷ e ∷ es)) (greatest-step best (v e) (map v es) ∙ ap (λ x. greatest x (map v es)) (max-left best (v e) l))
        ∙ passed-over v (greatest best (map v es)) c e es (omega (arith, ints)) (omega (arith, ints, greatest-first best (map v es)))

-- ---- of a board

-- the value and the best choice are those that are left after all choices
module _ (depth : ℕ) (board : List Cell) (c : Choice) (cs : List Choice) (some : 0 < depth) (e : choices board ≡ c ∷ cs) where
  pub minimax-running : minimax depth board ≡ (running (choice_value depth board) (choice_value depth board c) c cs).0
  minimax-running =
      minimax-more depth board c cs some e ∙ sym (running-value (choice_value depth board) (choice_value depth board c) c cs)

  pub best_choice-running : best_choice depth board ≡ Some (running (choice_value depth board) (choice_value depth board c) c cs).1
  best_choice-running =
      let v = choice_value depth board in
      best_choice-deeper depth board some
      ∙ ap₂ (λ m l. first_worth v m l) (minimax-more depth board c cs some e) e
      ∙ running-choice v (v c) c cs refl

greatest-all : (v : Choice → ℤ) (x : ℤ) (cs : List Choice) → All (λ c. v c ≤ℤ greatest x (map v cs)) cs
greatest-all v x [] = All-nil (λ c. v c ≤ℤ x)
greatest-all v x (c ∷ cs) =
    let g = greatest (v c) (map v cs) in
    let P : Choice → Type 0 = λ e. v e ≤ℤ int_max x g in
    All-cons P c cs (int_max-right x g (v c) (greatest-first (v c) (map v cs))) (All-weaker (λ e. v e ≤ℤ g) P (λ e h. int_max-right x g (v e) h) cs (greatest-all v (v c) cs))

greatest_or-all : (v : Choice → ℤ) (other : ℤ) (cs : List Choice) → All (λ c. v c ≤ℤ greatest_or other (map v cs)) cs
greatest_or-all v other [] = All-nil (λ c. v c ≤ℤ other)
greatest_or-all v other (c ∷ cs) = All-cons (λ e. v e ≤ℤ greatest (v c) (map v cs)) c cs (greatest-first (v c) (map v cs)) (greatest-all v (v c) cs)

-- no choice is worth more than the minimax value
pub choices_below : (depth : ℕ) (board : List Cell) → 0 < depth → All (λ c. choice_value depth board c ≤ℤ minimax depth board) (choices board)
choices_below depth board some =
    let v = choice_value depth board in
    subst (λ x. All (λ c. v c ≤ℤ x) (choices board)) (sym (minimax-deeper depth board some)) (greatest_or-all v (final_value board) (choices board))

-- where no choice is worth more than s, nor is the minimax value
minimax-at_most : (depth : ℕ) (board : List Cell) (s : ℤ) (c : Choice) (cs : List Choice) → 0 < depth → choices board ≡ c ∷ cs
    → All (λ c. choice_value depth board c ≤ℤ s) (choices board) → minimax depth board ≤ℤ s
minimax-at_most depth board s c cs some e all =
    let v = choice_value depth board in
    let each = subst (All (λ c. v c ≤ℤ s)) e all in
    subst (λ x. x ≤ℤ s) (sym (minimax-more depth board c cs some e))
    (greatest-upper v (v c) cs s (All-head (λ c. v c ≤ℤ s) c cs each) (All-tail (λ c. v c ≤ℤ s) c cs each))

find-passes : (p : Choice → Bool) (cs : List Choice) (c : Choice) → find p cs ≡ Some c → (p c ≡ true) × Contains cs c
find-passes p [] c e = cc
find-passes p (d ∷ ds) c e = ⊎_elim here (later (find-passes p ds c)) (cases_Bool (p d))
  where
    here : p d ≡ true → (p c ≡ true) × Contains (d ∷ ds) c
    here t =
        let first : Some d ≡ Some c = sym (cond-true (p d) (Some d) (find p ds) t) ∙ e in
        let same : d ≡ c = cc in
        (sym (ap p same) ∙ t, (0, omega arith, same))

    later : (find p ds ≡ Some c → (p c ≡ true) × Contains ds c) → p d ≡ false → (p c ≡ true) × Contains (d ∷ ds) c
    later more f =
        let h = more (sym (cond-false (p d) (Some d) (find p ds) f) ∙ e) in
        (h.0, (suc h.1.0, omega (arith, h.1.1), h.1.2))

-- the first choice in order that attains the minimax value is the best choice
pub best_choice-first : (depth : ℕ) (board : List Cell) (done : List Choice) (c : Choice) (rest : List Choice) → 0 < depth
    → choices board ≡ done ++ c ∷ rest
    → choice_value depth board c ≡ minimax depth board
    → All (λ e. choice_value depth board e <ℤ minimax depth board) done
    → best_choice depth board ≡ Some c
best_choice-first depth board done c rest some e at all =
    let v = choice_value depth board in
    best_choice-deeper depth board some ∙ ap (first_worth v (minimax depth board)) e ∙ find-new v (minimax depth board) done c rest all at

-- the best choice is a choice, and attains the minimax value
pub best_choice-attains : (depth : ℕ) (board : List Cell) (c : Choice) → best_choice depth board ≡ Some c
    → (choice_value depth board c ≡ minimax depth board) × Contains (choices board) c
best_choice-attains zero board c e = absurd (let none : None ≡ Some c = sym (best_choice-leaf board) ∙ e in cc none)
best_choice-attains (suc depth) board c e =
    let v = choice_value (suc depth) board in
    let m = minimax (suc depth) board in
    let h = find-passes (λ d. int_equal (v d) m) (choices board) c (sym (best_choice-deeper (suc depth) board (omega arith)) ∙ e) in
    (same-from-int_equal (v c) m h.0, h.1)

-- ---- where there is a choice

some-choice : (cs : List Choice) → (cs ≡ [] → ⊥) → (c : Choice) × (more : List Choice) × (cs ≡ c ∷ more)
some-choice [] ne = absurd (ne refl)
some-choice (c ∷ more) ne = (c, more, refl)

pub best_choice_there : (depth : ℕ) (board : List Cell) → 0 < depth → (choices board ≡ [] → ⊥) → IsSome (best_choice depth board)
best_choice_there depth board some ne =
    let h = some-choice (choices board) ne in
    subst IsSome (sym (best_choice-running depth board h.0 h.1 some h.2)) refl

pub minimax_least : (depth : ℕ) (board : List Cell) (s : ℤ) → 0 < depth → (choices board ≡ [] → ⊥)
    → All (λ c. choice_value depth board c ≤ℤ s) (choices board) → minimax depth board ≤ℤ s
minimax_least depth board s some ne all = let h = some-choice (choices board) ne in minimax-at_most depth board s h.0 h.1 some h.2 all

pub minimax-leaf-there : (board : List Cell) → (choices board ≡ [] → ⊥) → minimax 0 board ≡ eval board
minimax-leaf-there board ne = let h = some-choice (choices board) ne in minimax-goes_on board h.0 h.1 h.2

-- Plain recursion over the choices that are left.

pub same_bits : (z : ℤ) → IsWithin 128000 z → to_z w32 (of_z w32 z) ≡ z
same_bits z h = to_z-of_z w32 z (omega (arith, ints))

negated : (r : ℤ) → IsWithin 128000 r → to_z w32 (of_z w32 (pos 0 -ℤ to_z w32 (of_z w32 r))) ≡ neg_ℤ r
negated r h = omega (arith, ints)

-- what the code computes of a choice is what it is worth
module _ (depth : ℕ) (board : List Cell) where
  pub child-value : {child : List Cell} {p : ℕ} {r : ℤ} (c : Choice) → child ≡ after board c → p ≡ plies c → r ≡ minimax (depth - p) child → IsWithin 128000 r →
      to_z w32 (of_z w32 (pos 0 -ℤ to_z w32 (of_z w32 r))) ≡ choice_value depth board c
  child-value {child} {r = r} c e same f h = negated r h ∙ ap neg_ℤ (f ∙ ap (λ q. minimax (depth - q) child) same ∙ ap (minimax (depth - plies c)) e)

  pub leaf-value-at : (c : Choice) (cs : List Choice) → choices board ≡ c ∷ cs → depth ≡ 0 → eval board ≡ minimax depth board
  leaf-value-at c cs e zero_depth = sym (minimax-goes_on board c cs e) ∙ ap (λ k. minimax k board) (sym zero_depth)

  pub leaf-choice-at : depth ≡ 0 → None ≡ best_choice depth board
  leaf-choice-at zero_depth = sym (best_choice-leaf board) ∙ ap (λ k. best_choice k board) (sym zero_depth)

-- after the first choice
module _ (depth : ℕ) (board : List Cell) (w : ℤ) (c : Choice) (cs : List Choice) (e : choices board ≡ c ∷ cs) (some : 0 < depth) (is : w ≡ choice_value depth board c) where
  pub start-value : (running (choice_value depth board) w c cs).0 ≡ minimax depth board
  start-value =
      ap (λ x. (running (choice_value depth board) x c cs).0) is ∙ sym (minimax-running depth board c cs some e)

  pub start-choice : Some (running (choice_value depth board) w c cs).1 ≡ best_choice depth board
  start-choice = grind (arith, best_choice-running)

-- one choice more
module _ (v : Choice → ℤ) (best : ℤ) (c : Choice) {w : ℤ} {e : Choice} {left es : List Choice} (is : left ≡ e ∷ es) (worth : w ≡ v e) where
  pub running-more : int_lt best w ≡ true → running v w e es ≡ running v best c left
  running-more l = grind (arith, cond-true)

  pub running-same : int_lt best w ≡ false → running v best c es ≡ running v best c left
  running-same l = grind (arith, cond-false)

pub running-all : (v : Choice → ℤ) (best : ℤ) (c : Choice) (left : List Choice) → left ≡ [] → (running v best c left) ≡ (best, c)
running-all v best c left e = ap (running v best c) e

-- what is left are choices
pub left-chosen : (all left : List Choice) (c : Choice) → all ≡ c ∷ left → All (Contains all) left
left-chosen all left c e = All-tail (Contains all) c left (subst (All (Contains all)) e (All-contains_itself all))

pub next-chosen : (all : List Choice) {old new : List Choice} {c : Choice} → All (Contains all) old → old ≡ c ∷ new → Contains all c × All (Contains all) new
next-chosen all {old} {new} {c} h e =
    let each = subst (All (Contains all)) e h in
    (All-head (Contains all) c new each, All-tail (Contains all) c new each)
