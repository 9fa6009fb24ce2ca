-- The search's choices stand once each; an accepted answer and a new root are right; a returned root holds the minimax
-- value, the best choice and a true table; a right frame is sound.
use Rattle.jamboree_rules.proofs.Common.{◌≡◌, ◌≢◌, ℕ, suc, ◌<◌, ◌&&◌, not, Bool, true, false, List, [], ◌∷◌, map, filter, length, refl, slice_index, slice_index_or, if◌then◌else◌, ◌≤◌, ℤ, negsuc, ◌≤ℤ◌, ◌<ℤ◌, bit_and, Some, All, neg_ℤ, sym, ◌∙◌, ap, arith, subst, and_parts, eq-eqb, Cell, squares, is_among, is_legal, is_nil, exchanged, Choice, Square, Pass, choices, choices_without_move, legal_squares, in_order, is_among-filter, Frame, board, choice_at, code_of, value, coded, least, greatest, rest_at, ints, padded, best_choice, IsWithin, minimax-within, IsBound, stored, is_outside, kept_words, AcceptKeeps, Neither, Computes, HasReturned, Mark, LeafAnswer, frame_of, is_formed, pairs_of, root_words, frame_size, kind_number, kind_in, leaf_in, same_leaf, changes_of_answer, accepts, IsDoneFrame, Fits, AreFitting, IsRoot, IsInRole, First, Test, Again, AreChildren, IsSearchingFrame, take_all, get_or_past, All-cons, Bound, Exact, IsTrueBound, IsExactIfBest, IsTable, entered, kind_numbered, bound_in, bounds_in, bounds_of, IsSettled, HasWindow, HaveGoals, IsSound, by_lt_z, Functions, Leaf, leaf_of_answer, choices-fit, length-cells_of, length-map, greatest_depth}
use Rattle.jamboree_rules.proofs.LeafLemmas.{Has, has-from, same-has, moved, named-by, choice-small}
use Rattle.jamboree_rules.proofs.Steps.{accepted, status-count, new-form, Lists, frames, good-store}
use Rattle.jamboree_rules.proofs.Forms.{IsFrame, IsFormed, formed-told, formed-passes, IsInSearch}
use Rattle.jamboree_rules.proofs.Searching.{tabled-none, entered-deep, found-best}
use Rattle.jamboree_rules.proofs.Keeping.{FitsUnder, store-above, IsStoredHere, StandsUnder}
use Rattle.jamboree_rules.specs.Sound.{First as WholeWindow, Test as TestWindow, Again as AgainWindow}
use Rattle.jamboree_rules.proofs.Kinship.{in-search}

-- no number of a list stands in it again
are_distinct : List ℕ → Bool
are_distinct [] = true
are_distinct (x ∷ xs) = not (is_among x xs) && are_distinct xs

order-distinct : are_distinct in_order ≡ true
unfolding are_distinct in_order squares
order-distinct = refl

not-among : (p : ℕ → Bool) (x : ℕ) (xs : List ℕ) → not (is_among x xs) ≡ true → not (is_among x (filter p xs)) ≡ true
not-among p x xs h = grind (arith, is_among-filter)

filtered : (p : ℕ → Bool) (xs : List ℕ) → are_distinct xs ≡ true → are_distinct (filter p xs) ≡ true
unfolding are_distinct
filtered p [] h = refl
filtered p (x ∷ xs) h = grind (arith, filtered p xs, are_distinct, not-among)

there-among : (xs : List ℕ) (k : ℕ) → k < length xs → is_among (slice_index xs k) xs ≡ true
there-among (x ∷ xs) (suc k) below = grind (arith, there-among xs k)
there-among xs k below = grind (arith, eq-eqb)

absent-among : (x y : ℕ) (xs : List ℕ) → not (is_among x xs) ≡ true → is_among y xs ≡ true → x ≢ y
absent-among x y xs absent there e = grind arith

apart-at : (xs : List ℕ) (j k : ℕ) → are_distinct xs ≡ true → j < k → k < length xs → slice_index xs j ≢ slice_index xs k
unfolding are_distinct
apart-at (x ∷ xs) (suc j) (suc k) h before below = apart-at xs j k (and_parts (not (is_among x xs)) (are_distinct xs) h).1 (omega arith) (omega arith)
apart-at xs j k h before below = grind (arith, absent-among, and_parts, are_distinct, there-among)

square-at : (xs : List ℕ) (k : ℕ) → k < length xs → code_of (slice_index_or (map Square xs) k Pass) ≡ slice_index xs k
square-at (x ∷ xs) (suc k) below = square-at xs k (omega arith)
square-at xs k below = grind arith

abbrev AreApart : List Choice → Type 0
AreApart cs = (j k : ℕ) → j < k → k < length cs → slice_index_or cs j Pass ≢ slice_index_or cs k Pass

squares-apart : (xs : List ℕ) → are_distinct xs ≡ true → AreApart (map Square xs)
squares-apart xs h j k before below e =
    let inside : k < length xs = omega (arith, length-map xs Square, below) in
    apart-at xs j k h before inside (sym (square-at xs j (omega arith)) ∙ ap code_of e ∙ square-at xs k inside)

pass-apart : (over : Bool) → AreApart (if over then [] else Pass ∷ [])
pass-apart over j k before below = grind arith

choices-by : (none : Bool) (b : List Cell) → AreApart (if none then choices_without_move b else map Square (legal_squares b))
choices-by true b = pass-apart (is_nil (legal_squares (exchanged b)))
choices-by false b = squares-apart (legal_squares b) (filtered (is_legal b) in_order order-distinct)

pub choices-apart : (b : List Cell) (j k : ℕ) → j < k → k < length (choices b) → slice_index_or (choices b) j Pass ≢ slice_index_or (choices b) k Pass
choices-apart b = choices-by (is_nil (legal_squares b)) b

-- the choice with one number is that with another only where the numbers are the same
pub same-number : (f : Frame) (j k : ℕ) → j < length (choices (board f)) → k < length (choices (board f)) → choice_at f j ≡ choice_at f k → j ≡ k
same-number f j k jn kn e = grind (arith, choices-apart)

-- An answer, once accepted, leaves the frame fitting; roots; and what a returned root holds.

-- a frame that has taken in this answer
abbrev pub answered_frame : Frame → LeafAnswer → Frame
answered_frame f answer = record f { phase = 4; best = answer.score; choice = coded answer.choice }

answered-form : (f : Frame) (answer : LeafAnswer) → IsFrame f → f.phase ≡ 1 → IsFrame (answered_frame f answer)
answered-form f answer form phase = grind (arith, choice-small, ints)

-- the frame in these words computes, and an answer is to its leaf
module _ (own : List ℕ) (answer : LeafAnswer) (form : IsFormed own) (phase : (frame_of own).phase ≡ 1) where
  pub answer-good : IsStoredHere own (changes_of_answer answer) (answered_frame (frame_of own) answer)
  answer-good =
      let low : negsuc 127999 ≤ℤ answer.score = answer.low in
      good-store own _ _ _ _ form (record {
        safe = (omega (arith, ints), (tt, (tt, tt)));
        inside = (tt, (tt, (tt, tt)));
        is = refl;
        count = refl;
        form = answered-form (frame_of own) answer form.frame phase;
        goal = record { depth = refl; alpha = refl; beta = refl; role = refl; number = refl };
        own_is = refl;
        opp_is = refl;
        known = λ (e : 4 ≡ 0). absurd (omega arith);
      })

  -- it bounds its value
  answered-done : same_leaf answer.leaf (leaf_in own) ≡ true → IsDoneFrame (answered_frame (frame_of own) answer)
  answered-done alike =
      let f : Frame = frame_of own in
      let there : Has (leaf_in own) f.own f.opp f.depth f.alpha f.beta = has-from f.own f.opp f.depth f.alpha f.beta form.frame.leaf in
      let asked = same-has answer.leaf (leaf_in own) alike in
      let has : Has answer.leaf f.own f.opp f.depth f.alpha f.beta = grind arith in
      let early = form.frame.early (omega arith) in
      let none : length f.statuses ≡ 0 = status-count own form ∙ early.1 in
      record {
        bound = moved answer f.own f.opp f.depth f.alpha f.beta has;
        named = named-by answer f.own f.opp f.depth f.alpha f.beta has;
        all = λ _ k below. absurd (omega arith);
        found = λ _ _ some. absurd (omega arith);
      }

chosen-stores : (formed : Bool) (stores : List (ℕ × ℕ)) → formed ≡ true → stores ≡ (if formed then stores else [])
chosen-stores formed stores e = rw e refl

-- what words that fit store of an answer
pub accepts-is : (own : List ℕ) (answer : LeafAnswer) → is_formed own ≡ true → pairs_of (changes_of_answer answer) ≡ accepts own answer
accepts-is own answer e = chosen-stores (is_formed own) (pairs_of (changes_of_answer answer)) e

-- what an answer to a frame's leaf leaves
accept-leaves : (origin own : List ℕ) (above older younger : Lists) (answer : LeafAnswer) → AreFitting own [] Computes →
    StandsUnder origin above older younger own → same_leaf answer.leaf (leaf_in own) ≡ true →
    FitsUnder origin above older younger [] (stored (accepts own answer) own)
accept-leaves origin own above older younger answer fits parent alike =
    let form : IsFormed own = formed-told own fits.formed in
    let f : Frame = frame_of own in
    let phase : f.phase ≡ 1 = fits.frame.marked in
    let s = answer-good own answer form phase in
    subst (λ (stores : List (ℕ × ℕ)). FitsUnder origin above older younger [] (stored stores own)) (accepts-is own answer fits.formed) (
      record {
        formed = formed-passes _ s.formed;
        frame = subst (λ (h : Frame). Fits h [] Neither) (sym s.is) (accepted f _ _ fits.frame (answered-done own answer form phase alike));
      },
      store-above origin own (changes_of_answer answer) (answered_frame f answer) above older younger s (λ (z : f.phase ≡ 0). absurd (omega arith)) parent,
    )

-- Answer keeps that frames fit
pub accept-keeps : (functions : Functions Leaf LeafAnswer) → functions.input ≡ leaf_in → functions.asked ≡ leaf_of_answer → functions.same ≡ same_leaf →
    functions.accept ≡ accepts → AcceptKeeps functions AreFitting IsRoot
accept-keeps functions input asked same accept origin own above older younger answer fits parent alike inside =
    let same' : functions.same (functions.asked answer) (functions.input own) ≡ same_leaf answer.leaf (leaf_in own) =
    ap (λ (s : Leaf → Leaf → Bool). s (functions.asked answer) (functions.input own)) same
    ∙ ap (λ (a : LeafAnswer → Leaf). same_leaf (a answer) (functions.input own)) asked ∙ ap (λ (i : List ℕ → Leaf). same_leaf answer.leaf (i own)) input in
    subst (λ (a : List ℕ → LeafAnswer → List (ℕ × ℕ)). FitsUnder origin above older younger [] (stored (a own answer) own)) (sym accept)
    (accept-leaves origin own above older younger answer fits parent (sym same' ∙ alike))

-- the stores of an answer can be done
pub accept-possible : (own : List ℕ) (answer : LeafAnswer) → AreFitting own [] Computes → is_outside (accepts own answer) own ≡ false
accept-possible own answer fits =
    subst (λ (stores : List (ℕ × ℕ)). is_outside stores own ≡ false) (accepts-is own answer fits.formed)
    (answer-good own answer (formed-told own fits.formed) fits.frame.marked).good

-- ---- roots

-- the words of a new root
abbrev pub new_root : ℕ → ℕ → ℕ → List ℕ
new_root own opp depth = padded (root_words own opp depth) frame_size

root-form : (own opp depth : ℕ) → bit_and own opp ≡ 0 → depth ≤ greatest_depth → IsFormed (new_root own opp depth)
root-form own opp depth apart shallow = grind (arith, new-form, ints)

-- a new root fits, and belongs to the words that it was submitted with
pub root_fits : (own opp depth : ℕ) → bit_and own opp ≡ 0 → depth ≤ greatest_depth →
    AreFitting (new_root own opp depth) [] Neither × IsRoot (root_words own opp depth) (new_root own opp depth)
root_fits own opp depth apart shallow = grind (arith, formed-passes, root-form, ints, tabled-none)

-- What a returned root holds of each of its choices.

-- a kind is that of its number
numbered : (n : ℕ) → n ≢ 0 → n < 4 → n ≡ kind_number (kind_numbered n)
numbered n h2 h3 = grind arith

few-kinds : (rest : ℕ) → kind_in rest < 4
few-kinds rest = omega arith

-- the entries, one by one
bounds-choices : (cs : List Choice) (rests : List ℕ) → length rests ≡ length cs → map (λ (b : Bound). b.choice) (bounds_in cs rests) ≡ cs
bounds-choices (c ∷ cs) (rest ∷ rests) same = ap (λ (more : List Choice). c ∷ more) (bounds-choices cs rests (omega arith))
bounds-choices cs rests same = grind arith

bounds-none : (cs : List Choice) (rests : List ℕ) → length rests ≡ 0 → map (λ (b : Bound). b.choice) (bounds_in cs rests) ≡ []
bounds-none [] rests none = refl
bounds-none (c ∷ cs) [] none = refl
bounds-none (c ∷ cs) (rest ∷ rests) none = absurd (omega arith)

bounds-all : (P : Bound → Type 0) (cs : List Choice) (rests : List ℕ) →
    ((i : ℕ) → i < length cs → i < length rests → P (bound_in (slice_index_or cs i Pass) (slice_index rests i))) → All P (bounds_in cs rests)
bounds-all P (c ∷ cs) (rest ∷ rests) each =
    All-cons P _ _ (each 0 (omega arith) (omega arith)) (bounds-all P cs rests (λ i inside there. each (suc i) (omega arith) (omega arith)))
bounds-all P cs rests each = grind arith

bounds-each : (depth : ℕ) (b : List Cell) (rests : List ℕ) → length rests ≡ length (entered depth b) →
    map (λ (e : Bound). e.choice) (bounds_in (choices b) rests) ≡ entered depth b
bounds-each depth b rests h4 = grind (arith, bounds-none, bounds-choices)

-- where a choice has a place, the depth is at least 1, and all choices have one
deep-there : (depth n : ℕ) (b : List Cell) → n < length (entered depth b) → 0 < depth
deep-there depth n b h4 = grind arith

returned-known : (f : Frame) → f.phase ≡ 4 → f.phase ≢ 0
returned-known f done = λ (zero : f.phase ≡ 0). absurd (omega arith)

-- a root that has returned with a score inside its window
module _ (f : Frame) (fits : Fits f [] HasReturned) (root : f.role ≡ 0) (inside : (f.alpha <ℤ f.best) × (f.best <ℤ f.beta)) (worth : f.best ≡ value f) where
  ended : IsDoneFrame f
  ended = fits.done fits.marked

  root-places : length f.statuses ≡ length (entered f.depth (board f))
  root-places = fits.whole root (returned-known f fits.marked)

  -- its entries have kinds, and the best choice's is exact
  root-kinds : (i : ℕ) → i < length f.rests → kind_in (rest_at f i) ≢ 0
  root-kinds i below = fits.table.said i (ended.all inside.1 i (omega (arith, below, fits.table.places)))

  best-exact : (i : ℕ) → i < length f.rests → best_choice f.depth (board f) ≡ Some (choice_at f i) → kind_numbered (kind_in (rest_at f i)) ≡ Exact
  best-exact i below is =
      let long : length f.rests ≡ length f.statuses = fits.table.places in
      let found = ended.found inside.0 inside.1 (omega arith) in
      let deep = deep-there f.depth i (board f) (omega (arith, root-places)) in
      let len : length f.statuses ≡ length (choices (board f)) = root-places ∙ ap (λ (cs : List Choice). length cs) (entered-deep f.depth (board f) deep) in
      let there : best_choice f.depth (board f) ≡ Some (choice_at f found.place) = found-best f deep len found (sym worth) in
      let same : choice_at f i ≡ choice_at f found.place = cc in
      let number = same-number f i found.place (omega arith) (omega (arith, found.inside)) same in
      ap kind_numbered (ap (λ (j : ℕ). kind_in (rest_at f j)) number ∙ found.exact)

  root-table : IsTable f.depth (board f) (bounds_of f)
  root-table = record {
    each = bounds-each f.depth (board f) f.rests (fits.table.places ∙ root-places);
    holds = bounds-all (IsTrueBound f.depth (board f)) (choices (board f)) f.rests
        (λ i _ below. fits.table.holds i (kind_numbered (kind_in (rest_at f i))) (numbered _ (root-kinds i below) (few-kinds (rest_at f i))));
    best = bounds-all (IsExactIfBest (best_choice f.depth (board f))) (choices (board f)) f.rests (λ i _ below is. best-exact i below is);
  }

pub entered-few : (depth : ℕ) (b : List Cell) → length (entered depth b) ≤ 64
entered-few depth b = grind (arith, choices-fit)

-- a root that has returned, by its words
module _ (origin words : List ℕ) (fits : AreFitting words [] HasReturned) (root : IsRoot origin words) where
  abbrev this : Frame
  this = frame_of words

  -- the value of every board lies between -128,000 and 128,000, so its score lies inside the full window, which is its own
  within : IsWithin 128000 (value this)
  within = minimax-within this.depth (board this) (length-cells_of this.own this.opp)

  bound : IsBound least greatest this.best (value this)
  bound = rw (root.alpha_is, root.beta_is) at (fits.frame.done fits.frame.marked).bound

  inside : (least <ℤ this.best) × (this.best <ℤ greatest)
  inside = (
    by_lt_z least this.best (λ h. h) (λ h. let u : value this ≤ℤ this.best = bound.upper h in absurd (omega (arith, ints, within.0))),
    by_lt_z this.best greatest (λ h. h) (λ h. let u : this.best ≤ℤ value this = bound.lower h in absurd (omega (arith, ints, within.1))),
  )

  root-inside : (this.alpha <ℤ this.best) × (this.best <ℤ this.beta)
  root-inside = (subst (λ (a : ℤ). a <ℤ this.best) (sym root.alpha_is) inside.0, subst (λ (b : ℤ). this.best <ℤ b) (sym root.beta_is) inside.1)

  -- it holds the minimax value and the best choice of its board to its depth
  pub root_value : (this.best ≡ value this) × (this.choice ≡ coded (best_choice this.depth (board this)))
  root_value = (sym (bound.exact inside.0 inside.1), (fits.frame.done fits.frame.marked).named root-inside.0 root-inside.1)

  -- it has an entry for each choice, and its table is one
  pub root-whole : (length this.rests ≡ length (entered this.depth (board this))) × ((i : ℕ) → i < length this.rests → kind_in (rest_at this i) ≢ 0)
      × IsTable this.depth (board this) (bounds_of this)
  root-whole = (
    fits.frame.table.places ∙ fits.frame.whole root.role_is (returned-known this fits.frame.marked),
    root-kinds this fits.frame root.role_is root-inside root_value.0,
    root-table this fits.frame root.role_is root-inside root_value.0,
  )

  -- and a job keeps all its words
  pub root-kept : kept_words words ≡ words
  root-kept =
      let form : IsFormed words = formed-told words fits.formed in
      let same : length this.statuses ≡ length (entered this.depth (board this)) = fits.frame.whole root.role_is (returned-known this fits.frame.marked) in
      let few : length (entered this.depth (board this)) ≤ 64 = entered-few this.depth (board this) in
      let count : length this.statuses ≡ this.count = status-count words form in
      take_all 76 words (omega (arith, same, few, count, form.places))

pub ruleset returned_root_rules = (root-kept, root-whole)

-- A frame that fits is sound.

window-of : (f c : Frame) → IsInRole f c → HasWindow f c
window-of f c (First r) = WholeWindow r.role r.low r.high
window-of f c (Test r) = TestWindow r.role (neg_ℤ c.beta) r.low (omega (arith, ints)) r.least r.most
window-of f c (Again r) = AgainWindow r.role r.low r.high r.earlier

goals-of : (f : Frame) (cs : List Frame) → (IsInSearch f → IsSearchingFrame f) → AreChildren f cs → HaveGoals f cs
goals-of f [] searching kin = tt
goals-of f (c ∷ cs) searching kin =
    let searches = in-search f c kin.0.in_role in (
      record {
        searches = searches;
        inside = omega (arith, kin.0.inside, (searching searches).places);
        board = kin.0.known;
        depth = kin.0.shallower;
        window = window-of f c kin.0.in_role;
      },
      goals-of f cs searching kin.1,
    )

-- a settled choice is one of the choices
settled-inside : (f : Frame) (i : ℕ) → IsSettled f i → i < length f.statuses
settled-inside f i h = grind (arith, get_or_past)

pub fits_sound : (words : List ℕ) (children : Lists) (mark : Mark) → AreFitting words children mark → IsSound (frame_of words) (frames children)
fits_sound words children mark fitting =
    let fits = fitting.frame in
    record {
      below = λ phase. (fits.searching phase).below;
      settled = λ phase i h. (fits.searching phase).settled i (settled-inside (frame_of words) i h) h;
      chosen = λ phase higher.
          let found = (fits.searching phase).found higher in
          record { place = found.place; stored = found.named; settled = found.settled; worth = found.worth; earlier = found.earlier };
      bound = λ phase. (fits.done phase).bound;
      named = λ phase. (fits.done phase).named;
      entries = λ i kind has. fits.table.holds i kind has;
      children = goals-of (frame_of words) (frames children) fits.searching fits.kin;
    }
