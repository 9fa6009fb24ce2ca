-- Taking in a returned child keeps the search's frame right towards its parent and its children.
use Rattle.jamboree_rules.proofs.Common.{◌≡◌, ◌≢◌, ℕ, ◌+◌, ◌<◌, ◌≤◌, ◌⊎◌, ℤ, neg_ℤ, ◌<ℤ◌, ◌≤ℤ◌, List, [], ◌∷◌, ◌++◌, length, refl, slice_index, slice_set, int_max, sym, ◌∙◌, arith, inr, ⊎_elim, common_steps, ints, clamps, after, IsBound, Neither, HasReturned, best_choice, Exact, entered, IsTabled, IsOfKind, IsTrueRest, found_rest, Frame, coded, board, choice_at, code_at, rest_at, value_at, value, floor, IsFirst, IsTest, IsAgain, IsInRole, First, Test, Again, IsChildOf, AreChildren, how_many, IsSearchingFrame, Fits, Status, changed, seen, ap, by_lt_z}
use Rattle.jamboree_rules.proofs.Searching.{IsSearching, search-of, IsSearching-mark, IsSearching-low, IsSearching-higher, set-there, set-beside, set-length, worth-of, role-kept-mark, found-said, tabled-set, AreAllSettled, all-bound, greatest-of, named-best}
use Rattle.jamboree_rules.proofs.Forms.{IsInSearch}

-- a frame of the same depth, window, role and number
pub record HasSameGoal (f g : Frame) : Type 0 where
  pub depth : g.depth ≡ f.depth
  pub alpha : g.alpha ≡ f.alpha
  pub beta : g.beta ≡ f.beta
  pub role : g.role ≡ f.role
  pub number : g.number ≡ f.number

-- a child of another number stays a child where a choice is settled
pub role-kept-settle : (f c : Frame) (i choice rest : ℕ) (best : ℤ) → i < length f.statuses → c.number ≢ i → f.phase ≡ 3 →
    floor f ≤ℤ int_max f.alpha best → (IsAgain f c → int_max f.alpha best ≡ floor f) →
    IsInRole f c → IsInRole (record (changed (Status i 2 rest) f) { phase = 3; best = best; choice = choice }) c
role-kept-settle f c i choice rest best inside other phase more same role = grind (arith, ints, clamps, set-there, set-beside)

none-of : (c : Frame) (cs : List Frame) (i : ℕ) → how_many i (c ∷ cs) ≡ 0 → (c.number ≢ i) × (how_many i cs ≡ 0)
none-of c cs i none = (λ e. absurd (grind (arith, common_steps, none, e)), grind (arith, common_steps))

-- the children of a list that aren't for choice i
module _ (f f' : Frame) (i : ℕ) (step : (c : Frame) → c.number ≢ i → IsChildOf f c → IsChildOf f' c) where
  pub children-kept : (cs : List Frame) → how_many i cs ≡ 0 → AreChildren f cs → AreChildren f' cs
  children-kept [] none kin = tt
  children-kept (c ∷ cs) none kin = (step c (none-of c cs i none).0 kin.0, children-kept cs (none-of c cs i none).1 kin.1)

-- children in front and behind
module _ (f : Frame) where
  pub children-front : (before behind : List Frame) → AreChildren f (before ++ behind) → AreChildren f before
  children-front [] behind kin = tt
  children-front (c ∷ before) behind kin = (kin.0, children-front before behind kin.1)

  pub children-back : (before behind : List Frame) → AreChildren f (before ++ behind) → AreChildren f behind
  children-back [] behind kin = kin
  children-back (c ∷ before) behind kin = children-back before behind kin.1

  pub children-joined : (before behind : List Frame) → AreChildren f before → AreChildren f behind → AreChildren f (before ++ behind)
  children-joined [] behind front back = back
  children-joined (c ∷ before) behind front back = (front.0, children-joined before behind front.1 back)

pub how_many-append : (i : ℕ) (before behind : List Frame) → how_many i (before ++ behind) ≡ how_many i before + how_many i behind
how_many-append i [] behind = grind (arith, common_steps)
how_many-append i (c ∷ before) behind = grind (arith, common_steps, how_many-append i before behind)

pub how_many-own : (c : Frame) (cs : List Frame) → how_many c.number (c ∷ cs) ≡ how_many c.number cs + 1
how_many-own c cs = grind (arith, common_steps)

pub how_many-cons : (i : ℕ) (c : Frame) (cs : List Frame) → how_many i cs ≤ how_many i (c ∷ cs)
how_many-cons i c cs = grind (arith, common_steps)

-- the child among its parent's children
pub child-of : (f c : Frame) (before behind : List Frame) → AreChildren f (before ++ c ∷ behind) → IsChildOf f c
child-of f c before behind kin = (children-back f before (c ∷ behind) kin).0

-- a parent of a child is in phase 2 or 3, and has begun; the child's status is 1 or 4
module _ (f c : Frame) (role : IsInRole f c) where
  pub in-search : IsInSearch f
  in-search = grind arith

  pub has-begun : f.phase ≢ 0
  has-begun = grind arith

  pub unsettled : slice_index f.statuses c.number ≢ 2
  unsettled = grind arith

  begun : slice_index f.statuses c.number ≢ 0
  begun = grind arith

unspawned-set : (st : List ℕ) (i x spawned : ℕ) → slice_index st i ≢ 0 → ((k : ℕ) → spawned ≤ k → k < length st → slice_index st k ≡ 0) →
    (k : ℕ) → spawned ≤ k → k < length (slice_set st i x) → slice_index (slice_set st i x) k ≡ 0
unspawned-set st i x spawned h1 h2 k h3 h4 = grind (arith, common_steps)

-- the frame that the inlet of c leaves, in this phase and with this best score, choice and status of c's place
abbrev pub taken_in : (f c : Frame) (phase : ℕ) (best : ℤ) (choice status : ℕ) → Frame
taken_in f c phase best choice status = record (changed (Status c.number status (found_rest c)) f) { phase = phase; best = best; choice = choice }

-- the better of its best score and that of c
abbrev pub best_with : Frame → Frame → ℤ
best_with f c = int_max f.best (seen c)

-- its choices are still searched
abbrev StillSearches : (f c : Frame) (best : ℤ) (choice status : ℕ) → Type 0
StillSearches f c best choice status =
    IsSearching (value_at f) (code_at f) (slice_set f.statuses c.number status) (slice_set f.rests c.number (found_rest c)) f.alpha f.beta best choice

-- two searches again are of one choice
one-again : (f c d : Frame) → IsAgain f c → IsAgain f d → d.number ≢ c.number → ⊥
one-again f c d r q other = grind arith

-- in phase 2 the first child is the only one
first-alone : {P : Type 0} (f c d : Frame) → IsFirst f c → IsInRole f d → d.number ≢ c.number → P
first-alone f c d h4 h5 h6 = grind arith

-- what a returned child's score says, of any role
pub scored : (f c : Frame) → IsChildOf f c → Fits c [] HasReturned → (value_at f c.number ≡ neg_ℤ (value c)) × IsBound c.alpha c.beta c.best (value c)
scored f c kin returned = grind (arith, worth-of, kin)

-- what the inlet of a child leaves, whose score says what is true
module _ (f c : Frame) (before behind : List Frame) (fits : Fits f (before ++ c ∷ behind) Neither)
    (holds : IsTrueRest (found_rest c) (value_at f c.number)) where
  own-kin : IsChildOf f c
  own-kin = child-of f c before behind fits.kin

  state : IsSearchingFrame f
  state = fits.searching (in-search f c own-kin.in_role)

  -- no other child is for its choice, and for each choice there is at most one still
  alone : (how_many c.number before ≡ 0) × (how_many c.number behind ≡ 0)
  alone =
      let all : how_many c.number (before ++ c ∷ behind) ≤ 1 = fits.once c.number in
      let sum = how_many-append c.number before (c ∷ behind) in
      let one = how_many-own c behind in (omega (arith, sum, one), omega (arith, sum, one))

  once-left : (i : ℕ) → how_many i (before ++ behind) ≤ 1
  once-left i =
      let most : how_many i (before ++ c ∷ behind) ≤ 1 = fits.once i in
      omega (arith, how_many-append i before (c ∷ behind), how_many-cons i c behind, how_many-append i before behind)

  -- a root that has begun keeps its places
  whole-set : (x : ℕ) → f.role ≡ 0 → length (slice_set f.statuses c.number x) ≡ length (entered f.depth (board f))
  whole-set x root = set-length f.statuses c.number x ∙ fits.whole root (has-begun f c own-kin.in_role)

  table-set : (x : ℕ) → IsTabled (value_at f) (slice_set f.statuses c.number x) (slice_set f.rests c.number (found_rest c))
  table-set x = tabled-set c.number x (found_rest c) own-kin.inside fits.table holds (λ _. found-said c)

  -- it fits where its choices are still searched and the other children keep their roles
  Fits-searched : (phase : ℕ) (best : ℤ) (choice status : ℕ) → phase ≡ 3 → StillSearches f c best choice status →
      ((d : Frame) → d.number ≢ c.number → IsInRole f d → IsInRole (taken_in f c phase best choice status) d) →
      Fits (taken_in f c phase best choice status) (before ++ behind) Neither
  Fits-searched phase best choice status late searching roles =
      let g : Frame = taken_in f c phase best choice status in
      let len = set-length f.statuses c.number status in
      let step : (d : Frame) → d.number ≢ c.number → IsChildOf f d → IsChildOf g d =
      λ d other dkin. record { inside = rw len dkin.inside; shallower = dkin.shallower; known = dkin.known; in_role = roles d other dkin.in_role } in
      record {
        window = fits.window;
        marked = λ (e : phase ≡ 1). absurd (omega arith);
        idle = λ _ not3. absurd (not3 late);
        searching = λ _. record {
          places = len ∙ state.places;
          some = rw len state.some;
          deep = state.deep;
          spawned_in = rw len state.spawned_in;
          unspawned = unspawned-set f.statuses c.number status f.spawned (begun f c own-kin.in_role) state.unspawned;
          below = searching.below;
          settled = searching.settled;
          found = searching.found;
        };
        done = λ (e : phase ≡ 4). absurd (omega arith);
        table = table-set status;
        whole = λ root _. whole-set status root;
        kin = children-joined g before behind (children-kept f g c.number step before alone.0 (children-front f before (c ∷ behind) fits.kin))
            (children-kept f g c.number step behind alone.1 (children-back f before (c ∷ behind) fits.kin).1);
        once = once-left;
      }

  -- inlet case 4: a test above its window's lower end, below beta
  pub inlet-failed : IsTest f c → Fits (taken_in f c f.phase f.best f.choice 3) (before ++ behind) Neither
  inlet-failed test =
      let open_ : slice_index f.statuses c.number ≢ 2 = unsettled f c own-kin.in_role in
      Fits-searched f.phase f.best f.choice 3 test.phase (IsSearching-mark (found_rest c) own-kin.inside open_ (λ e. absurd (omega (arith, e))) (search-of f state))
      (λ d other. role-kept-mark f d c.number 3 (found_rest c) f.spawned other open_)

  -- inlet cases 2 and 3 with a score that is at most the greater of alpha and best, and an upper bound of the choice's value
  pub inlet-low : seen c ≤ℤ floor f → value_at f c.number ≤ℤ seen c → f.phase ≡ 3 → Fits (taken_in f c 3 (best_with f c) f.choice 2) (before ++ behind) Neither
  inlet-low low worth phase =
      Fits-searched 3 _ _ 2 refl (IsSearching-low (found_rest c) own-kin.inside fits.window (unsettled f c own-kin.in_role) low worth (search-of f state))
      (λ d other. role-kept-settle f d _ _ _ _ own-kin.inside other phase (omega (arith, ints, clamps)) (λ _. omega (arith, ints, clamps)))

  -- inlet case 2 of a search again, with a better score
  pub inlet-higher : IsAgain f c → floor f <ℤ seen c → seen c <ℤ f.beta → value_at f c.number ≡ seen c → IsOfKind (found_rest c) Exact →
      Fits (taken_in f c 3 (best_with f c) (code_at f c.number) 2) (before ++ behind) Neither
  inlet-higher again high under worth exact =
      Fits-searched 3 _ _ 2 refl (IsSearching-higher (found_rest c) own-kin.inside fits.table.places exact high under worth again.earlier (search-of f state))
      (λ d other. role-kept-settle f d _ _ _ _ own-kin.inside other again.phase (omega (arith, ints, clamps)) (λ r. absurd (one-again f c d again r other)))

  -- inlet case 1: the frame is done, and has no child
  pub inlet-cut : f.beta ≤ℤ seen c → seen c ≤ℤ value_at f c.number → Fits (taken_in f c 4 (seen c) (code_at f c.number) 2) [] Neither
  inlet-cut high under =
      let most : value_at f c.number ≤ℤ value f = (greatest-of f state).above c.number own-kin.inside in
      let window : f.alpha <ℤ f.beta = fits.window in
      record {
        window = fits.window;
        marked = λ (e : 4 ≡ 1). absurd (omega arith);
        idle = λ _ _. refl;
        searching = ⊎_elim (λ (e : 4 ≡ 2). absurd (omega arith)) (λ (e : 4 ≡ 3). absurd (omega arith));
        done = λ _. record {
          bound = record {
            upper = λ (low : seen c ≤ℤ f.alpha). absurd (omega (arith, ints));
            lower = λ _. omega (arith, ints);
            exact = λ _ (low : seen c <ℤ f.beta). absurd (omega (arith, ints));
          };
          named = λ _ (low : seen c <ℤ f.beta). absurd (omega (arith, ints));
          all = λ (low : seen c <ℤ f.beta). absurd (omega (arith, ints));
          found = λ _ (low : seen c <ℤ f.beta). absurd (omega (arith, ints));
        };
        table = table-set 2;
        whole = λ root _. whole-set 2 root;
        kin = tt;
        once = λ i. omega arith;
      }

  -- inlet case 2 of the first child: below beta
  pub inlet-first : (choice : ℕ) → IsFirst f c → StillSearches f c (best_with f c) choice 2 →
      Fits (taken_in f c 3 (best_with f c) choice 2) (before ++ behind) Neither
  inlet-first choice first searching = Fits-searched 3 _ choice 2 refl searching (λ d other role. first-alone f c d first role other)

-- what the windows say of a returned child's score
module _ (f c : Frame) (worth : value_at f c.number ≡ neg_ℤ (value c)) (bound : IsBound c.alpha c.beta c.best (value c)) where
  pub first-low : IsFirst f c → seen c <ℤ f.beta → value_at f c.number ≤ℤ seen c
  first-low r under =
      by_lt_z c.best c.beta (λ inner. let e : value c ≡ c.best = bound.exact (omega (arith, ints)) inner in omega (arith, ints)) (λ high. omega (arith, ints))

  pub first-exact : IsFirst f c → seen c <ℤ f.beta → floor f <ℤ seen c → value_at f c.number ≡ seen c
  first-exact r under over = worth ∙ ap neg_ℤ (bound.exact (omega (arith, ints)) (omega (arith, ints, clamps)))

  pub again-low : IsAgain f c → seen c ≤ℤ floor f → value_at f c.number ≤ℤ seen c
  again-low r under = omega (arith, ints)

  pub again-exact : IsAgain f c → seen c <ℤ f.beta → floor f <ℤ seen c → value_at f c.number ≡ seen c
  again-exact r under over = worth ∙ ap neg_ℤ (bound.exact (omega (arith, ints)) (omega (arith, ints)))

  pub test-low : seen c ≤ℤ neg_ℤ c.beta → value_at f c.number ≤ℤ seen c
  test-low under = omega (arith, ints)

  -- a score of at least beta is a lower bound of the choice's value, whatever the role
  pub over-beta : f.alpha <ℤ f.beta → f.best <ℤ f.beta → IsInRole f c → f.beta ≤ℤ seen c → seen c ≤ℤ value_at f c.number
  over-beta window below (First r) high = omega (arith, ints)
  over-beta window below (Test r) high = omega (arith, ints, clamps)
  over-beta window below (Again r) high = omega (arith, ints)

not-there : (f c : Frame) (i : ℕ) → slice_index f.statuses i ≢ 1 → slice_index f.statuses i ≢ 4 → c.number ≡ i → IsInRole f c → ⊥
not-there f c i h4 h5 h6 h7 = grind arith

-- no child is for a choice whose status is neither 1 nor 4
module _ (f : Frame) (i : ℕ) (not1 : slice_index f.statuses i ≢ 1) (not4 : slice_index f.statuses i ≢ 4) where
  pub none-for : (cs : List Frame) → AreChildren f cs → how_many i cs ≡ 0
  none-for [] kin = refl
  none-for (c ∷ cs) kin =
      let rest : how_many i cs ≡ 0 = none-for cs kin.1 in
      let apart : c.number ≢ i = λ e. not-there f c i not1 not4 e kin.0.in_role in
      grind (arith, common_steps, rest, apart)

once-more : (j i : ℕ) (c : Frame) (children : List Frame) → c.number ≡ i → how_many i children ≡ 0 → how_many j children ≤ 1 →
    how_many j (children ++ c ∷ []) ≡ how_many j children + how_many j (c ∷ []) → how_many j (children ++ c ∷ []) ≤ 1
once-more j i c children number none most sum = grind arith

-- the frame with this status at a choice, and so many spawned
abbrev pub with_place : Frame → (i status spawned : ℕ) → Frame
with_place f i status spawned = record f { spawned = spawned; statuses = slice_set f.statuses i status; rests = slice_set f.rests i (rest_at f i) }

-- next, phases 2 and 3: a child is opened for choice i, whose status was 0 or 3 and is 1 or 4 now
pub spawned-child : (f c : Frame) (children : List Frame) (i x spawned : ℕ) → Fits f children Neither → IsInSearch f → i < length f.statuses →
    (slice_index f.statuses i ≡ 0) ⊎ (slice_index f.statuses i ≡ 3) → (x ≡ 1) ⊎ (x ≡ 4) → f.spawned ≤ spawned → spawned ≤ length f.statuses → i < spawned →
    c.number ≡ i → IsChildOf (with_place f i x spawned) c → Fits (with_place f i x spawned) (children ++ c ∷ []) Neither
spawned-child f c children i x spawned fits phase inside free opened more few before number kin =
    let s : IsSearchingFrame f = fits.searching phase in
    let not2 : slice_index f.statuses i ≢ 2 = grind arith in
    let x2 : x ≢ 2 = grind arith in
    let none : how_many i children ≡ 0 = none-for f i (grind arith) (grind arith) children fits.kin in
    let len = set-length f.statuses i x in
    let still = IsSearching-mark (rest_at f i) inside not2 x2 (search-of f s) in
    record {
      window = fits.window;
      marked = fits.marked;
      idle = λ no2 no3. ⊎_elim (λ e. absurd (no2 e)) (λ e. absurd (no3 e)) phase;
      searching = λ _. record {
        places = len ∙ s.places;
        some = rw len s.some;
        deep = s.deep;
        spawned_in = rw len (omega arith);
        unspawned = λ k low high. set-beside f.statuses i x k (λ (e : k ≡ i). omega arith) ∙ s.unspawned k (omega arith) (omega (arith, len));
        below = still.below;
        settled = still.settled;
        found = still.found;
      };
      done = λ (e : f.phase ≡ 4). ⊎_elim (λ (p : f.phase ≡ 2). absurd (omega arith)) (λ (p : f.phase ≡ 3). absurd (omega arith)) phase;
      table = tabled-set i x (rest_at f i) inside fits.table (fits.table.holds i) (λ two. absurd (x2 two));
      whole = λ root known. len ∙ fits.whole root known;
      kin = children-joined (with_place f i x spawned) children (c ∷ [])
          (children-kept f (with_place f i x spawned) i (λ d other dkin. record {
            inside = rw len dkin.inside;
            shallower = dkin.shallower;
            known = dkin.known;
            in_role = role-kept-mark f d i x (rest_at f i) spawned other not2 dkin.in_role;
          }) children none fits.kin)
          (kin, tt);
      once = λ j. once-more j i c children number none (fits.once j) (how_many-append j children (c ∷ []));
    }

-- a list with something in it isn't empty
not-empty : {P : Type 0} (older younger : List Frame) (c : Frame) → older ++ c ∷ younger ≡ [] → P
not-empty [] younger c e = absurd (cc)
not-empty (d ∷ older) younger c e = absurd (cc)

-- a child whose words changed stays its parent's: its goal is the same, and once it knows its board, that is the board after its choice
module _ (p c c' : Frame) (same : HasSameGoal c c') (known : c'.phase ≢ 0 → board c' ≡ after (board p) (choice_at p c.number)) where
  role-same : IsInRole p c → IsInRole p c'
  role-same role = grind arith

  child-same : IsChildOf p c → IsChildOf p c'
  child-same kin = grind (arith, role-same)

  kin-replaced : (older younger : List Frame) → AreChildren p (older ++ c ∷ younger) → AreChildren p (older ++ c' ∷ younger)
  kin-replaced [] younger kin = (child-same kin.0, kin.1)
  kin-replaced (d ∷ older) younger kin = (kin.0, kin-replaced older younger kin.1)

  many-replaced : (i : ℕ) (older younger : List Frame) → how_many i (older ++ c' ∷ younger) ≡ how_many i (older ++ c ∷ younger)
  many-replaced i older younger = how_many-append i older (c' ∷ younger) ∙ rw same.number (sym (how_many-append i older (c ∷ younger)))

  -- the parent fits after its child changed
  pub parent-kept : (older younger : List Frame) → Fits p (older ++ c ∷ younger) Neither → Fits p (older ++ c' ∷ younger) Neither
  parent-kept older younger fits = record {
    window = fits.window;
    marked = fits.marked;
    idle = λ no2 no3. not-empty older younger c (fits.idle no2 no3);
    searching = fits.searching;
    done = fits.done;
    table = fits.table;
    whole = fits.whole;
    kin = kin-replaced older younger fits.kin;
    once = λ i. rw (many-replaced i older younger) (fits.once i);
  }

-- where all choices are settled there is no child
childless : (f : Frame) (children : List Frame) → AreAllSettled f → AreChildren f children → children ≡ []
childless f [] all kin = refl
childless f (c ∷ cs) all kin = absurd (unsettled f c kin.0.in_role (all c.number kin.0.inside))

-- next, phase 3, all settled: the frame is done, and returns with no child
pub next-settled : (f : Frame) (children : List Frame) → Fits f children Neither → f.phase ≡ 3 → AreAllSettled f →
    (children ≡ []) × Fits (record f { phase = 4 }) [] HasReturned
next-settled f children fits phase all =
    let s : IsSearchingFrame f = fits.searching (inr phase) in
    let bound : IsBound f.alpha f.beta f.best (value f) = all-bound f s all in
    let named : f.alpha <ℤ f.best → f.best <ℤ f.beta → f.choice ≡ coded (best_choice f.depth (board f)) =
    λ higher below. named-best f s.deep s.places (s.found higher) (bound.exact higher below) in
    grind (arith, childless, bound, named)

-- next, phase 4
pub next-done : (f : Frame) (children : List Frame) → Fits f children Neither → f.phase ≡ 4 → (children ≡ []) × Fits f [] HasReturned
next-done f children fits phase = grind arith
