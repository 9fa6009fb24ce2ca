-- The weight of a frame (what it may still take: nodes, segments or steps): for any procedure, what all frames weigh
-- stays within what was reserved, whatever the order of the steps.
use Rattle.jamboree_core.proofs.Common.{Act, AreSerialsRising, Bool, Compute, Computes, Computing, Continuation, Each, Fitting, FrameId, Functions, Go, Grow, HasReturned, Mark, IsShaped, IsTree, List, Neither, None, Ok, Option, ParentFits, Ready, Return, Returned, Rooting, Running, Some, Spawn, State, StepOf, Submit, Tenant, TenantFits, Tree, Wait, [], aborted, aborted-itself, above-missing, act_by_sight, advance_tests, advanced, answer_tests, answered, ap, arith, cases_Bool, children_of, counted, does_wait, eq-eqb, eqb, eqb-true, false, false≢true, filter, filter-found, finished, found-each, found-serial, found-there, frame_at, frame_at-left, frame_words, frames_without, goes_under, grown, has_child, has_frame, holding, in_state, inl, inlet_tests, inr, is_child_of, is_computed_by, is_ready, is_returned, is_run_by, is_that, lone_step, mark_of_state, named-under, new_frame, not, not-false, opened, padded, parent_of, parent_of-path_under, placed, refl, replicate, root_of, sight, staying, stored, submitted, subst, sum_by-append, sym, taken_in, then_done, there-found, tree-aborted, tree-rising, tree-with_state, tree-without, tree-without_job, true, under-there, values_of, with_frame_words, with_state, without_job, words_in, ℕ, ◌&&◌, ◌*◌, ◌++◌, ◌+◌, ◌-◌, ◌||◌, ◌∙◌, ◌∷◌, ◌≡◌, ◌≢◌, ◌≤◌, ◌⊎◌, Lists, found-same, found-own, among-kids, frame_at-with_frame_words, tree-with_frame_words, with_frame_words-missing, children_of-with_frame_words, words-found, words-other, words-own, words-with_state, with_frame_words-twice, sight-top, sight-under, sight-head, has-one, parent-neither, kept-above, has-origin, fits-marked, computes-marked, has-returned, has_child-with_frame_words, AllPass, by-effects, run-free, returned-marked, returned-childless, staying-parent, sum_by, taken_by, child-under-parent, turns_in, Weight, parent_words, weight_among, weight_in, IsPaid, IsStillPaid, IsPaidToo, Outcome, ReserveOf, and_parts, cases_eq, has_one, is_lower, is_spawn, left, sum_by-cons, F, kids, Waiting}

-- the parent's words, from what a frame sees above itself
abbrev pub nearest_words : List (List ℕ) → Option (List ℕ)
nearest_words [] = None
nearest_words (parent ∷ above) = Some parent

-- no child weighs more where its parent's words change from own to changed
abbrev pub KeepsChildren : Weight → (own changed : List ℕ) → Type 0
KeepsChildren weight own changed = (child : List ℕ) → weight child (Some changed) ≤ weight child (Some own)

-- an act that leaves of a frame's weight so much pays for itself: a toll for each step, by the states that it goes through, and a price for
-- each node, which brings a gain; where there is a toll, a frame waits only with a child
abbrev pub Pays : (toll gain price own left : ℕ) (child : List ℕ → ℕ) → List (List ℕ) → Continuation → Type 0
Pays toll gain price own left child children (Spawn given size) = left + price + child (padded given size) + 7 * toll ≤ own + gain
Pays toll gain price own left child children Wait = (left ≤ own) × ((toll ≡ 0) ⊎ (has_one children ≡ true))
Pays toll gain price own left child children Compute = left + 2 * toll ≤ own
Pays toll gain price own left child children Return = left ≤ own
Pays toll gain price own left child children _ = left + toll ≤ own

-- each step of a procedure's frames uses up weight
pub record UsesUp {I A : Type 0} (functions : Functions I A) (fits : Fitting) (rooted : Rooting) (toll gain price : ℕ) (weight : Weight) : Type 0 where
  -- Advance: its children, if it has any, weigh no more than they did
  pub next : (origin own : List ℕ) (above older younger children : List (List ℕ)) → fits own children Neither → ParentFits fits rooted origin above (older, younger) own →
      let act = functions.next (own ∷ above) in
      let changed = grown act.after (stored act.stores own) in
      Pays toll gain price (weight own (nearest_words above)) (weight changed (nearest_words above)) (λ words. weight words (Some changed)) children act.after
      × ((children ≡ []) ⊎ KeepsChildren weight own changed)
  -- Inlet: neither the frame nor any child of it weighs more
  pub inlet : (own child : List ℕ) (before behind : List (List ℕ)) (above : Option (List ℕ)) → fits own (before ++ child ∷ behind) Neither → fits child [] HasReturned →
      let changed = stored (functions.inlet own child).stores own in (weight changed above ≤ weight own above) × KeepsChildren weight own changed
  -- Answer: the frame weighs no more
  pub accept : (own : List ℕ) (answer : A) (above : Option (List ℕ)) → fits own [] Computes → weight (stored (functions.accept own answer) own) above ≤ weight own above

-- an account of a tenant, by its steps, its nodes, its reservation and what its frames weigh together, that tolls and prices keep
pub record IsAccount (toll gain price : ℕ) (pace : State → ℕ) (Within : (steps serials : ℕ) → ReserveOf → ℕ → Type 0) : Type 0 where
  pub paced : (state : State) → pace state ≡ turns_in state * toll
  pub raises : (steps serials sum : ℕ) (now quota : ReserveOf) → is_lower now quota ≡ false → Within steps serials now sum → Within steps serials quota sum
  pub fewer : (steps serials : ℕ) (quota : ReserveOf) (old new : ℕ) → new ≤ old → Within steps serials quota old → Within steps serials quota new
  pub step : (steps serials : ℕ) (quota : ReserveOf) (old new : ℕ) → new + toll ≤ old → Within steps serials quota old → Within (steps + 1) serials quota new
  pub opens : (steps serials : ℕ) (quota : ReserveOf) (old new : ℕ) → new + price + toll ≤ old + gain → Within steps serials quota old → Within (steps + 1) (serials + 1) quota new

-- Sums over frames.

-- that of a greater function
pub sum-less : (h less : F → ℕ) (xs : Tree) → Each (λ x. less x ≤ h x) xs → sum_by less xs ≤ sum_by h xs
sum-less h less [] all = omega arith
sum-less h less (x ∷ xs) all = grind (arith, sum-less h less xs, sum_by-cons)

-- that of one frame
pub sum-member : (h : F → ℕ) (xs : Tree) (s : ℕ) (f : F) → frame_at xs s ≡ Some f → h f ≤ sum_by h xs
sum-member h [] s f at = absurd cc
sum-member h (x ∷ xs) s f at = grind (arith, sum-member h xs s f, sum_by-cons)

state-missing : (n : ℕ) (state : State) (xs : Tree) → has_frame xs n ≡ false → with_state n state xs ≡ xs
state-missing n state [] lacks = refl
state-missing n state (x ∷ xs) lacks = grind (arith, state-missing n state xs)

-- another frame in the place of one
module _ (h : F → ℕ) (n a b : ℕ) where
  sum-words : (words : List ℕ) (xs : Tree) (f : F) → AreSerialsRising xs → frame_at xs n ≡ Some f → h (record f { value = words }) + a ≤ h f + b →
      sum_by h (with_frame_words n words xs) + a ≤ sum_by h xs + b
  sum-words words [] f rising at room = absurd cc
  sum-words words (x ∷ xs) f rising at room = grind (arith, sum-words words xs f, with_frame_words-missing, above-missing, eqb-true, sum_by-cons)

  sum-states : (state : State) (xs : Tree) (f : F) → AreSerialsRising xs → frame_at xs n ≡ Some f → h (record f { state = state }) + a ≤ h f + b →
      sum_by h (with_state n state xs) + a ≤ sum_by h xs + b
  sum-states state [] f rising at room = absurd cc
  sum-states state (x ∷ xs) f rising at room = grind (arith, sum-states state xs f, state-missing, above-missing, eqb-true, sum_by-cons)

-- frames that go, and one among them
module _ (h : F → ℕ) (keep : F → Bool) where
  sum-kept : (xs : Tree) → sum_by h (filter keep xs) ≤ sum_by h xs
  sum-kept [] = omega arith
  sum-kept (x ∷ xs) = grind (arith, sum-kept xs, sum_by-cons)

  sum-gone : (xs : Tree) (s : ℕ) (f : F) → frame_at xs s ≡ Some f → keep f ≡ false → sum_by h (filter keep xs) + h f ≤ sum_by h xs
  sum-gone [] s f at gone = absurd cc
  sum-gone (x ∷ xs) s f at gone = grind (arith, sum-gone xs s f, sum-kept xs, sum_by-cons)

-- no children
no-kids : (xs : Tree) → values_of xs ≡ [] → xs ≡ []
no-kids [] e = refl
no-kids (x ∷ xs) e = absurd cc

no-member : (older : Lists) (own : List ℕ) (younger : Lists) → older ++ own ∷ younger ≡ [] → ⊥
no-member [] own younger e = absurd cc
no-member (x ∷ older) own younger e = absurd cc

module _ (tree : Tree) (t : IsTree tree) where
  -- the parent of a frame that is there
  pub parent-under : (s : ℕ) (x : F) (p : ℕ) → frame_at tree s ≡ Some x → parent_of x.path ≡ Some p → (g : F) × (frame_at tree p ≡ Some g)
  parent-under s x p at named = there-found tree p (under-there tree s p x t at named)

  -- what a frame sees first
  pub sight-parent : (s : ℕ) (f : F) (above : Lists) → frame_at tree s ≡ Some f → sight tree f.path ≡ f.value ∷ above → nearest_words above ≡ parent_words tree (parent_of f.path)
  sight-parent s f above at seen = elim (placed tree s f t at) [
    | inl top ↦ grind (arith, sight-top)
    | inr u ↦ grind (arith, sight-head tree u.parent u.above t u.there, sight-under tree s f at u, words-found tree u.parent u.above u.there)
  ]

  -- the frames that stay at an inlet
  tree-staying : (n p : ℕ) → children_of tree n ≡ [] → (abort : Bool) → IsTree (staying tree n p abort)
  tree-staying n p leaf true = tree-aborted p tree t
  tree-staying n p leaf false = tree-without n tree t leaf

-- What a tree's frames weigh, with what their states cost, after each change of the tree.
module _ (pace : State → ℕ) (weight : Weight) where
  abbrev pub toll_among : Tree → F → ℕ
  toll_among tree x = pace x.state + weight_among weight tree x

  abbrev pub tolls_in : Tree → ℕ
  tolls_in tree = sum_by (toll_among tree) tree

  -- where parents' words change
  among-less : (old new xs : Tree) → AreSerialsRising xs →
      ((s : ℕ) (x : F) (p : ℕ) → frame_at xs s ≡ Some x → parent_of x.path ≡ Some p → weight x.value (Some (words_in new p)) ≤ weight x.value (Some (words_in old p))) →
      sum_by (toll_among new) xs ≤ sum_by (toll_among old) xs
  among-less old new xs rising each = sum-less (toll_among old) (toll_among new) xs (found-each _ xs rising (λ s x at. by s x at (parent_of x.path) refl))
    where
      by : (s : ℕ) (x : F) → frame_at xs s ≡ Some x → (parent : Option ℕ) → parent_of x.path ≡ parent →
          pace x.state + weight x.value (parent_words new parent) ≤ pace x.state + weight x.value (parent_words old parent)
      by s x at None named = omega arith
      by s x at (Some p) named = let less = each s x p at named in omega (arith, less)

  module _ (tree : Tree) (t : IsTree tree) where
    rising : AreSerialsRising tree
    rising = tree-rising tree t

    -- other words, and another state in a frame
    pub words-toll : (n : ℕ) (f : F) (words : List ℕ) → frame_at tree n ≡ Some f → (kids tree n ≡ []) ⊎ KeepsChildren weight f.value words →
        tolls_in (with_frame_words n words tree) + weight f.value (parent_words tree (parent_of f.path)) ≤ tolls_in tree + weight words (parent_words tree (parent_of f.path))
    words-toll n f words at kept =
        let parent = parent_words tree (parent_of f.path) in
        let less = among-less tree (with_frame_words n words tree) (with_frame_words n words tree) (tree-rising _ up) each in
        let sum = sum-words (toll_among tree) n (weight f.value parent) (weight words parent) words tree f rising at (omega arith) in omega (arith, less, sum)
      where
        up : IsTree (with_frame_words n words tree)
        up = tree-with_frame_words n words tree t

        each : (s : ℕ) (x : F) (p : ℕ) → frame_at (with_frame_words n words tree) s ≡ Some x → parent_of x.path ≡ Some p →
            weight x.value (Some (words_in (with_frame_words n words tree) p)) ≤ weight x.value (Some (words_in tree p))
        each s x p at_x named = elim (cases_eq p n) [
          | inl is ↦ elim kept [
            | inl none ↦ (let a = among-kids (with_frame_words n words tree) n s x up at_x (ap (is_that n) named ∙ eq-eqb p n is) in
                absurd (no-member a.older x.value a.younger (sym a.all ∙ ap values_of (children_of-with_frame_words n words tree n t ∙ ap (with_frame_words n words) (no-kids (children_of tree n) none)))))
            | inr all ↦ rw (is, words-own n words tree f at, words-found tree n f at) (all x.value)
          ]
          | inr other ↦ rw (words-other n words tree p (λ e. other (sym e))) (omega arith)
        ]

    pub state-toll : (n : ℕ) (f : F) (state : State) → frame_at tree n ≡ Some f → tolls_in (with_state n state tree) + pace f.state ≤ tolls_in tree + pace state
    state-toll n f state at =
        let less = among-less tree (with_state n state tree) (with_state n state tree) (tree-rising _ (tree-with_state n state tree t)) (λ s x p at_x named. rw (words-with_state n state tree p) (omega arith)) in
        let sum = sum-states (toll_among tree) n (pace f.state) (pace state) state tree f rising at (omega arith) in omega (arith, less, sum)

    -- a frame more, under one that is there
    push-toll : (y : F) → ((p : ℕ) → parent_of y.path ≡ Some p → has_frame tree p ≡ true) → tolls_in (tree ++ y ∷ []) ≤ tolls_in tree + toll_among tree y
    push-toll y there =
        let left : (p : ℕ) → has_frame tree p ≡ true → words_in (tree ++ y ∷ []) p ≡ words_in tree p = λ p found. ap frame_words (frame_at-left tree (y ∷ []) p found) in
        let old = among-less tree (tree ++ y ∷ []) tree rising (λ s x p at named. let g = parent-under tree t s x p at named in rw (left p (found-there tree p g.0 g.1)) (omega arith)) in
        let new = by (parent_of y.path) (λ p named. left p (there p named)) in
        grind (arith, sum_by-append, sum_by-cons)
      where
        by : (parent : Option ℕ) → ((p : ℕ) → parent ≡ Some p → words_in (tree ++ y ∷ []) p ≡ words_in tree p) →
            weight y.value (parent_words (tree ++ y ∷ []) parent) ≡ weight y.value (parent_words tree parent)
        by None left = refl
        by (Some p) left = rw (left p refl) refl

    -- fewer frames, which are a tree
    fewer-toll : (xs : Tree) → IsTree xs → ((s : ℕ) (x : F) → frame_at xs s ≡ Some x → frame_at tree s ≡ Some x) → tolls_in xs ≤ sum_by (toll_among tree) xs
    fewer-toll xs up found = among-less tree xs xs (tree-rising xs up)
        (λ s x p at named. let g = parent-under xs up s x p at named in rw (words-found xs p g.0 g.1, words-found tree p g.0 (found p g.0 g.1)) (omega arith))

    staying-toll : (n p : ℕ) (f : F) → frame_at tree n ≡ Some f → is_child_of p f.path ≡ true → (leaf : children_of tree n ≡ []) (abort : Bool) →
        tolls_in (staying tree n p abort) + toll_among tree f ≤ tolls_in tree
    staying-toll n p f at child leaf true =
        let less = fewer-toll (aborted p tree) (tree-aborted p tree t) (λ s x found. (filter-found _ tree s x rising found).0) in
        let gone = sum-gone (toll_among tree) (λ x. not (goes_under p x.path)) tree n f at (rw (child-under-parent tree p n f t at child) refl) in omega (arith, less, gone)
    staying-toll n p f at child leaf false =
        let less = fewer-toll (frames_without n tree) (tree-without n tree t leaf) (λ s x found. (filter-found _ tree s x rising found).0) in
        let gone = sum-gone (toll_among tree) (λ x. not (eqb x.serial n)) tree n f at (rw (found-serial tree n f at, eq-eqb n n refl) refl) in omega (arith, less, gone)

    -- a job with all its frames removed
    ended-toll : (root : ℕ) → tolls_in (without_job root tree) ≤ sum_by (toll_among tree) (without_job root tree)
    ended-toll root = fewer-toll (without_job root tree) (tree-without_job root tree t)
        (λ s x found. (filter-found _ tree s x rising (filter-found _ (aborted root tree) s x (tree-rising _ (tree-aborted root tree t)) found).0).0)

-- a frame that has returned, under its parent, among the parent's children
pub record IsTakenIn (fits : Fitting) (tenant : Tenant) (f : F) (parent : ℕ) : Type 0 where
  pub frame : F
  pub there : frame_at tenant.frames parent ≡ Some frame
  pub older : Lists
  pub younger : Lists
  pub fit : fits frame.value (older ++ f.value ∷ younger) Neither
  pub whole : fits f.value [] HasReturned

-- what fits
module _ {fits : Fitting} {rooted : Rooting} {origins : Lists} {tenant : Tenant} (shape : IsShaped tenant) (fitting : TenantFits fits rooted origins tenant) where
  -- what holds of a frame whatever stands above it, if that fits
  pub above-of : (C : Type 0) (f : F) → frame_at tenant.frames f.serial ≡ Some f →
      ((origin : List ℕ) (above older younger : Lists) → sight tenant.frames f.path ≡ f.value ∷ above → ParentFits fits rooted origin above (older, younger) f.value → C) → C
  above-of C f at each =
      (kept-above C fits rooted tenant.frames f.serial f f.value shape.tree shape.childless fitting.frames at (has-origin fits rooted origins tenant f.serial f shape fitting at)
      (λ origin above older younger seen parent. (each origin above older younger seen parent, parent))).0

  -- a frame that computes or has returned has no child
  pub fits-leaf : (mark : Mark) → mark ≢ Neither → (s : ℕ) (f : F) → frame_at tenant.frames s ≡ Some f → mark_of_state f.state ≡ mark → fits f.value [] mark
  fits-leaf mark other s f at marked = let leaf = returned-childless tenant s f shape at (λ e. other (sym marked ∙ e)) in rw leaf at (fits-marked shape fitting s f at marked)

  pub is-taken-in : (n parent : ℕ) (f : F) → frame_at tenant.frames n ≡ Some f → parent_of f.path ≡ Some parent → mark_of_state f.state ≡ HasReturned → IsTakenIn fits tenant f parent
  is-taken-in n parent f at named marked =
      let g = parent-under tenant.frames shape.tree n f parent at named in
      let u = named-under tenant.frames n parent f shape.tree at named in
      let above = found-same tenant.frames u.0.parent parent u.0.above g.0 u.1 u.0.there g.1 in
      let free = ap (λ (y : F). mark_of_state y.state) (sym above) ∙ parent-neither tenant.frames n f shape.tree shape.childless at u.0 in
      let a = among-kids tenant.frames parent n f shape.tree at (ap (is_that parent) named ∙ eq-eqb parent parent refl) in
      record {
        frame = g.0;
        there = g.1;
        older = a.older;
        younger = a.younger;
        fit = subst (λ (ks : Lists). fits g.0.value ks Neither) a.all (fits-marked shape fitting parent g.0 g.1 free);
        whole = fits-leaf HasReturned (λ e. absurd cc) n f at marked;
      }

-- a tenant, if it is still there, is within an account
abbrev pub Leaves : (State → ℕ) → Weight → ((steps serials : ℕ) → ReserveOf → ℕ → Type 0) → Option Tenant → Type 0
Leaves pace weight Within None = Unit {0}
Leaves pace weight Within (Some after) = Within after.steps after.serials after.reserve (tolls_in pace weight after.frames)

-- Each step of a tenant whose frames' steps use up their weight.
module _ {I A : Type 0} {functions : Functions I A} {fits : Fitting} {rooted : Rooting} {toll gain price : ℕ} {weight : Weight} {pace : State → ℕ}
    {Within : (steps serials : ℕ) → ReserveOf → ℕ → Type 0} {origins : Lists} {tenant : Tenant} (uses : UsesUp functions fits rooted toll gain price weight)
    (account : IsAccount toll gain price pace Within) (shape : IsShaped tenant) (fitting : TenantFits fits rooted origins tenant)
    (has : Within tenant.steps tenant.serials tenant.reserve (tolls_in pace weight tenant.frames)) where
  abbrev Above : F → Option (List ℕ)
  Above f = parent_words tenant.frames (parent_of f.path)

  abbrev IsLeft : Option Tenant → Type 0
  IsLeft o = Leaves pace weight Within o

  a-step : (new : ℕ) → new + toll ≤ tolls_in pace weight tenant.frames → Within (tenant.steps + 1) tenant.serials tenant.reserve new
  a-step new room = account.step tenant.steps tenant.serials tenant.reserve _ new room has

  -- what a state costs
  cost-run : (worker : ℕ) (state : State) → is_run_by worker state ≡ true → pace state ≡ 5 * toll
  cost-run worker state is = let all = account.paced state in grind (arith, false≢true)

  cost-computed : (worker : ℕ) (state : State) → is_computed_by worker state ≡ true → pace state ≡ 6 * toll
  cost-computed worker state is = let all = account.paced state in grind (arith, false≢true)

  some-cost : (state : State) → 3 * toll ≤ pace state
  some-cost state = let all = account.paced state in grind arith

  -- what comes after the stores of an act
  module _ (f : F) (at : frame_at tenant.frames f.serial ≡ Some f) (words : List ℕ) where
    abbrev stored_in : Tree
    stored_in = with_frame_words f.serial words tenant.frames

    up : IsTree (with_frame_words f.serial words tenant.frames)
    up = tree-with_frame_words f.serial words tenant.frames shape.tree

    abbrev Kept : List ℕ → Type 0
    Kept changed = (kids tenant.frames f.serial ≡ []) ⊎ KeepsChildren weight f.value changed

    state-room : (state : State) → weight words (Above f) + pace state + toll ≤ weight f.value (Above f) + pace f.state → Kept words →
        IsLeft (Some (in_state f.serial state (counted (holding f.serial words tenant))))
    state-room state room kept =
        let less = words-toll pace weight tenant.frames shape.tree f.serial f words at kept in
        let same = state-toll pace weight stored_in up f.serial (record f { value = words }) state (frame_at-with_frame_words f.serial words tenant.frames f at) in
        a-step _ (omega (arith, less, same, room))

    words-room : weight words (Above f) + toll ≤ weight f.value (Above f) → Kept words → IsLeft (Some (counted (holding f.serial words tenant)))
    words-room room kept = let less = words-toll pace weight tenant.frames shape.tree f.serial f words at kept in a-step _ (omega (arith, less, room))

    spawn-room : (given : List ℕ) (size worker : ℕ) → weight words (Above f) + price + weight (padded given size) (Some words) + 7 * toll ≤ weight f.value (Above f) + gain → Kept words →
        IsLeft (Some (opened (Some f.serial) given size worker (counted (holding f.serial words tenant))))
    spawn-room given size worker room kept =
        let n = f.serial in
        let new : F = new_frame stored_in (tenant.serials + 1) (Some n) worker (padded given size) in
        let there = found-there stored_in n (record f { value = words }) (frame_at-with_frame_words n words tenant.frames f at) in
        let named : parent_of new.path ≡ Some n = parent_of-path_under stored_in (Some n) (tenant.serials + 1) up there in
        let seen : parent_words stored_in (parent_of new.path) ≡ Some words = rw named (ap (λ (w : List ℕ). Some w) (words-own n words tenant.frames f at)) in
        let less = words-toll pace weight tenant.frames shape.tree n f words at kept in
        let more = push-toll pace weight stored_in up new (λ p is. (let same : Some n ≡ Some p = sym named ∙ is in let e : n ≡ p = cc in rw (← e) there)) in
        let own = ap (λ (o : Option (List ℕ)). weight (padded given size) o) seen in
        let six = account.paced (Ready worker) in
        account.opens tenant.steps tenant.serials tenant.reserve _ _ (omega (arith, less, more, own, six, room)) has

    then-room : (worker : ℕ) (name : FrameId) (after : Continuation) → name.serial ≡ f.serial → pace f.state ≡ 5 * toll →
        Pays toll gain price (weight f.value (Above f)) (weight (grown after words) (Above f)) (λ child. weight child (Some (grown after words))) (kids tenant.frames f.serial) after → Kept (grown after words) →
        IsLeft (then_done functions (counted (holding f.serial words tenant)) worker name (record f { value = words }) after).0
    then-room worker name (Grow more) own five pays kept =
        let twice = with_frame_words-twice f.serial words (words ++ replicate more 0) tenant.frames in
        let less = words-toll pace weight tenant.frames shape.tree f.serial f (words ++ replicate more 0) at kept in
        rw (own, twice) (a-step _ (omega (arith, less, pays)))
    then-room worker name (Spawn given size) own five pays kept = rw own (spawn-room given size worker pays kept)
    then-room worker name Go own five pays kept = words-room pays kept
    then-room worker name Wait own five pays kept =
        let four = account.paced Waiting in
        elim (cases_Bool (has_child stored_in name.serial)) [
          | inl some ↦ rw (some, own) (state-room Waiting (omega (arith, five, four, pays.0)) kept)
          | inr none ↦ rw none (words-room (omega (arith, pays.0, free none pays.1)) kept)
        ]
      where
        free : has_child stored_in name.serial ≡ false → (toll ≡ 0) ⊎ (has_one (kids tenant.frames f.serial) ≡ true) → toll ≡ 0
        free none (inl without) = without
        free none (inr some) =
            let child : has_child stored_in name.serial ≡ true = rw own (has_child-with_frame_words f.serial words tenant.frames f.serial shape.tree ∙ sym (has-one tenant.frames f.serial) ∙ some) in
            absurd (false≢true (sym none ∙ child))
    then-room worker name Compute own five pays kept = let six = account.paced (Computing worker) in rw own (state-room (Computing worker) (omega (arith, five, six, pays)) kept)
    then-room worker name Return own five pays kept =
        let four = account.paced Waiting in
        let three = account.paced Returned in
        elim (cases_Bool (has_child stored_in name.serial)) [
          | inl some ↦ rw (some, own) (state-room Waiting (omega (arith, five, four, pays)) kept)
          | inr none ↦ rw (none, own) (state-room Returned (omega (arith, five, three, pays)) kept)
        ]

  -- the act of a frame that neither computes nor has returned
  abbrev Uses : F → Act → Type 0
  Uses f act =
      let changed = grown act.after (stored act.stores f.value) in
      Pays toll gain price (weight f.value (Above f)) (weight changed (Above f)) (λ words. weight words (Some changed)) (kids tenant.frames f.serial) act.after
      × ((kids tenant.frames f.serial ≡ []) ⊎ KeepsChildren weight f.value changed)

  act-uses : (f : F) → frame_at tenant.frames f.serial ≡ Some f → mark_of_state f.state ≡ Neither → Uses f (act_by_sight functions tenant f)
  act-uses f at free = above-of shape fitting (Uses f (act_by_sight functions tenant f)) f at (λ origin above older younger seen parent.
      let got = uses.next origin f.value above older younger (kids tenant.frames f.serial) (fits-marked shape fitting f.serial f at free) parent in
      subst (Uses f) (sym (ap functions.next seen)) (rw (← sight-parent tenant.frames shape.tree f.serial f above at seen) got))

  -- where it opens a child, the price of its node is there
  pub node-found : (f : F) → frame_at tenant.frames f.serial ≡ Some f → mark_of_state f.state ≡ Neither → is_spawn (act_by_sight functions tenant f).after ≡ true →
      price ≤ tolls_in pace weight tenant.frames + gain
  node-found f at free spawns =
      let own = sum-member (toll_among pace weight tenant.frames) tenant.frames f.serial f at in
      let act = act_by_sight functions tenant f in
      let some = opened-some act.stores act.after spawns (act-uses f at free) in omega (arith, own, some)
    where
      opened-some : (stores : List (ℕ × ℕ)) (after : Continuation) → is_spawn after ≡ true → Uses f (record { stores = stores; after = after }) → price ≤ weight f.value (Above f) + gain
      opened-some stores (Spawn given size) is uses = omega (arith, uses.0)
      opened-some stores _ is uses = absurd (false≢true is)

  advance-room : (worker : ℕ) (name : FrameId) (f : F) → frame_at tenant.frames name.serial ≡ Some f → AllPass (advance_tests tenant worker f (act_by_sight functions tenant f)) →
      IsLeft (advanced functions tenant worker name f (act_by_sight functions tenant f)).0
  advance-room worker name f at passed =
      let act = act_by_sight functions tenant f in
      let at_own = found-own tenant.frames name.serial f at in
      let runs = not-false (is_run_by worker f.state) passed.0 in
      let both = act-uses f at_own (run-free worker f.state runs) in
      then-room f at_own (stored act.stores f.value) worker name act.after (sym (found-serial tenant.frames name.serial f at)) (cost-run worker f.state runs) both.0 both.1

  answer-room : (worker s : ℕ) (f : F) (answer : A) → frame_at tenant.frames s ≡ Some f → AllPass (answer_tests functions tenant worker f answer) → IsLeft (answered functions tenant worker f answer).0
  answer-room worker s f answer at passed =
      let at_own = found-own tenant.frames s f at in
      let computes = not-false (is_computed_by worker f.state) passed.0 in
      let marked = computes-marked worker f.state computes in
      let leaf = returned-childless tenant f.serial f shape at_own (λ e. let both : Neither ≡ Computes = sym e ∙ marked in absurd cc) in
      let less = uses.accept f.value answer (Above f) (fits-leaf shape fitting Computes (λ e. absurd cc) f.serial f at_own marked) in
      let six = cost-computed worker f.state computes in
      let five = account.paced (Running worker) in
      state-room f at_own (stored (functions.accept f.value answer) f.value) (Running worker) (omega (arith, less, six, five)) (inl (ap values_of leaf))

  inlet-room : (worker : ℕ) (name : FrameId) (f : F) (parent : ℕ) → frame_at tenant.frames name.serial ≡ Some f → parent_of f.path ≡ Some parent →
      AllPass (inlet_tests tenant worker f parent (functions.inlet (words_in tenant.frames parent) f.value)) →
      IsLeft (taken_in {I = I} tenant worker name parent (functions.inlet (words_in tenant.frames parent) f.value)).0
  inlet-room worker name f parent at named passed =
      let n = name.serial in
      let act = functions.inlet (words_in tenant.frames parent) f.value in
      let returned = not-false (is_returned f.state) passed.0 in
      let leaf = returned-childless tenant n f shape at (returned-marked f.state returned) in
      let k = is-taken-in shape fitting n parent f at named (has-returned f.state returned) in
      let g = k.frame in
      let frames = staying tenant.frames n parent act.abort in
      let left = tree-staying tenant.frames shape.tree n parent leaf act.abort in
      let at_g : frame_at frames parent ≡ Some g = staying-parent tenant n parent f g act.abort at named k.there shape in
      let got = uses.inlet g.value f.value k.older k.younger (parent_words frames (parent_of g.path)) k.fit k.whole in
      let words = stored act.stores (words_in frames parent) in
      let is : words ≡ stored (functions.inlet g.value f.value).stores g.value = rw (words-found frames parent g at_g, words-found tenant.frames parent g k.there) refl in
      let less = words-toll pace weight frames left parent g words at_g (inr (rw is got.1)) in
      let room : weight words (parent_words frames (parent_of g.path)) ≤ weight g.value (parent_words frames (parent_of g.path)) = rw is got.0 in
      let gone = staying-toll pace weight tenant.frames shape.tree n parent f at (ap (is_that parent) named ∙ eq-eqb parent parent refl) leaf act.abort in
      let three = some-cost f.state in
      let new = with_frame_words parent words frames in
      elim (cases_Bool (does_wait (frame_at frames parent) && (act.abort || act.wake || not (has_child frames parent)))) [
        | inl woken ↦ (let four = waiting (frame_at frames parent) g at_g (and_parts _ _ woken).0 in
            let six = account.paced (Ready worker) in
            let ready = state-toll pace weight new (tree-with_frame_words parent words frames left) parent (record g { value = words }) (Ready worker) (frame_at-with_frame_words parent words frames g at_g) in
            rw woken (a-step _ (omega (arith, less, room, gone, ready, three, four, six))))
        | inr sleeps ↦ rw sleeps (a-step _ (omega (arith, less, room, gone, three)))
      ]
    where
      waiting : (o : Option F) (g : F) → o ≡ Some g → does_wait o ≡ true → pace g.state ≡ 4 * toll
      waiting o g is waits = let all = account.paced g.state in grind (arith, false≢true)

  -- a job that ends
  ended-room : (root : ℕ) → Within tenant.steps tenant.serials tenant.reserve (tolls_in pace weight (without_job root tenant.frames))
  ended-room root =
      let less = ended-toll pace weight tenant.frames shape.tree root in
      let cut = sum-kept (toll_among pace weight tenant.frames) (λ x. not (goes_under root x.path)) tenant.frames in
      let rest = sum-kept (toll_among pace weight tenant.frames) (λ x. not (eqb x.serial root)) (aborted root tenant.frames) in
      account.fewer tenant.steps tenant.serials tenant.reserve _ _ (omega (arith, less, cut, rest)) has

  finish-room : (s : ℕ) (f : F) → frame_at tenant.frames s ≡ Some f → IsLeft (finished {I = I} tenant f).0
  finish-room s f at =
      let n = f.serial in
      let less = ended-toll pace weight tenant.frames shape.tree n in
      let cut = sum-kept (toll_among pace weight tenant.frames) (λ x. not (goes_under n x.path)) tenant.frames in
      let there = aborted-itself n tenant.frames f shape.tree (found-own tenant.frames s f at) in
      let gone = sum-gone (toll_among pace weight tenant.frames) (λ x. not (eqb x.serial n)) (aborted n tenant.frames) n f there (rw (eq-eqb n n refl) refl) in
      let three = some-cost f.state in a-step _ (omega (arith, less, cut, gone, three))

  submit-room : (number : ℕ) (words : List ℕ) (size : ℕ) →
      Within tenant.steps (tenant.serials + 1) tenant.reserve (tolls_in pace weight tenant.frames + (6 * toll + weight (padded words size) None)) → IsLeft (submitted {I = I} tenant number words size).0
  submit-room number words size room =
      let new : F = new_frame tenant.frames (tenant.serials + 1) None 0 (padded words size) in
      let more = push-toll pace weight tenant.frames shape.tree new (λ p is. absurd cc) in
      let six = account.paced (Ready 0) in account.fewer tenant.steps (tenant.serials + 1) tenant.reserve _ _ (omega (arith, more, six)) room

  take-room : (worker s : ℕ) (f : F) → frame_at tenant.frames s ≡ Some f → not (is_ready f.state) ≡ false → IsLeft (taken_by {I = I} tenant worker f).0
  take-room worker s f at ready =
      let six = waits f.state (account.paced f.state) (not-false (is_ready f.state) ready) in
      let five = account.paced (Running worker) in
      let less = state-toll pace weight tenant.frames shape.tree f.serial f (Running worker) (found-own tenant.frames s f at) in a-step _ (omega (arith, six, five, less))
    where
      waits : (state : State) → pace state ≡ turns_in state * toll → is_ready state ≡ true → pace state ≡ 6 * toll
      waits state all is = grind (arith, false≢true)

  -- each step
  pub step-left : (step : StepOf A) (outcome : Outcome I) →
      ((number : ℕ) (words : List ℕ) (size : ℕ) → step ≡ Submit number words size →
      Within tenant.steps (tenant.serials + 1) tenant.reserve (tolls_in pace weight tenant.frames + (6 * toll + weight (padded words size) None))) →
      lone_step functions tenant step ≡ Ok outcome → Leaves pace weight Within outcome.0
  step-left step outcome submits is = by-effects functions tenant step outcome IsLeft is (record {
    at_raise = λ number quota _ enough. account.raises tenant.steps tenant.serials _ tenant.reserve quota enough has;
    at_submit = λ number words size submit passed. submit-room number words size (submits number words size submit);
    at_take = λ worker s f at ready some. take-room worker s f at ready;
    at_advance = advance-room;
    at_answer = answer-room;
    at_inlet = inlet-room;
    at_finish = λ worker s f at passed. finish-room s f at;
    at_spend = λ s f at. ended-room (root_of f.path);
    at_cancel = λ number root at. ended-room root;
    at_leave = λ number leaves. tt;
  })

-- The account of what is paid of a reservation, at a price for each node.
times-one : (price n : ℕ) → price * (n + 1) ≡ price * n + price
times-one price n = omega arith

abbrev pub Within : ℕ → (ReserveOf → ℕ) → (steps serials : ℕ) → ReserveOf → ℕ → Type 0
Within price bound steps serials quota sum = price * serials + sum ≤ bound quota

abbrev pub free : State → ℕ
free state = 0

paid-account : (price : ℕ) {bound : ReserveOf → ℕ} → ((now quota : ReserveOf) → is_lower now quota ≡ false → bound now ≤ bound quota) → IsAccount 0 0 price free (Within price bound)
paid-account price raises = grind (arith, raises, times-one)

sum-plain : (h : F → ℕ) (xs : Tree) → sum_by (λ x. 0 + h x) xs ≡ sum_by h xs
sum-plain h [] = refl
sum-plain h (x ∷ xs) = grind (arith, sum-plain h xs, sum_by-cons)

module _ {I A : Type 0} {functions : Functions I A} {fits : Fitting} {rooted : Rooting} {price : ℕ} {weight : Weight} {origins : Lists} {tenant : Tenant}
    (uses : UsesUp functions fits rooted 0 0 price weight) (shape : IsShaped tenant) (fitting : TenantFits fits rooted origins tenant) {bound : ReserveOf → ℕ}
    (raises : (now quota : ReserveOf) → is_lower now quota ≡ false → bound now ≤ bound quota) (has : IsPaid price weight bound tenant) where
  plain : (tree : Tree) → tolls_in free weight tree ≡ weight_in weight tree
  plain tree = sum-plain (weight_among weight tree) tree

  within : Within price bound tenant.steps tenant.serials tenant.reserve (tolls_in free weight tenant.frames)
  within = let own = plain tenant.frames in omega (arith, own, has)

  pub node-paid : (f : F) → frame_at tenant.frames f.serial ≡ Some f → mark_of_state f.state ≡ Neither → is_spawn (act_by_sight functions tenant f).after ≡ true →
      price * tenant.serials + price ≤ bound tenant.reserve
  node-paid f at idle spawns = let some = node-found uses (paid-account price raises) shape fitting within f at idle spawns in omega (arith, some, within)

  pub step-room : (step : StepOf A) (outcome : Outcome I) → IsPaidToo price weight bound tenant step → lone_step functions tenant step ≡ Ok outcome → IsStillPaid price weight bound outcome.0
  step-room step outcome too is =
      still outcome.0 (step-left uses (paid-account price raises) shape fitting within step outcome
      (λ number words size submit. let paid = times-one price tenant.serials in let room = subst (IsPaidToo price weight bound tenant) submit too in let own = plain tenant.frames in omega (arith, paid, room, own)) is)
    where
      still : (o : Option Tenant) → Leaves free weight (Within price bound) o → IsStillPaid price weight bound o
      still None kept = tt
      still (Some after) kept = let own = plain after.frames in omega (arith, own, kept)
