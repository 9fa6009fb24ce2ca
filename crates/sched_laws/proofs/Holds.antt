-- What holds of each frame of a tenant's tree holds after each change of it: other words, another state, a frame more,
-- a leaf removed, an abort.
pub use Rattle.frame_table.proofs.TreeLaws.{found-own}
use Rattle.frame_table.proofs.TreeLaws.{filter-every}
use Rattle.frame_table.proofs.Changes.{child-stays}
use Rattle.sched_laws.proofs.Common.{◌≡◌, ◌≢◌, ℕ, suc, ◌+◌, ◌≤◌, inl, inr, Bool, false, eqb, List, [], ◌∷◌, ◌++◌, Some, length, refl, ap, sym, ◌∙◌, arith, true, not, None, append-nil, filter, sum_by-append, sum_by-cons, cases_Bool, eqb-true, cases_eq, false≢true, ne_eqb, not-true, charge, Frame, frame_at, has_frame, children_of, values_of, IsTree, parent_of, goes_under, aborted, frames_without, with_state, IsNextFrame, is_child_of, AreSerialsRising, AreAlike, is_that, Each, above-missing, children-by-paths, there-found, found-serial, missing, frame_at-push, frame_at-other-push, tree-rising, placed, tree-push, has_frame-above, without_job, found-each, each-found, tree-alike, children_of-push, frame_at-other-with_state, children_of-with_state, values_of-with_state, Tree, charged_for, with_frame_words, State, aborted-itself, rising-filter, frame_at-filter, frame_at-stays, filter-found, tree-aborted, tree-without, frame_at-without, frame_at-other-without, aborted-leaf, Fitting, Mark, mark_of_state, EachFits, EveryFrameFits}

-- a frame with its words
abbrev pub F : Type 0
F = Frame (List ℕ)

-- the same serials and paths
module _ (n : ℕ) (words : List ℕ) where
  pub with_frame_words-alike : (xs : Tree) → AreAlike xs (with_frame_words n words xs)
  with_frame_words-alike [] = tt
  with_frame_words-alike (x ∷ xs) = grind (arith, with_frame_words-alike xs)

  pub tree-with_frame_words : (xs : Tree) → IsTree xs → IsTree (with_frame_words n words xs)
  tree-with_frame_words xs t = tree-alike xs (with_frame_words n words xs) (with_frame_words-alike xs) t

  pub frame_at-with_frame_words : (xs : Tree) (f : F) → frame_at xs n ≡ Some f → frame_at (with_frame_words n words xs) n ≡ Some (record f { value = words })
  frame_at-with_frame_words [] f at = absurd cc
  frame_at-with_frame_words (x ∷ xs) f at = grind (arith, frame_at-with_frame_words xs f)

  pub frame_at-other-with_frame_words : (xs : Tree) (s : ℕ) → n ≢ s → frame_at (with_frame_words n words xs) s ≡ frame_at xs s
  frame_at-other-with_frame_words [] s other = refl
  frame_at-other-with_frame_words (x ∷ xs) s other = grind (arith, frame_at-other-with_frame_words xs s other)

  -- the frames that pass a test on paths
  pub paths-with_frame_words : (p : List ℕ → Bool) (xs : Tree) →
      filter (λ x. p x.path) (with_frame_words n words xs) ≡ with_frame_words n words (filter (λ x. p x.path) xs)
  paths-with_frame_words p [] = refl
  paths-with_frame_words p (x ∷ xs) = grind (arith, paths-with_frame_words p xs)

  pub children_of-with_frame_words : (xs : Tree) (s : ℕ) → IsTree xs → children_of (with_frame_words n words xs) s ≡ with_frame_words n words (children_of xs s)
  children_of-with_frame_words xs s t =
      rw (children-by-paths _ s (tree-with_frame_words xs t), children-by-paths xs s t) (paths-with_frame_words (is_child_of s) xs)

  pub length-with_frame_words : (xs : Tree) → length (with_frame_words n words xs) ≡ length xs
  length-with_frame_words [] = refl
  length-with_frame_words (x ∷ xs) = ap (λ (k : ℕ). suc k) (length-with_frame_words xs)

  -- no frame of that serial: nothing changes
  pub with_frame_words-missing : (xs : Tree) → has_frame xs n ≡ false → with_frame_words n words xs ≡ xs
  with_frame_words-missing [] lacks = refl
  with_frame_words-missing (x ∷ xs) lacks = grind (arith, with_frame_words-missing xs)

-- what is charged, frame by frame
module _ (x : F) where
  pub charged-cons : (xs : Tree) → charged_for (x ∷ xs) ≡ charge (length x.value) + charged_for xs
  charged-cons xs = sum_by-cons (λ frame. charge (length frame.value)) x xs

  pub charged-one : charged_for (x ∷ []) ≡ charge (length x.value)
  charged-one = charged-cons [] ∙ omega arith

-- that of the new words in place of the old
module _ (n : ℕ) (words : List ℕ) where
  charged-here : (x : F) (xs : Tree) → x.serial ≡ n → AreSerialsRising (x ∷ xs) →
      charged_for (with_frame_words n words (x ∷ xs)) + charge (length x.value) ≡ charged_for (x ∷ xs) + charge (length words)
  charged-here x xs serial rising = grind (arith, with_frame_words-missing, above-missing, charged-cons)

  pub charged-with_frame_words : (xs : Tree) (f : F) → AreSerialsRising xs → frame_at xs n ≡ Some f →
      charged_for (with_frame_words n words xs) + charge (length f.value) ≡ charged_for xs + charge (length words)
  charged-with_frame_words [] f rising at = absurd cc
  charged-with_frame_words (x ∷ xs) f rising at = grind (arith, charged-with_frame_words xs f, charged-here, eqb-true, charged-cons)

-- what is charged for some frames and some more
pub charged-append : (xs ys : Tree) → charged_for (xs ++ ys) ≡ charged_for xs + charged_for ys
charged-append xs ys = sum_by-append (λ frame. charge (length frame.value)) xs ys

-- and for those that pass a test
pub charged-filter : (keep : F → Bool) (xs : Tree) → charged_for (filter keep xs) ≤ charged_for xs
charged-filter keep [] = omega arith
charged-filter keep (x ∷ xs) = grind (arith, charged-filter keep xs, charged-cons)

-- the same values are charged the same
pub charged-values : (xs ys : Tree) → values_of ys ≡ values_of xs → charged_for ys ≡ charged_for xs
charged-values [] [] e = refl
charged-values (x ∷ xs) (y ∷ ys) e = grind (arith, charged-values xs ys, charged-cons)
charged-values xs ys e = absurd cc

-- What holds of each frame of a tree, with its words, the words of its children and its mark: before a change, so that it holds after it.

abbrev pub Lists : Type 0
Lists = List (List ℕ)

-- a fact of a serial, words, words of children, and a mark
abbrev pub Fact : Type 1
Fact = ℕ → List ℕ → Lists → Mark → Type 0

-- the words of the children of a frame
abbrev pub kids : Tree → ℕ → Lists
kids tree s = values_of (children_of tree s)

-- the fact holds of each frame
abbrev pub Holds : Fact → Tree → Type 0
Holds Q tree = (s : ℕ) (f : F) → frame_at tree s ≡ Some f → Q s f.value (kids tree s) (mark_of_state f.state)

-- fitting is such a fact
module _ (fits : Fitting) (tree : Tree) where
  each-fits : (frames : Tree) → EachFits fits tree frames → Each (λ f. fits f.value (kids tree f.serial) (mark_of_state f.state)) frames
  each-fits [] all = tt
  each-fits (x ∷ xs) all = (all.0, each-fits xs all.1)

  fits-each : (frames : Tree) → Each (λ f. fits f.value (kids tree f.serial) (mark_of_state f.state)) frames → EachFits fits tree frames
  fits-each [] all = tt
  fits-each (x ∷ xs) all = (all.0, fits-each xs all.1)

  pub fits-holds : EveryFrameFits fits tree → Holds (λ s w k m. fits w k m) tree
  fits-holds all s f at = grind (arith, found-serial, each-found, each-fits)

  pub holds-fits : IsTree tree → Holds (λ s w k m. fits w k m) tree → EveryFrameFits fits tree
  holds-fits t all = grind (arith, fits-each, found-each, tree-rising, found-serial)

-- the same frame
pub found-same : (tree : Tree) (s n : ℕ) (f g : F) → s ≡ n → frame_at tree s ≡ Some f → frame_at tree n ≡ Some g → f ≡ g
found-same tree s n f g e at_s at_n = cc

-- another state
abbrev pub BeforeState : Fact → ℕ → State → Fact
BeforeState Q n state s w k m = (s ≡ n → Q s w k (mark_of_state state)) × (s ≢ n → Q s w k m)

-- what is found in another state was there before
pub found-with_state : (n : ℕ) (state : State) (xs : Tree) (f : F) → frame_at (with_state n state xs) n ≡ Some f →
    (g : F) × (frame_at xs n ≡ Some g) × (record g { state = state } ≡ f)
found-with_state n state [] f at = absurd cc
found-with_state n state (x ∷ xs) f at = grind (arith, found-with_state n state xs f, cases_Bool)

-- where that holds of each frame, Q does after frame n has this state
module _ (Q : Fact) (n : ℕ) (state : State) (tree : Tree) (t : IsTree tree) where
  pub holds-with_state : Holds (BeforeState Q n state) tree → Holds Q (with_state n state tree)
  holds-with_state all s f at = grind (arith, cases_eq, found-with_state, all, frame_at-other-with_state, children_of-with_state, values_of-with_state)

-- a frame among others: those before it and those behind it
pub record IsAmong (xs : Tree) (n : ℕ) (f : F) : Type 0 where
  pub older : Tree
  pub younger : Tree
  pub all : xs ≡ older ++ f ∷ younger
  pub stored : (words : List ℕ) → with_frame_words n words xs ≡ older ++ record f { value = words } ∷ younger
  pub removed : frames_without n xs ≡ older ++ younger

without-missing : (n : ℕ) (xs : Tree) → has_frame xs n ≡ false → frames_without n xs ≡ xs
without-missing n [] lacks = refl
without-missing n (x ∷ xs) lacks = grind (arith, without-missing n xs)

pub among : (xs : Tree) (n : ℕ) (f : F) → AreSerialsRising xs → frame_at xs n ≡ Some f → IsAmong xs n f
among [] n f rising at = absurd cc
among (x ∷ xs) n f rising at = elim (cases_Bool (eqb x.serial n)) [
  | inl same ↦ grind (arith, eqb-true, above-missing, with_frame_words-missing, without-missing)
  | inr other ↦ (let rest = among xs n f rising.1 (rw other at at) in
      record {
        older = x ∷ rest.older;
        younger = rest.younger;
        all = cc;
        stored = λ words. rw (other, rest.stored words);
        removed = rw (other, rest.removed);
      })
]

values-append : (xs ys : Tree) → values_of (xs ++ ys) ≡ values_of xs ++ values_of ys
values-append [] ys = refl
values-append (x ∷ xs) ys = ap (λ (vs : Lists). x.value ∷ vs) (values-append xs ys)

-- the children of the parent of a frame, and of any other
abbrev pub IsChildOf : ℕ → F → Type 0
IsChildOf s f = is_child_of s f.path ≡ true

pub record IsAmongKids (tree : Tree) (s n : ℕ) (f : F) : Type 0 where
  pub older : Lists
  pub younger : Lists
  pub all : kids tree s ≡ older ++ f.value ∷ younger
  pub stored : (words : List ℕ) → kids (with_frame_words n words tree) s ≡ older ++ words ∷ younger
  pub frames : (words : List ℕ) → children_of (with_frame_words n words tree) s ≡ with_frame_words n words (children_of tree s)
  pub removed : values_of (frames_without n (children_of tree s)) ≡ older ++ younger

pub no-frame : (xs : Tree) (n : ℕ) → frame_at xs n ≡ None → has_frame xs n ≡ false
no-frame xs n none = grind (arith, there-found)

-- whether frame n is among the children of s
module _ (tree : Tree) (s n : ℕ) (f : F) (t : IsTree tree) (at : frame_at tree n ≡ Some f) where
  pub among-kids : IsChildOf s f → IsAmongKids tree s n f
  among-kids child =
      let rising = tree-rising tree t in
      let list = filter (λ x. is_child_of s x.path) tree in
      let is = children-by-paths tree s t in
      let a = among list n f (rising-filter (λ x. is_child_of s x.path) tree rising) (frame_at-stays (λ x. is_child_of s x.path) tree n f rising at child) in
      let frames = λ (words : List ℕ). children_of-with_frame_words n words tree s t in
      record {
        older = values_of a.older;
        younger = values_of a.younger;
        all = ap values_of (is ∙ a.all) ∙ values-append a.older (f ∷ a.younger);
        stored = λ words. ap values_of (frames words ∙ ap (with_frame_words n words) is ∙ a.stored words) ∙ values-append a.older (_ ∷ a.younger);
        frames = frames;
        removed = ap (λ (ys : Tree). values_of (frames_without n ys)) is ∙ ap values_of a.removed ∙ values-append a.older a.younger;
      }

  not-among : is_child_of s f.path ≡ false → has_frame (children_of tree s) n ≡ false
  not-among child = grind (arith, no-frame, children-by-paths, frame_at-filter, tree-rising)

-- other words
module _ (n : ℕ) (f : F) (tree : Tree) (t : IsTree tree) (at_n : frame_at tree n ≡ Some f) where
  -- no frame is its own child
  not-own-child : is_child_of n f.path ≡ false
  not-own-child = elim (placed tree n f t at_n) [
    | inl top ↦ ap (is_that n) top.0
    | inr u ↦ (let e = found-serial tree n f at_n in ap (is_that n) u.named ∙ ne_eqb u.parent n (λ is. omega arith))
  ]

  pub holds-with_frame_words : (Q : Fact) (words : List ℕ) → Holds (λ s w k m.
      (s ≡ n → Q s words k m)
      × (s ≢ n → is_child_of s f.path ≡ true → (older younger : Lists) → k ≡ older ++ f.value ∷ younger → Q s w (older ++ words ∷ younger) m)
      × (s ≢ n → is_child_of s f.path ≡ false → Q s w k m)) tree → Holds Q (with_frame_words n words tree)
  holds-with_frame_words Q words all s h at = elim (cases_eq s n) [
    | inl is ↦ (let e : record f { value = words } ≡ h = found-same _ n s _ h (sym is) (frame_at-with_frame_words n words tree f at_n) at in
        rw (← e, same (rw is not-own-child)) ((all s f (ap (frame_at tree) is ∙ at_n)).0 is))
    | inr other ↦ (let old = all s h (sym (frame_at-other-with_frame_words n words tree s (λ e. other (sym e))) ∙ at) in
        elim (cases_Bool (is_child_of s f.path)) [
          | inl child ↦ (let a = among-kids tree s n f t at_n child in rw (a.stored words) (old.1 other child a.older a.younger a.all))
          | inr none ↦ rw (same none) (old.2 other none)
        ])
  ]
    where
      same : is_child_of s f.path ≡ false → kids (with_frame_words n words tree) s ≡ kids tree s
      same none = ap values_of (children_of-with_frame_words n words tree s t ∙ with_frame_words-missing n words _ (not-among tree s n f t at_n none))

-- a frame more
abbrev pub BeforePush : Fact → F → Fact
BeforePush Q y s w k m = (is_child_of s y.path ≡ true → Q s w (k ++ y.value ∷ []) m) × (is_child_of s y.path ≡ false → Q s w k m)

-- where that holds of each frame, and Q of the new one, Q holds of all of them
module _ (Q : Fact) (tree : Tree) (y : F) (t : IsTree tree) (next : IsNextFrame tree y) where
  pub holds-push : Q y.serial y.value [] (mark_of_state y.state) → Holds (BeforePush Q y) tree → Holds Q (tree ++ y ∷ [])
  holds-push new all s f at = grind (arith, cases_eq, found-same, frame_at-push, all, frame_at-other-push, cases_Bool, children_of-push, values-append, append-nil, not-own-child, tree-push, missing, has_frame-above)

-- a leaf removed
abbrev pub BeforeWithout : Fact → ℕ → F → Fact
BeforeWithout Q n f s w k m =
    s ≢ n → (is_child_of s f.path ≡ true → (older younger : Lists) → k ≡ older ++ f.value ∷ younger → Q s w (older ++ younger) m)
    × (is_child_of s f.path ≡ false → Q s w k m)

children-filter : (keep : F → Bool) (tree : Tree) (s : ℕ) → IsTree tree → IsTree (filter keep tree) →
    children_of (filter keep tree) s ≡ filter keep (children_of tree s)
children-filter keep tree s t left = rw (children-by-paths _ s left, children-by-paths tree s t) (swap keep (λ x. is_child_of s x.path) tree)
  where
    swap : (p q : F → Bool) (xs : Tree) → filter q (filter p xs) ≡ filter p (filter q xs)
    swap p q [] = refl
    swap p q (x ∷ xs) = grind (arith, swap p q xs)

-- where that holds of each frame, Q does after the leaf n is removed
module _ (Q : Fact) (n : ℕ) (f : F) (tree : Tree) (t : IsTree tree) (at_n : frame_at tree n ≡ Some f) where
  pub holds-without : children_of tree n ≡ [] → Holds (BeforeWithout Q n f) tree → Holds Q (frames_without n tree)
  holds-without leaf all s h at = elim (cases_Bool (is_child_of s f.path)) [
    | inl child ↦ (let a = among-kids tree s n f t at_n child in rw (kept ∙ a.removed) ((old apart).0 child a.older a.younger a.all))
    | inr none ↦ rw (kept ∙ ap values_of (without-missing n (children_of tree s) (not-among tree s n f t at_n none))) ((old apart).1 none)
  ]
    where
      apart : s ≢ n
      apart e = grind (arith, frame_at-without)

      old : BeforeWithout Q n f s h.value (kids tree s) (mark_of_state h.state)
      old = all s h (sym (frame_at-other-without n tree s (λ e. apart (sym e))) ∙ at)

      kept : kids (frames_without n tree) s ≡ values_of (frames_without n (children_of tree s))
      kept = ap values_of (children-filter (λ x. not (eqb x.serial n)) tree s t (tree-without n tree t leaf))

-- an abort
abbrev pub BeforeAbort : Fact → ℕ → Fact
BeforeAbort Q p s w k m = (s ≡ p → Q s w [] m) × (s ≢ p → Q s w k m)

-- where that holds of each frame, Q does after an abort at p
module _ (p : ℕ) (tree : Tree) (t : IsTree tree) where
  children-stay : (s : ℕ) (h : F) → frame_at tree s ≡ Some h → goes_under p h.path ≡ false → s ≢ p → aborted p (children_of tree s) ≡ children_of tree s
  children-stay s h at stays other =
      let child = λ (x : F). is_child_of s x.path in
      let rising = tree-rising tree t in
      let all = found-each (λ (x : F). not (goes_under p x.path) ≡ true) (filter child tree) (rising-filter child tree rising)
      (λ c x at_c. let found = filter-found child tree c x rising at_c in rw (child-stays p s c tree h x t at stays other found.0 found.1) refl) in
      rw (children-by-paths tree s t) (filter-every (λ x. not (goes_under p x.path)) (filter child tree) all)

  pub holds-aborted : (Q : Fact) → Holds (BeforeAbort Q p) tree → Holds Q (aborted p tree)
  holds-aborted Q all s h at = grind (arith, filter-found, tree-rising, not-true, aborted-leaf, children-filter, tree-aborted, children-stay)

  -- a root and all that is below it removed
  pub holds-without_job : (Q : Fact) (f : F) → frame_at tree p ≡ Some f → parent_of f.path ≡ None → Holds (λ s w k m. s ≢ p → Q s w k m) tree →
      Holds Q (without_job p tree)
  holds-without_job Q f at top all =
      let kept = holds-aborted (λ s w k m. s ≢ p → Q s w k m) (λ s h at_h. ((λ is other. absurd (other is)), λ other. all s h at_h)) in
      holds-without Q p f (aborted p tree) (tree-aborted p tree t) (aborted-itself p tree f t at) (aborted-leaf p tree t)
      (λ s h at_h other. ((λ child older younger e. absurd (false≢true (sym (ap (is_that s) top) ∙ child))), λ no_child. kept s h at_h other))
