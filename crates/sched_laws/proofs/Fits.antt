-- What stands above a frame of a tenant, and a law of its procedure applied there; and what is left after the stores
-- of an act.
use Rattle.frame_table.proofs.TreeChanges.{no-child-found}
use Rattle.sched_laws.proofs.Common.{◌≡◌, ◌≢◌, ℕ, ◌≤◌, inl, inr, true, List, [], ◌∷◌, ◌++◌, Option, Some, None, refl, ap, sym, ◌∙◌, arith, suc, ltb, length, map-append, reverse-append, eq-eqb, eqb-false, frame_at, path_in, parent_of, children_of, IsTree, with_state, values_of, is_that, is_child_of, Each, found-serial, tree-rising, IsUnder, IsTop, placed, children-by-paths, found-path, found-each, rising-filter, filter-found, Job, Functions, Tree, Tenant, frame_words, words_in, sight, has_child, is_root, with_frame_words, with_ended, is_live_at, Fitting, Rooting, Mark, Neither, mark_of_state, ParentFits, NextKeeps, InletKeeps, AcceptKeeps, EveryFrameFits, AllFit, has_one, IsShaped, AreMarkedChildless, AreLiveRootsThere, live_count, JobFits, JobsFit, TenantFits, filter, State, tree-with_state, top-path, false≢true}
use Rattle.sched_laws.proofs.Parts.{childless-at, no-child, shape-at}
use Rattle.sched_laws.proofs.Holds.{Lists, F, Fact, kids, fits-holds, found-same, among-kids, frame_at-with_frame_words, frame_at-other-with_frame_words, holds-fits, holds-with_state}

-- the laws of a procedure
pub record IsLawful {I A : Type 0} (functions : Functions I A) (fits : Fitting) (rooted : Rooting) : Type 0 where
  pub next : NextKeeps functions fits rooted
  pub inlet : InletKeeps functions fits rooted
  pub accept : AcceptKeeps functions fits rooted

-- the words in a tree
pub words-found : (tree : Tree) (s : ℕ) (f : F) → frame_at tree s ≡ Some f → words_in tree s ≡ f.value
words-found tree s f at = ap frame_words at

-- a frame under another is its child
under-child : {tree : Tree} {f : F} (u : IsUnder tree f) → is_child_of u.parent f.path ≡ true
under-child u = ap (is_that u.parent) u.named ∙ eq-eqb u.parent u.parent refl

-- the sight of a frame: its own words first, then the sight of its parent
module _ (tree : Tree) (s : ℕ) (f : F) where
  pub sight-top : frame_at tree s ≡ Some f → IsTop f → sight tree f.path ≡ f.value ∷ []
  sight-top at top = grind (arith, found-serial, words-found)

  pub sight-under : frame_at tree s ≡ Some f → (u : IsUnder tree f) → sight tree f.path ≡ f.value ∷ sight tree u.above.path
  sight-under at u = grind (arith, found-serial, words-found, map-append, reverse-append)

  pub sight-head : IsTree tree → frame_at tree s ≡ Some f → (rest : Lists) × (sight tree f.path ≡ f.value ∷ rest)
  sight-head t at = elim (placed tree s f t at) [
    | inl top ↦ ([], sight-top at top)
    | inr u ↦ (sight tree u.above.path, sight-under at u)
  ]

  -- a frame with a child neither computes nor has returned
  pub parent-neither : IsTree tree → AreMarkedChildless tree tree → frame_at tree s ≡ Some f → (u : IsUnder tree f) → mark_of_state u.above.state ≡ Neither
  parent-neither t all at u = elim (childless-at tree tree u.parent u.above all u.there) [
    | inl neither ↦ neither
    | inr none ↦ (let lacks = sym (children-by-paths tree u.parent t) ∙ no-child tree u.parent none in
        absurd (false≢true (sym (no-child-found (λ x. is_child_of u.parent x.path) tree s f lacks at) ∙ under-child u)))
  ]

-- what a change of a frame's words leaves above it: its parent fits, and a root belongs to its origin
pub record IsKeptAbove (fits : Fitting) (rooted : Rooting) (tree : Tree) (f : F) (words : List ℕ) : Type 0 where
  pub parent : (u : IsUnder tree f) (older younger : Lists) → kids tree u.parent ≡ older ++ f.value ∷ younger →
      fits u.above.value (older ++ words ∷ younger) Neither
  pub root : parent_of f.path ≡ None → (origin : List ℕ) → rooted origin f.value → rooted origin words

-- a root belongs to some origin
abbrev pub HasOrigin : Rooting → F → Type 0
HasOrigin rooted f = parent_of f.path ≡ None → (origin : List ℕ) × rooted origin f.value

-- a law that a procedure keeps for whatever stands above
abbrev pub KeepsAbove : Type 0 → Fitting → Rooting → Tree → F → List ℕ → Type 0
KeepsAbove C fits rooted tree f words =
    (origin : List ℕ) (above older younger : Lists) → sight tree f.path ≡ f.value ∷ above → ParentFits fits rooted origin above (older, younger) f.value →
    C × ParentFits fits rooted origin above (older, younger) words

-- where every frame fits, a procedure that keeps such a law keeps what stands above the frame
module _ (C : Type 0) (fits : Fitting) (rooted : Rooting) (tree : Tree) (s : ℕ) (f : F) (words : List ℕ) (t : IsTree tree) where
  pub kept-above : AreMarkedChildless tree tree → EveryFrameFits fits tree → frame_at tree s ≡ Some f → HasOrigin rooted f →
      KeepsAbove C fits rooted tree f words → C × IsKeptAbove fits rooted tree f words
  kept-above all every at has law = elim (placed tree s f t at) [
    | inl top ↦ (let o = has top.0 in ((law o.0 [] [] [] (sight-top tree s f at top) o.1).0, kept))
    | inr u ↦ (let a = among-kids tree u.parent s f t at (under-child u) in ((apply u a.older a.younger a.all).0, kept))
  ]
    where
      apply : (u : IsUnder tree f) (older younger : Lists) → kids tree u.parent ≡ older ++ f.value ∷ younger →
          C × fits u.above.value (older ++ words ∷ younger) Neither
      apply u older younger e =
          let head = sight-head tree u.parent u.above t u.there in
          law [] (u.above.value ∷ head.0) older younger (sight-under tree s f at u ∙ ap (λ (ls : Lists). f.value ∷ ls) head.1)
          (rw (parent-neither tree s f t all at u, e) at (fits-holds fits tree every u.parent u.above u.there))

      kept : IsKeptAbove fits rooted tree f words
      kept = record {
        parent = λ u older younger e. (apply u older younger e).1;
        root = λ none origin is. elim (placed tree s f t at) [
          | inl top ↦ (law origin [] [] [] (sight-top tree s f at top) is).1
          | inr u ↦ absurd cc
        ];
      }

-- the jobs, where their roots still belong to their origins
module _ (fits : Fitting) (rooted : Rooting) (old : Tree) where
  pub jobs-kept : (new : Tree) (origins : List (List ℕ)) (jobs : List Job) →
      ((root : ℕ) (origin : List ℕ) → path_in old root ≡ root ∷ [] → rooted origin (words_in old root) → rooted origin (words_in new root)) →
      AreLiveRootsThere old jobs → JobsFit fits rooted old origins jobs → JobsFit fits rooted new origins jobs
  jobs-kept new (origin ∷ origins) (job ∷ jobs) kept there all = grind (arith, jobs-kept new origins jobs kept, jobs-kept new origins jobs kept there.1 all.1)
  jobs-kept new origins jobs kept there all = grind arith

  -- one more job
  pub jobs-append : (origins : Lists) (origin : List ℕ) (jobs : List Job) (job : Job) → JobsFit fits rooted old origins jobs →
      JobFits fits rooted old origin job → JobsFit fits rooted old (origins ++ origin ∷ []) (jobs ++ job ∷ [])
  jobs-append (other ∷ origins) origin (next ∷ jobs) job all one = (all.0, jobs-append origins origin jobs job all.1 one)
  jobs-append origins origin jobs job all one = grind arith

-- the origin of a live job's root
module _ (fits : Fitting) (rooted : Rooting) where
  job-origin : (tree : Tree) (origin : List ℕ) (job : Job) (root : ℕ) → is_live_at root job ≡ true → JobFits fits rooted tree origin job →
      rooted origin (words_in tree root)
  job-origin tree origin job root h7 h8 = grind arith

  origin-of : (tree : Tree) (origins : Lists) (jobs : List Job) (root : ℕ) → 1 ≤ live_count root jobs → JobsFit fits rooted tree origins jobs →
      (origin : List ℕ) × rooted origin (words_in tree root)
  origin-of tree (origin ∷ origins) (job ∷ jobs) root some all = grind (arith, origin-of tree origins jobs root, job-origin)
  origin-of tree origins jobs root some all = grind arith

  pub has-origin : (origins : Lists) (tenant : Tenant) (s : ℕ) (f : F) → IsShaped tenant → TenantFits fits rooted origins tenant →
      frame_at tenant.frames s ≡ Some f → HasOrigin rooted f
  has-origin origins tenant s f shape fitting at none =
      let one = (shape-at shape s f at).root (ap is_root (top-path tenant.frames s f shape.tree at none)) in
      let o = origin-of tenant.frames origins tenant.jobs s (omega arith) fitting.jobs in
      (o.0, rw (words-found tenant.frames s f at) at o.1)

  -- a job that ends
  pub jobs-ended : (old new : Tree) (root : ℕ) (ended : Job) (origins : List (List ℕ)) (jobs : List Job) →
      ((origin : List ℕ) → rooted origin (words_in old root) → JobFits fits rooted new origin ended) →
      ((r : ℕ) → r ≢ root → path_in old r ≡ r ∷ [] → words_in new r ≡ words_in old r) → AreLiveRootsThere old jobs → JobsFit fits rooted old origins jobs →
      JobsFit fits rooted new origins (with_ended root ended jobs)
  jobs-ended old new root ended (origin ∷ origins) (job ∷ jobs) end kept there all =
      grind (arith, jobs-ended old new root ended origins jobs end kept, job-origin, eqb-false)
  jobs-ended old new root ended origins jobs end kept there all = grind arith

-- What each kind of change owes, so that a tenant still fits.

-- the words of another frame, and of the frame itself
module _ (n : ℕ) (words : List ℕ) (tree : Tree) where
  pub words-other : (s : ℕ) → n ≢ s → words_in (with_frame_words n words tree) s ≡ words_in tree s
  words-other s other = ap frame_words (frame_at-other-with_frame_words n words tree s other)

  pub words-own : (f : F) → frame_at tree n ≡ Some f → words_in (with_frame_words n words tree) n ≡ words
  words-own f at = ap frame_words (frame_at-with_frame_words n words tree f at)

pub words-with_state : (n : ℕ) (state : State) (tree : Tree) (s : ℕ) → words_in (with_state n state tree) s ≡ words_in tree s
words-with_state n state [] s = refl
words-with_state n state (x ∷ xs) s = grind (arith, words-with_state n state xs s)

-- twice in the same frame
pub with_frame_words-twice : (n : ℕ) (first second : List ℕ) (tree : Tree) →
    with_frame_words n second (with_frame_words n first tree) ≡ with_frame_words n second tree
with_frame_words-twice n first second [] = refl
with_frame_words-twice n first second (x ∷ xs) = grind (arith, with_frame_words-twice n first second xs)

-- a root path is a top's
pub root-top : (tree : Tree) (root : ℕ) (f : F) → frame_at tree root ≡ Some f → path_in tree root ≡ root ∷ [] → parent_of f.path ≡ None
root-top tree root f at is = ap parent_of (sym (found-path tree root f at) ∙ is)

-- fitting, as a fact of each frame
abbrev pub FitsAt : Fitting → Fact
FitsAt fits s w k m = fits w k m

-- each root of the first tree has the same words in the two others
abbrev pub HaveSameRoots : Tree → Tree → Tree → Type 0
HaveSameRoots tree old new = (root : ℕ) → path_in tree root ≡ root ∷ [] → words_in new root ≡ words_in old root

-- a tenant with its shape that fits
module _ {fits : Fitting} {rooted : Rooting} {origins : Lists} {tenant : Tenant} (shape : IsShaped tenant)
    (fitting : TenantFits fits rooted origins tenant) where
  -- a frame of it fits, with the mark that it has
  pub fits-marked : {mark : Mark} (s : ℕ) (f : F) → frame_at tenant.frames s ≡ Some f → mark_of_state f.state ≡ mark → fits f.value (kids tenant.frames s) mark
  fits-marked s f at is = rw is at (fits-holds fits tenant.frames fitting.frames s f at)

  pub jobs-left : (new : Tree) → HaveSameRoots tenant.frames tenant.frames new → JobsFit fits rooted new origins tenant.jobs
  jobs-left new same = jobs-kept fits rooted tenant.frames new origins tenant.jobs (λ root origin is was. rw (same root is) was) shape.live fitting.jobs

  -- a frame comes to another state with the mark that it has
  pub fits-same-mark : {steps : ℕ} (n : ℕ) (f : F) (state : State) → frame_at tenant.frames n ≡ Some f → mark_of_state f.state ≡ mark_of_state state →
      TenantFits fits rooted origins (record tenant { steps = steps; frames = with_state n state tenant.frames })
  fits-same-mark n f state at same =
      let tree = tenant.frames in
      record {
        frames = holds-fits fits _ (tree-with_state n state tree shape.tree) (holds-with_state (FitsAt fits) n state tree shape.tree (λ s g at_g.
            let fit = fits-holds fits tree fitting.frames s g at_g in grind (arith, found-same)));
        jobs = jobs-left (with_state n state tree) (λ root is. words-with_state n state tree root);
      }

-- a frame fits, with some children and some mark
abbrev pub FitsSomehow : Fitting → F → Type 0
FitsSomehow fits f = (below : Lists) × (mark : Mark) × fits f.value below mark

-- the children of a frame fit
pub all-fit : (fits : Fitting) (tree : Tree) (s : ℕ) → IsTree tree → EveryFrameFits fits tree → AllFit fits (kids tree s)
all-fit fits tree s t every =
    let rising = tree-rising tree t in
    let child = λ (x : F). is_child_of s x.path in
    rw (children-by-paths tree s t) (each (filter child tree) (found-each (FitsSomehow fits) (filter child tree) (rising-filter child tree rising)
    (λ n f at. let old = filter-found child tree n f rising at in (kids tree n, mark_of_state f.state, fits-holds fits tree every n f old.0))))
  where
    each : (xs : Tree) → Each (FitsSomehow fits) xs → AllFit fits (values_of xs)
    each [] all = tt
    each (x ∷ xs) all = (all.0, each xs all.1)

-- whether there is a child, by the lists
pub has-one : (tree : Tree) (s : ℕ) → has_one (kids tree s) ≡ has_child tree s
has-one tree s = ap (λ (n : ℕ). ltb 0 n) (long (children_of tree s))
  where
    long : (xs : Tree) → length (values_of xs) ≡ length xs
    long [] = refl
    long (x ∷ xs) = ap (λ (n : ℕ). suc n) (long xs)

-- what a step leaves fits
abbrev pub LeftFits : Fitting → Rooting → Lists → Option Tenant → Type 0
LeftFits fits rooted origins None = Unit {0}
LeftFits fits rooted origins (Some tenant) = TenantFits fits rooted origins tenant
