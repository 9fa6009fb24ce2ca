-- Each part of a tenant's shape (its tree, jobs and reservation), under each change of the tree and of the jobs.
use Rattle.frame_table.proofs.Finds.{none-of-length}
use Rattle.frame_table.proofs.Tenants.{state-length}
use Rattle.sched_laws.proofs.Common.{◌≡◌, ◌≢◌, ℕ, suc, ◌+◌, ◌≤◌, ◌⊎◌, Bool, true, false, eqb, ltb, List, [], ◌∷◌, ◌++◌, Option, Some, None, length, refl, ap, ◌∙◌, arith, length-append, ◌*◌, ◌<◌, not, filter, filter-append, cases_Bool, cases_eq, eq-eqb, eqb-false, eqb-true, State, frame_at, has_frame, path_in, AllBelow, parent_of, with_state, children_of, IsNextFrame, IsTree, goes_under, aborted, frames_without, new_frame, is_child_of, Each, AreAlike, there-found, found-serial, found-path, frame_at-push, frame_at-other-push, tree-rising, found-each, children-by-paths, found-there, filter-found, frame_at-stays, tree-aborted, tree-without, tree-without_job, tree-push, children_of-push, frame_at-other-with_state, children_of-with_state, new-frame-next, parent_of-path_under, path_in-alike, tree-alike, with_state-alike, values_of-with_state, Job, Live, Tree, has_child, is_live_at, with_frame_words, with_ended, Tenant, charged_for, is_root, Neither, mark_of_state, AreMarkedChildless, live_count, AreRootsLive, IsRootThere, AreLiveRootsThere, HaveWords, IsShaped, charge, padded, has_frame-above, path_in-left, path_in-right, counted, in_state, holding, opened, ended, frame_at-other-without, sym, inl, inr}
use Rattle.frame_table.specs.Frames.{has_parent}
use Rattle.sched_laws.proofs.Holds.{found-own, frame_at-with_frame_words, frame_at-other-with_frame_words, children_of-with_frame_words, length-with_frame_words, with_frame_words-alike, charged-one, charged-with_frame_words, charged-append, charged-filter, charged-values, F, found-with_state, found-same}
use Rattle.cactus_stack.proofs.LawFacts.{length-padded}

-- what a frame has of children
module _ (tree : Tree) (s : ℕ) where
  -- no child, as a fact of lists
  pub no-child : has_child tree s ≡ false → children_of tree s ≡ []
  no-child none = none-of-length _ (grind arith)

  none-has_child : children_of tree s ≡ [] → has_child tree s ≡ false
  none-has_child none = rw none refl

  -- as many children: the same answer
  has_child-length : (other : Tree) → length (children_of other s) ≡ length (children_of tree s) → has_child other s ≡ has_child tree s
  has_child-length other e = ap (λ (n : ℕ). ltb 0 n) e

-- another state, and other words in a frame, change nobody's children
pub has_child-with_state : (n : ℕ) (tree : Tree) (state : State) (s : ℕ) → IsTree tree → has_child (with_state n state tree) s ≡ has_child tree s
has_child-with_state n tree state s t = grind (arith, has_child-length, children_of-with_state, state-length)

pub has_child-with_frame_words : (n : ℕ) (words : List ℕ) (tree : Tree) (s : ℕ) → IsTree tree → has_child (with_frame_words n words tree) s ≡ has_child tree s
has_child-with_frame_words n words tree s t = grind (arith, has_child-length, children_of-with_frame_words, length-with_frame_words)

-- among fewer frames no frame has a child more
none-filter : (p q : F → Bool) (xs : Tree) → filter q xs ≡ [] → filter q (filter p xs) ≡ []
none-filter p q [] none = refl
none-filter p q (x ∷ xs) none = grind (arith, none-filter p q xs)

no-child-filter : (keep : F → Bool) (tree : Tree) (s : ℕ) → IsTree tree → IsTree (filter keep tree) → has_child tree s ≡ false → has_child (filter keep tree) s ≡ false
no-child-filter keep tree s t left none = grind (arith, none-has_child, children-by-paths, none-filter, no-child)

-- a frame that computes or has returned has no child in this tree
pub childless-at : (tree frames : Tree) (s : ℕ) (f : F) → AreMarkedChildless tree frames → frame_at frames s ≡ Some f →
    (mark_of_state f.state ≡ Neither) ⊎ (has_child tree s ≡ false)
childless-at tree [] s f all at = absurd cc
childless-at tree (x ∷ xs) s f all at = grind (arith, childless-at tree xs s f, eqb-true)

-- Each part of the shape that speaks of frames, for one frame: its serial was given, it has no child where it computes or has returned, it is
-- the root of one live job where it is a root, and it has 1 to 128 words.
pub record ShapeOf (bound : ℕ) (jobs : List Job) (tree : Tree) (s : ℕ) (f : F) : Type 0 where
  pub given : s < bound
  pub childless : (mark_of_state f.state ≡ Neither) ⊎ (has_child tree s ≡ false)
  pub root : is_root f.path ≡ true → live_count s jobs ≡ 1
  pub words : (1 ≤ length f.value) × (length f.value ≤ 128)

-- and of each of these frames
abbrev AreShapedIn : ℕ → List Job → Tree → Tree → Type 0
AreShapedIn bound jobs tree frames = AllBelow bound frames × AreMarkedChildless tree frames × AreRootsLive jobs frames × HaveWords frames

-- what is found has these parts of the shape, and frames have them where what is found does
module _ (bound : ℕ) (jobs : List Job) (tree : Tree) where
  part-at : (frames : Tree) (n : ℕ) (f : F) → AreShapedIn bound jobs tree frames → frame_at frames n ≡ Some f → ShapeOf bound jobs tree n f
  part-at [] n f p at = absurd cc
  part-at (x ∷ xs) n f p at = grind (arith, part-at xs n f, eqb-true)

  each-parts : (frames : Tree) → Each (λ f. ShapeOf bound jobs tree f.serial f) frames → AreShapedIn bound jobs tree frames
  each-parts [] each = (tt, tt, tt, tt)
  each-parts (x ∷ xs) each = grind (arith, each-parts xs)

pub shape-at : {tenant : Tenant} (s : IsShaped tenant) (n : ℕ) (f : F) → frame_at tenant.frames n ≡ Some f →
    ShapeOf (tenant.serials + 1) tenant.jobs tenant.frames n f
shape-at {tenant} s n f at = part-at _ _ _ tenant.frames n f (s.given, s.childless, s.roots, s.words) at

-- how many jobs live under a root
live_count-append : (jobs : List Job) (root : ℕ) (more : List Job) → live_count root (jobs ++ more) ≡ live_count root jobs + live_count root more
live_count-append jobs root more = grind (arith, filter-append, length-append)

-- a path that is there
pub path-there : (tree : Tree) (root : ℕ) → path_in tree root ≡ root ∷ [] → has_frame tree root ≡ true
path-there [] root e = absurd cc
path-there (x ∷ xs) root e = grind (arith, path-there xs root)

-- no job lives under a serial that is no frame's
no-live : (tree : Tree) (root : ℕ) (jobs : List Job) → has_frame tree root ≡ false → AreLiveRootsThere tree jobs → live_count root jobs ≡ 0
no-live tree root [] lacks live = refl
no-live tree root (x2 ∷ jobs) lacks live = grind (arith, no-live tree root jobs lacks, no-live tree root jobs lacks live.1, path-there)

-- the job that lives under a root ended
abbrev pub IsEnd : Job → Type 0
IsEnd job = (root : ℕ) → is_live_at root job ≡ false

pub length-with_ended : (root : ℕ) (job : Job) (jobs : List Job) → length (with_ended root job jobs) ≡ length jobs
length-with_ended root job [] = refl
length-with_ended root job (x ∷ xs) = ap (λ (n : ℕ). suc n) (length-with_ended root job xs)

-- two roots have no live job in common
live-one : (job : Job) (a b : ℕ) → is_live_at a job ≡ true → is_live_at b job ≡ true → a ≡ b
live-one job a b h4 h5 = grind arith

-- after the jobs under a root have ended, as many live under each other root as before
module _ (root : ℕ) (job : Job) (end : IsEnd job) where
  live_count-with_ended : (s : ℕ) (jobs : List Job) → s ≢ root → live_count s (with_ended root job jobs) ≡ live_count s jobs
  live_count-with_ended s [] other = refl
  live_count-with_ended s (x ∷ xs) other = grind (arith, live_count-with_ended s xs other, live-one)

-- live jobs have their root frames where the root frames stay
live-kept : (old new : Tree) (jobs : List Job) → ((root : ℕ) → path_in old root ≡ root ∷ [] → path_in new root ≡ root ∷ []) →
    AreLiveRootsThere old jobs → AreLiveRootsThere new jobs
live-kept old new [] kept live = tt
live-kept old new (x2 ∷ jobs) kept live = grind (arith, live-kept old new jobs kept, live-kept old new jobs kept live.1)

live-append : (tree : Tree) (jobs more : List Job) → AreLiveRootsThere tree jobs → AreLiveRootsThere tree more → AreLiveRootsThere tree (jobs ++ more)
live-append tree [] more p q = q
live-append tree (job ∷ jobs) more p q = (p.0, live-append tree jobs more p.1 q)

-- an ended job has no root to be there
end-there : (tree : Tree) (job : Job) → IsEnd job → IsRootThere tree job
end-there tree (Live root) end = let lives = end root in grind (arith, eq-eqb)
end-there tree _ end = tt

-- after the jobs under a root have ended, those that live have their root frames, where the other roots stayed
module _ (old new : Tree) (root : ℕ) (job : Job) where
  other-there : ((s : ℕ) → s ≢ root → path_in old s ≡ s ∷ [] → path_in new s ≡ s ∷ []) → is_live_at root job ≡ false → IsRootThere old job → IsRootThere new job
  other-there kept other there = grind (arith, eqb-false)

  live-with_ended : (jobs : List Job) → IsEnd job → ((s : ℕ) → s ≢ root → path_in old s ≡ s ∷ [] → path_in new s ≡ s ∷ []) → AreLiveRootsThere old jobs →
      AreLiveRootsThere new (with_ended root job jobs)
  live-with_ended [] end kept live = tt
  live-with_ended (x ∷ xs) end kept live = grind (arith, live-with_ended xs end kept, end-there, other-there)

-- What a step does to a tenant, move by move: each move keeps the shape.

-- one more step is counted, where one was left
module _ {tenant : Tenant} (s : IsShaped tenant) where
  pub shaped-counted : tenant.steps < 16 * tenant.reserve.nodes → IsShaped (counted tenant)
  shaped-counted left = grind arith

  -- other serials, jobs and frames, where each frame has its parts of the shape
  shaped-by : (serials : ℕ) (jobs : List Job) (frames : Tree) → IsTree frames →
      ((n : ℕ) (f : F) → frame_at frames n ≡ Some f → ShapeOf (serials + 1) jobs frames n f) → AreLiveRootsThere frames jobs → length jobs ≤ 256 →
      charged_for frames ≤ tenant.reserve.segments → serials ≤ tenant.reserve.nodes →
      IsShaped (record tenant { serials = serials; jobs = jobs; frames = frames })
  shaped-by serials jobs frames t at live few charged opened =
      let parts = each-parts (serials + 1) jobs frames frames (found-each _ frames (tree-rising frames t) (λ n f is. at f.serial f (found-own frames n f is))) in
      grind arith

  -- frames of the same serials and paths
  shaped-alike : (new : Tree) → AreAlike tenant.frames new → charged_for new ≤ tenant.reserve.segments →
      ((n : ℕ) (f : F) → frame_at new n ≡ Some f → ShapeOf (tenant.serials + 1) tenant.jobs new n f) → IsShaped (record tenant { frames = new })
  shaped-alike new alike charged at =
      let old = tenant.frames in
      shaped-by tenant.serials tenant.jobs new (tree-alike old new alike s.tree) at
      (live-kept old new tenant.jobs (λ root is. path_in-alike old new root alike ∙ is) s.live) s.few_jobs charged s.opened

  -- another state in a frame: one that neither computes nor has returned, or of a frame without a child
  pub shaped-in_state : (n : ℕ) (state : State) → (mark_of_state state ≡ Neither) ⊎ (has_child tenant.frames n ≡ false) → IsShaped (in_state n state tenant)
  shaped-in_state n state ok =
      let old = tenant.frames in
      let e = charged-values old (with_state n state old) (values_of-with_state n state old) in
      shaped-alike (with_state n state old) (with_state-alike n state old) (omega arith) (λ q f at. elim (cases_eq q n) [
        | inl same ↦ (let g = found-with_state n state old f (rw same at at) in let p = shape-at s n g.0 g.1 in grind (arith, has_child-with_state))
        | inr other ↦ (let p = shape-at s q f (sym (frame_at-other-with_state n state old q (λ e. other (sym e))) ∙ at) in grind (arith, has_child-with_state))
      ])

  -- other words in a frame: 1 to 128, charged within what is reserved
  pub shaped-holding : (n : ℕ) (words : List ℕ) (f : F) → frame_at tenant.frames n ≡ Some f → (1 ≤ length words) × (length words ≤ 128) →
      charged_for tenant.frames + charge (length words) ≤ tenant.reserve.segments + charge (length f.value) → IsShaped (holding n words tenant)
  shaped-holding n words f at fit room =
      let old = tenant.frames in
      let charges = charged-with_frame_words n words old f (tree-rising old s.tree) at in
      shaped-alike (with_frame_words n words old) (with_frame_words-alike n words old) (omega arith)
      (λ q g at_q. elim (cases_eq q n) [
        | inl same ↦ (let p = shape-at s n f at in let here = frame_at-with_frame_words n words old f at in grind (arith, has_child-with_frame_words))
        | inr other ↦ (let p = shape-at s q g (sym (frame_at-other-with_frame_words n words old q (λ e. other (sym e))) ∙ at_q) in
            grind (arith, has_child-with_frame_words))
      ])

  -- fewer frames, which are a tree, and jobs of which as many live under each root that stays
  shaped-fewer : (keep : F → Bool) (jobs : List Job) → IsTree (filter keep tenant.frames) → AreLiveRootsThere (filter keep tenant.frames) jobs → length jobs ≤ 256 →
      ((n : ℕ) (f : F) → frame_at tenant.frames n ≡ Some f → keep f ≡ true → live_count n jobs ≡ live_count n tenant.jobs) →
      IsShaped (record tenant { jobs = jobs; frames = filter keep tenant.frames })
  shaped-fewer keep jobs left live few same =
      let fewer = charged-filter keep tenant.frames in
      shaped-by tenant.serials jobs (filter keep tenant.frames) left (λ q f at.
      let o = filter-found keep tenant.frames q f (tree-rising tenant.frames s.tree) at in
      let p = shape-at s q f o.0 in
      let e = same q f o.0 o.1 in grind (arith, no-child-filter)) live few (omega arith) s.opened

  -- the same jobs, where the roots are among the frames that stay
  shaped-kept : (keep : F → Bool) → IsTree (filter keep tenant.frames) →
      ((root : ℕ) (f : F) → frame_at tenant.frames root ≡ Some f → f.path ≡ root ∷ [] → keep f ≡ true) → IsShaped (record tenant { frames = filter keep tenant.frames })
  shaped-kept keep left stays =
      let old = tenant.frames in
      shaped-fewer keep tenant.jobs left (live-kept old (filter keep old) tenant.jobs (λ root is.
      let f = there-found old root (path-there old root is) in
      let path = sym (found-path old root f.0 f.1) ∙ is in
      found-path (filter keep old) root f.0 (frame_at-stays keep old root f.0 (tree-rising old s.tree) f.1 (stays root f.0 f.1 path)) ∙ path) s.live)
      s.few_jobs (λ n f at kept. refl)

  -- an abort
  pub shaped-aborted : (p : ℕ) → IsShaped (record tenant { frames = aborted p tenant.frames })
  shaped-aborted p = shaped-kept (λ x. not (goes_under p x.path)) (tree-aborted p tenant.frames s.tree) (λ root f at path. rw path refl)

-- a leaf that is no root
module _ (p : ℕ) where
  pub shaped-without : (tenant : Tenant) (f : F) (q : ℕ) → frame_at tenant.frames p ≡ Some f → parent_of f.path ≡ Some q →
      children_of tenant.frames p ≡ [] → IsShaped tenant → IsShaped (record tenant { frames = frames_without p tenant.frames })
  shaped-without tenant f q at named leaf s =
      shaped-kept s (λ x. not (eqb x.serial p)) (tree-without p tenant.frames s.tree leaf)
      (λ root x at_x path. grind (arith, found-serial, cases_eq))

  -- a job that ends, with all its frames
  pub shaped-ended : (job : Job) (tenant : Tenant) → IsEnd job → IsShaped tenant → IsShaped (ended p job tenant)
  shaped-ended job tenant end s =
      let cut = aborted p tenant.frames in
      let c = shaped-aborted s p in
      let e = length-with_ended p job tenant.jobs in
      shaped-fewer c (λ x. not (eqb x.serial p)) (with_ended p job tenant.jobs) (tree-without_job p tenant.frames s.tree)
      (live-with_ended cut (frames_without p cut) p job tenant.jobs end (λ r other is.
      let f = there-found cut r (path-there cut r is) in
      found-path (frames_without p cut) r f.0 (frame_at-other-without p cut r (λ e. other (sym e)) ∙ f.1) ∙ sym (found-path cut r f.0 f.1) ∙ is) c.live)
      (omega arith) (λ n f at kept. grind (arith, live_count-with_ended, found-serial, eq-eqb))

-- what a frame of this size needs: words no longer than it, a node, and segments
pub record HasRoomFor (words : List ℕ) (size : ℕ) (tenant : Tenant) : Type 0 where
  pub fits : (1 ≤ size) × (size ≤ 128) × (length words ≤ size)
  pub node : tenant.serials < tenant.reserve.nodes
  pub segments : charged_for tenant.frames + charge size ≤ tenant.reserve.segments

-- a root has no parent
pub root-path : (path : List ℕ) → is_root path ≡ true → parent_of path ≡ None
root-path (x ∷ y ∷ path) is = grind (arith, eqb-true)
root-path path is = refl

-- a frame opened under one that neither computes nor has returned, or under none
module _ {tenant : Tenant} (s : IsShaped tenant) (parent : Option ℕ) (home : ℕ) (words : List ℕ) (size : ℕ) (there : has_parent tenant.frames parent ≡ true)
    (room : HasRoomFor words size tenant) where
  abbrev new : F
  new = new_frame tenant.frames (tenant.serials + 1) parent home (padded words size)

  abbrev more : Tree
  more = tenant.frames ++ new ∷ []

  next : IsNextFrame tenant.frames new
  next = new-frame-next tenant.frames (tenant.serials + 1) parent home (padded words size) s.tree s.given there

  still-live : AreLiveRootsThere more tenant.jobs
  still-live = grind (arith, live-kept, path_in-left, path-there)

  -- the new frame is a child of its parent alone
  new-child : (q : ℕ) → is_child_of q new.path ≡ true → parent ≡ Some q
  new-child q child = grind (arith, parent_of-path_under, eqb-true)

  still-childless : (q : ℕ) → is_child_of q new.path ≡ false → has_child tenant.frames q ≡ false → has_child more q ≡ false
  still-childless q other none = grind (arith, none-has_child, children_of-push, no-child, next)

  shaped-push : (jobs : List Job) → ((p : ℕ) (f : F) → parent ≡ Some p → frame_at tenant.frames p ≡ Some f → mark_of_state f.state ≡ Neither) →
      ((n : ℕ) → n ≢ tenant.serials + 1 → live_count n jobs ≡ live_count n tenant.jobs) → (parent ≡ None → live_count (tenant.serials + 1) jobs ≡ 1) →
      AreLiveRootsThere more jobs → length jobs ≤ 256 → IsShaped (record (opened parent words size home tenant) { jobs = jobs })
  shaped-push jobs free same one live few =
      let long = length-padded words size room.fits.2 in
      shaped-by s (tenant.serials + 1) jobs more (tree-push tenant.frames new s.tree next) parts live few (grind (arith, charged-append, charged-one)) (omega arith)
    where
      old : (q : ℕ) (f : F) → frame_at tenant.frames q ≡ Some f → q ≢ tenant.serials + 1 → ShapeOf (tenant.serials + 1 + 1) jobs more q f
      old q f at other =
          let p = shape-at s q f at in
          let e = same q other in
          let child = cases_Bool (is_child_of q new.path) in grind (arith, free, new-child, still-childless)

      own : ShapeOf (tenant.serials + 1 + 1) jobs more (tenant.serials + 1) new
      own =
          let fits = room.fits in
          let long = length-padded words size fits.2 in
          let named = parent_of-path_under tenant.frames parent (tenant.serials + 1) s.tree there in
          let root = λ (is : is_root new.path ≡ true). one (sym named ∙ root-path new.path is) in grind arith

      parts : (q : ℕ) (f : F) → frame_at more q ≡ Some f → ShapeOf (tenant.serials + 1 + 1) jobs more q f
      parts q f at = elim (cases_eq new.serial q) [
        | inl same_serial ↦ (let e : new ≡ f = found-same more new.serial q new f same_serial (frame_at-push tenant.frames new s.given) at in
            rw (← same_serial, ← e) own)
        | inr other ↦ old q f (sym (frame_at-other-push tenant.frames new q other) ∙ at) (λ e. other (sym e))
      ]

module _ (home : ℕ) (words : List ℕ) (size : ℕ) (tenant : Tenant) where
  -- a child opened under a frame that neither computes nor has returned
  pub shaped-child : (p : ℕ) (f : F) → frame_at tenant.frames p ≡ Some f → mark_of_state f.state ≡ Neither → HasRoomFor words size tenant →
      IsShaped tenant → IsShaped (opened (Some p) words size home tenant)
  shaped-child p f at free room s =
      let there = found-there tenant.frames p f at in
      shaped-push s (Some p) home words size there room tenant.jobs (λ q g e at_q. grind arith) (λ n other. refl) (λ none. absurd cc)
      (still-live s (Some p) home words size there room) s.few_jobs

  -- a root opened, with the job that lives under it
  pub shaped-root : length tenant.jobs < 256 → HasRoomFor words size tenant → IsShaped tenant →
      IsShaped (record (opened None words size home tenant) { jobs = tenant.jobs ++ Live (tenant.serials + 1) ∷ [] })
  shaped-root few room s =
      let old = tenant.frames in
      let root = tenant.serials + 1 in
      let new = new_frame old root None home (padded words size) in
      let lacks = has_frame-above old root s.given in
      let none = no-live old root tenant.jobs lacks s.live in
      let own : path_in (old ++ new ∷ []) root ≡ root ∷ [] = path_in-right old (new ∷ []) root lacks ∙ (rw (eq-eqb root root refl) refl) in
      let more = length-append tenant.jobs (Live root ∷ []) in
      shaped-push s None home words size refl room (tenant.jobs ++ Live root ∷ []) (λ p f is at. absurd cc)
      (λ n other. grind (arith, live_count-append)) (λ is. grind (arith, live_count-append))
      (live-append (old ++ new ∷ []) tenant.jobs (Live root ∷ []) (still-live s None home words size refl room) (own, tt)) (omega arith)
