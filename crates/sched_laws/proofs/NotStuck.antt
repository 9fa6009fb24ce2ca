-- While a job lives a worker can go on with a frame of it, or none of the workers is free and each can go on with its own.
use Rattle.sched_laws.proofs.Common.{◌≡◌, ◌≢◌, if◌then◌else◌, ℕ, suc, ◌+◌, ◌<◌, ◌≤◌, ◌⊎◌, inl, inr, Bool, true, false, not, ◌||◌, ◌&&◌, eqb, ltb, List, [], ◌∷◌, ◌++◌, Option, Some, None, Result, Ok, Err, refl, ap, ◌∙◌, sym, arith, cases_Bool, cases_eq, eq-eqb, eqb-true, eqb-false, ne_eqb, false≢true, or_parts, filter, length, State, Ready, Running, Computing, Returned, FrameId, frame_at, has_frame, path_in, parent_of, root_of, children_of, IsTree, there-found, found-serial, found-there, found-path, tree-rising, above-missing, found-each, children-by-paths, under-below, is_child_of, is_that, Each, AreSerialsRising, StepOf, Admit, AdmitMore, Submit, Take, Steal, Advance, Answer, Inlet, Finish, Spend, Cancel, Leave, Functions, Tree, Tenant, has_child, is_busy_in, job_at, Live, Refusal, Outcome, lone, lone_refusal, refusal_in, IsShaped, AreShaped, CoreState, tenant_in, tenant_of, meets_busy, unless_busy, is_admission}
use Rattle.sched_laws.proofs.Holds.{F, found-own}
use Rattle.sched_laws.proofs.Parts.{path-there}
use Rattle.sched_laws.proofs.Consequences.{live-root, shaped-in}
use Rattle.sched_laws.proofs.GoingOn.{Goes, goes-ready, goes-running, goes-computing, goes-returned}
use Rattle.std.proofs.Common.{zero}
use Rattle.std.specs.Prelude.{option_and_then}
use Rattle.sched_rules.proofs.Isolation.{step_result-step}
use Rattle.sched_rules.specs.Cores.{is_busy_elsewhere, shared_refusal}
use Rattle.sched_rules.specs.Trees.{is_held_by}
use Rattle.sched_rules.specs.Views.{named, job_of}
use Rattle.frame_table.specs.declared.names.State.TheVariants.{Waiting}
use Rattle.frame_table.proofs.TreeLaws.{filter-none, found-ends, under-path}
use Rattle.frame_table.proofs.Forest.{root_of-append}
use Rattle.sched_laws.specs.Onward.{WaitsForChildren, EachWaitsForChildren, AreNumbersApart, IsNewestOfJob, GoesOnWith, HasAnswer, SomebodyCan, CanGoOn, is_busy_anywhere, EachHasAnswer, IsFreeOrHolds, GoesOnInJob, GoesOnWithItsOwn, IsNotStuck}

abbrev pub Entries : Type 0
Entries = List (ℕ × Tenant)

-- the frame of the greatest serial that passes a test
pub record IsNewest (q : F → Bool) (xs : Tree) (f : F) : Type 0 where
  pub there : frame_at xs f.serial ≡ Some f
  pub is : q f ≡ true
  pub greatest : (s : ℕ) (g : F) → frame_at xs s ≡ Some g → q g ≡ true → s ≤ f.serial

abbrev NonePasses : (F → Bool) → Tree → Type 0
NonePasses q xs = (s : ℕ) (g : F) → frame_at xs s ≡ Some g → q g ≡ false

module _ (q : F → Bool) where
  first-newest : (x : F) (xs : Tree) → q x ≡ true → NonePasses q xs → IsNewest q (x ∷ xs) x
  first-newest x xs is none = record {
    there = rw (eq-eqb x.serial x.serial refl) refl;
    is = is;
    greatest = λ s g at passes. grind (arith, eqb-true, none);
  }

  later-newest : (x : F) (xs : Tree) (f : F) → x.serial < f.serial → IsNewest q xs f → IsNewest q (x ∷ xs) f
  later-newest x xs f below newest = record {
    there = grind arith;
    is = newest.is;
    greatest = λ s g at passes. let further = newest.greatest s g in grind (arith, eqb-true);
  }

  none-newest : (x : F) (xs : Tree) → q x ≡ false → NonePasses q xs → NonePasses q (x ∷ xs)
  none-newest x xs fails none s g at = let further = none s g in grind arith

  -- there is one, or none passes
  pub newest : (xs : Tree) → AreSerialsRising xs → ((f : F) × IsNewest q xs f) ⊎ NonePasses q xs
  newest [] rising = inr (λ s g at. absurd cc)
  newest (x ∷ xs) rising = elim (newest xs rising.1) [
    | inl later ↦ inl (later.0, later-newest x xs later.0 (below later.0 later.1.there) later.1)
    | inr none ↦ elim (cases_Bool (q x)) [
      | inl is ↦ inl (x, first-newest x xs is none)
      | inr fails ↦ inr (none-newest x xs fails none)
    ]
  ]
    where
      below : (f : F) → frame_at xs f.serial ≡ Some f → x.serial < f.serial
      below f at = let there = found-there xs f.serial f at in grind (arith, above-missing)

-- a frame with a child: the child is there, under it
is-that : (s : ℕ) (o : Option ℕ) → is_that s o ≡ true → o ≡ Some s
is-that s None is = absurd (false≢true is)
is-that s (Some p) is = ap Some (eqb-true p s is)

module _ (tree : Tree) (s : ℕ) (t : IsTree tree) where
  child-there : has_child tree s ≡ true → (c : F) × (frame_at tree c.serial ≡ Some c) × (parent_of c.path ≡ Some s)
  child-there has = elim (newest (λ (x : F). is_child_of s x.path) tree (tree-rising tree t)) [
    | inl c ↦ (c.0, c.1.there, is-that s (parent_of c.0.path) c.1.is)
    | inr none ↦ absurd (let nobody = filter-none (λ (x : F). is_child_of s x.path) tree (found-each _ tree (tree-rising tree t) (λ r g at. none r g at)) in
        false≢true (let has_none : has_child tree s ≡ false = rw (children-by-paths tree s t, nobody) refl in sym has_none ∙ has))
  ]

-- the newest frame of a job that lives
pub newest-goes : (tenant : Tenant) (number root : ℕ) → IsShaped tenant → WaitsForChildren tenant → job_at tenant.jobs number ≡ Some (Live root) →
    (f : F) × IsNewestOfJob tenant.frames root f × (f.state ≢ Waiting)
newest-goes tenant number root shape waits lives =
    elim (newest (λ (x : F). eqb (root_of x.path) root) tree (tree-rising tree shape.tree)) [
      | inl f ↦ (f.0, is f.0 f.1, goes f.0 f.1)
      | inr none ↦ absurd (false≢true (sym (none root there.0 there.1) ∙ eq-eqb (root_of there.0.path) root (ap root_of path)))
    ]
  where
    tree : Tree
    tree = tenant.frames

    top : path_in tree root ≡ root ∷ []
    top = live-root tenant number root shape lives

    there : (f : F) × (frame_at tree root ≡ Some f)
    there = there-found tree root (path-there tree root top)

    path : there.0.path ≡ root ∷ []
    path = sym (found-path tree root there.0 there.1) ∙ top

    is : (f : F) → IsNewest (λ (x : F). eqb (root_of x.path) root) tree f → IsNewestOfJob tree root f
    is f n = record { there = n.there; own = eqb-true _ _ n.is; greatest = λ s g at own. n.greatest s g at (eq-eqb _ _ own) }

    goes : (f : F) → IsNewest (λ (x : F). eqb (root_of x.path) root) tree f → f.state ≢ Waiting
    goes f n idle =
        let c = child-there tree f.serial shape.tree (waits f.serial f n.there idle) in
        let below = under-below tree c.0.serial f.serial c.0 shape.tree c.1 c.2 in
        let longer = under-path tree c.0.serial f.serial c.0 shape.tree c.1 c.2 ∙ ap (λ (p : List ℕ). p ++ c.0.serial ∷ []) (found-path tree f.serial f n.there) in
        let same = ap root_of longer ∙ root_of-append f.path c.0.serial f.serial (found-ends tree f.serial f shape.tree n.there) in
        let high = n.greatest c.0.serial c.0 c.1 (eq-eqb _ _ (same ∙ eqb-true _ _ n.is)) in
        absurd (omega arith)

-- a worker that is busy with nobody's frame
module _ (worker : ℕ) where
  free-elsewhere : (n : ℕ) (es : Entries) → is_busy_anywhere worker es ≡ false → is_busy_elsewhere worker n es ≡ false
  free-elsewhere n [] free = refl
  free-elsewhere n (e ∷ es) free = grind (arith, free-elsewhere n es)

  free-own : (n : ℕ) (t : Tenant) (es : Entries) → is_busy_anywhere worker es ≡ false → tenant_in es n ≡ Some t → is_busy_in worker t.frames ≡ false
  free-own n t [] free at = absurd cc
  free-own n t (e ∷ es) free at = grind (arith, free-own n t es)

  -- and one that is busy holds a frame
  pub record Holds (es : Entries) : Type 0 where
    pub name : FrameId
    pub tenant : Tenant
    pub frame : F
    pub own : tenant_in es name.tenant ≡ Some tenant
    pub there : frame_at tenant.frames name.serial ≡ Some frame
    pub holds : is_held_by worker frame.state ≡ true

  busy-none : (xs : Tree) → Each (λ f. is_held_by worker f.state ≡ false) xs → is_busy_in worker xs ≡ false
  busy-none [] none = refl
  busy-none (x ∷ xs) none = grind (arith, busy-none xs)

  pub busy-holds : (es : Entries) → AreNumbersApart es → AreShaped es → is_busy_anywhere worker es ≡ true → Holds es
  busy-holds [] apart shaped busy = absurd (false≢true busy)
  busy-holds (e ∷ es) apart shaped busy = elim (newest (λ (x : F). is_held_by worker x.state) e.1.frames (tree-rising e.1.frames shaped.0.tree)) [
    | inl f ↦ record {
      name = record { tenant = e.0; serial = f.0.serial };
      tenant = e.1;
      frame = f.0;
      own = rw (eq-eqb e.0 e.0 refl) refl;
      there = f.1.there;
      holds = f.1.is;
    }
    | inr none ↦ (let free = busy-none e.1.frames (found-each _ e.1.frames (tree-rising e.1.frames shaped.0.tree) none) in
        let later = busy-holds es apart.1 shaped.1 (grind arith) in
        record {
          name = later.name;
          tenant = later.tenant;
          frame = later.frame;
          own = further e es later.name.tenant later.tenant apart.0 later.own;
          there = later.there;
          holds = later.holds;
        })
  ]
    where
      further : (e : ℕ × Tenant) (es : Entries) (n : ℕ) (t : Tenant) → tenant_in es e.0 ≡ None → tenant_in es n ≡ Some t → tenant_in (e ∷ es) n ≡ Some t
      further e es n t none at = elim (cases_eq e.0 n) [
        | inl same ↦ absurd (let lost = ap (tenant_in es) same ∙ at in cc)
        | inr other ↦ rw (ne_eqb e.0 n other) at
      ]

-- one of so many workers is free, or none is
some-free : (es : Entries) (count : ℕ) →
    ((worker : ℕ) × (1 ≤ worker) × (worker ≤ count) × (is_busy_anywhere worker es ≡ false)) ⊎ ((worker : ℕ) → 1 ≤ worker → worker ≤ count → is_busy_anywhere worker es ≡ true)
some-free es zero = inr (λ worker low high. absurd (omega arith))
some-free es (suc count) = elim (some-free es count) [
  | inl free ↦ inl (free.0, free.1, omega arith, free.3)
  | inr busy ↦ elim (cases_Bool (is_busy_anywhere (suc count) es)) [
    | inl more ↦ inr (λ worker low high. elim (cases_eq worker (suc count)) [ inl same ↦ rw same more | inr other ↦ busy worker low (omega (arith, high, other)) ])
    | inr free ↦ inl (suc count, omega arith, omega arith, free)
  ]
]

-- a step that goes on with a frame is of the frame's tenant, and no admission
goes-step : {A : Type 0} (worker : ℕ) (name : FrameId) (step : StepOf A) → GoesOnWith worker name step → (is_admission step ≡ false) × (tenant_of step ≡ name.tenant)
goes-step worker name (Take by frame) goes = (refl, ap (λ (n : FrameId). n.tenant) goes.1)
goes-step worker name (Steal by home frame) goes = (refl, ap (λ (n : FrameId). n.tenant) goes.1)
goes-step worker name (Advance by frame) goes = (refl, ap (λ (n : FrameId). n.tenant) goes.1)
goes-step worker name (Answer by frame answer) goes = (refl, ap (λ (n : FrameId). n.tenant) goes.1)
goes-step worker name (Inlet by frame) goes = (refl, ap (λ (n : FrameId). n.tenant) goes.1)
goes-step worker name (Finish by frame) goes = (refl, ap (λ (n : FrameId). n.tenant) goes.1)
goes-step worker name (Spend frame) goes = (refl, ap (λ (n : FrameId). n.tenant) goes)
goes-step worker name _ goes = absurd goes

not-hindered : {I : Type 0} (alone : Result (Outcome I) Refusal) (busy : Bool) → busy ≡ false → refusal_in alone ≡ None → refusal_in (unless_busy busy alone) ≡ None
not-hindered alone busy free taken = grind arith

-- a frame by its name
pub named-in : (shared : CoreState) (name : FrameId) (frame : F) → named shared name ≡ Some frame →
    (tenant : Tenant) × (tenant_in shared.tenants name.tenant ≡ Some tenant) × (frame_at tenant.frames name.serial ≡ Some frame)
named-in shared name frame at = by (tenant_in shared.tenants name.tenant) refl at
  where
    by : (own : Option Tenant) → tenant_in shared.tenants name.tenant ≡ own → option_and_then (λ (t : Tenant). frame_at t.frames name.serial) own ≡ Some frame →
        (tenant : Tenant) × (tenant_in shared.tenants name.tenant ≡ Some tenant) × (frame_at tenant.frames name.serial ≡ Some frame)
    by None is at = absurd cc
    by (Some t) is at = (t, is, at)

-- a step that goes on among several tenants
module _ {I A : Type 0} (functions : Functions I A) (shared : CoreState) where
  can : (tenant : Tenant) (name : FrameId) (needs : Bool) (worker : ℕ) → tenant_in shared.tenants name.tenant ≡ Some tenant →
      (needs ≡ true → is_busy_anywhere worker shared.tenants ≡ false) → Goes functions tenant name needs worker → CanGoOn functions shared worker name
  can tenant name needs worker own free g =
      let s = goes-step worker name g.0 g.1 in
      let among = not-hindered (lone functions (Some tenant) g.0) (meets_busy g.0 shared.tenants)
      (g.3 shared.tenants (λ need. free-elsewhere worker name.tenant shared.tenants (free need))) g.2 in
      (g.0, g.1, ap refusal_in (step_result-step functions shared g.0 s.0) ∙ rw (ap (tenant_in shared.tenants) s.1 ∙ own) among)

  pub among : (name : FrameId) (frame : F) → AreShaped shared.tenants → named shared name ≡ Some frame →
      SomebodyCan functions frame.value (λ worker. is_busy_anywhere worker shared.tenants) (λ worker. CanGoOn functions shared worker name) frame.state
  among name frame shaped at = by frame.state refl
    where
      t : (tenant : Tenant) × (tenant_in shared.tenants name.tenant ≡ Some tenant) × (frame_at tenant.frames name.serial ≡ Some frame)
      t = named-in shared name frame at

      by : (state : State) → frame.state ≡ state →
          SomebodyCan functions frame.value (λ worker. is_busy_anywhere worker shared.tenants) (λ worker. CanGoOn functions shared worker name) state
      by (Ready home) is = λ worker free.
          can t.0 name true worker t.1 (λ need. free) (goes-ready functions t.0 name frame t.2 home worker is (free-own worker name.tenant t.0 shared.tenants free t.1))
      by (Running worker) is = can t.0 name false worker t.1 (λ need. absurd (false≢true need)) (goes-running functions t.0 name frame t.2 worker is)
      by (Computing worker) is = λ has. can t.0 name false worker t.1 (λ need. absurd (false≢true need)) (goes-computing functions t.0 name frame t.2 worker is has)
      by Waiting is = tt
      by Returned is = λ worker free.
          let tree = (shaped-in name.tenant shared.tenants t.0 shaped t.1).tree in
          can t.0 name true worker t.1 (λ need. free) (goes-returned functions t.0 name frame t.2 worker tree is (free-own worker name.tenant t.0 shared.tenants free t.1))

  -- a worker goes on with a frame that it holds
  held-goes : (worker : ℕ) (name : FrameId) (frame : F) → AreShaped shared.tenants → EachHasAnswer functions shared → named shared name ≡ Some frame →
      is_held_by worker frame.state ≡ true → CanGoOn functions shared worker name
  held-goes worker name frame shaped answers at holds = by frame.state refl (among name frame shaped at) holds
    where
      by : (state : State) → frame.state ≡ state →
          SomebodyCan functions frame.value (λ w. is_busy_anywhere w shared.tenants) (λ w. CanGoOn functions shared w name) state → is_held_by worker state ≡ true →
          CanGoOn functions shared worker name
      by (Running holder) is somebody own = rw (← eqb-true holder worker own) somebody
      by (Computing holder) is somebody own = rw (← eqb-true holder worker own) (somebody (answers name frame holder at is))
      by _ is somebody own = absurd (false≢true own)

  own-goes : (worker : ℕ) → AreShaped shared.tenants → AreNumbersApart shared.tenants → EachHasAnswer functions shared → is_busy_anywhere worker shared.tenants ≡ true →
      GoesOnWithItsOwn functions shared worker
  own-goes worker shaped apart answers busy =
      let h = busy-holds worker shared.tenants apart shaped busy in
      let at : named shared h.name ≡ Some h.frame = rw h.own h.there in
      (h.name, h.frame, at, h.holds, held-goes worker h.name h.frame shaped answers at h.holds)

  pub not-stuck : (number job root : ℕ) → AreShaped shared.tenants → AreNumbersApart shared.tenants → EachWaitsForChildren shared → EachHasAnswer functions shared →
      job_of shared number job ≡ Some (Live root) → IsNotStuck functions shared number root
  not-stuck number job root shaped apart waits answers lives =
      by f.0.state refl (among name f.0 shaped at)
    where
      t : (tenant : Tenant) × (tenant_in shared.tenants number ≡ Some tenant) × (job_at tenant.jobs job ≡ Some (Live root))
      t = tenant-of (tenant_in shared.tenants number) refl lives
        where
          tenant-of : (own : Option Tenant) → tenant_in shared.tenants number ≡ own → option_and_then (λ (t : Tenant). job_at t.jobs job) own ≡ Some (Live root) →
              (tenant : Tenant) × (tenant_in shared.tenants number ≡ Some tenant) × (job_at tenant.jobs job ≡ Some (Live root))
          tenant-of None is at = absurd cc
          tenant-of (Some t) is at = (t, is, at)

      f : (f : F) × IsNewestOfJob t.0.frames root f × (f.state ≢ Waiting)
      f = newest-goes t.0 job root (shaped-in number shared.tenants t.0 shaped t.1) (waits number t.0 t.1) t.2

      name : FrameId
      name = record { tenant = number; serial = f.0.serial }

      at : named shared name ≡ Some f.0
      at = ap (λ (own : Option Tenant). option_and_then (λ (x : Tenant). frame_at x.frames f.0.serial) own) t.1 ∙ f.1.there

      in-job : (worker : ℕ) → IsFreeOrHolds shared worker f.0.state → CanGoOn functions shared worker name → IsNotStuck functions shared number root
      in-job worker who goes = inl (worker, f.0.serial, f.0, at, f.1.own, who, goes)

      by-free : ((worker : ℕ) → is_busy_anywhere worker shared.tenants ≡ false → CanGoOn functions shared worker name) → IsNotStuck functions shared number root
      by-free all = elim (some-free shared.tenants 32) [
        | inl free ↦ in-job free.0 (inl (free.1, free.2, free.3)) (all free.0 free.3)
        | inr busy ↦ inr (λ worker low high. own-goes worker shaped apart answers (busy worker low high))
      ]

      by : (state : State) → f.0.state ≡ state →
          SomebodyCan functions f.0.value (λ w. is_busy_anywhere w shared.tenants) (λ w. CanGoOn functions shared w name) state → IsNotStuck functions shared number root
      by (Ready home) is somebody = by-free somebody
      by (Running worker) is somebody = in-job worker (inr (rw is (eq-eqb worker worker refl))) somebody
      by (Computing worker) is somebody = in-job worker (inr (rw is (eq-eqb worker worker refl))) (somebody (answers name f.0 worker at is))
      by Waiting is somebody = absurd (f.2 is)
      by Returned is somebody = by-free somebody
