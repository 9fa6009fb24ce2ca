-- What is seen of a core whose frames all fit their procedure.
use Rattle.sched_core.proofs.Common.{[], ◌≡◌, ℕ, Bool, true, ◌∷◌, Some, Result, refl, arith, is_ok, ReserveOf, FrameId, frame_at, IsTree, IsUnder, IsTop, tree-induction, Refusal, StepOf, DidOf, Functions, Tree, Tenant, sight, Fitting, Rooting, mark_of_state, AllFit, EveryFrameFits, CoreState, shared_by_nobody, IsOneStep, RootFits, origins_after, F, kids, fits-holds, IsLawful, sight-top, sight-under, FitsSomehow, sight_of, words_under, Seen, IsKeptFitting, IsFitting, IsSeen, IsReturnedUnder}
use Rattle.sched_core.proofs.Parents.{parent-of}
use Rattle.sched_core.proofs.Stepping.{kept-still, fits-still}

-- a frame of a tree in which every frame fits
module _ (fits : Fitting) (tree : Tree) (every : EveryFrameFits fits tree) where
  found-fits : (s : ℕ) (f : F) → frame_at tree s ≡ Some f → FitsSomehow fits f
  found-fits s f at = (kids tree s, mark_of_state f.state, fits-holds fits tree every s f at)

  -- and all that it sees
  sight-fits : (s : ℕ) (f : F) → IsTree tree → frame_at tree s ≡ Some f → AllFit fits (sight tree f.path)
  sight-fits s f t at = tree-induction Sees tree t top under s f at s at
    where
      Sees : F → Type 0
      Sees f = (s : ℕ) → frame_at tree s ≡ Some f → AllFit fits (sight tree f.path)

      top : (f : F) → IsTop f → Sees f
      top f is s at = rw (sight-top tree s f at is) (found-fits s f at, tt)

      under : (f : F) → (u : IsUnder tree f) → Sees u.above → Sees f
      under f u above s at = rw (sight-under tree s f at u) (found-fits s f at, above u.parent u.there)

-- a frame that is there
module _ (fits : Fitting) (rooted : Rooting) {shared : CoreState} {name : FrameId} {tenant : Tenant} {frame : F} {seen : Seen}
    (core : IsFitting fits rooted shared) (is : IsSeen shared name tenant frame seen) where
  tenant-fits : EveryFrameFits fits tenant.frames
  tenant-fits = (core.1.tenants name.tenant tenant is.owner).frames

  pub own-fits : AllFit fits (words_under shared name ∷ [])
  own-fits = grind (arith, found-fits, tenant-fits)

  pub seen-fits : AllFit fits (sight_of shared name)
  seen-fits = grind (arith, sight-fits, tenant-fits)

-- and its parent
module _ (fits : Fitting) (rooted : Rooting) where
  pub parent-fits : {shared : CoreState} {name above : FrameId} {tenant : Tenant} {frame : F} {seen : Seen} → IsFitting fits rooted shared →
      IsReturnedUnder shared name above tenant frame seen → AllFit fits (words_under shared above ∷ words_under shared name ∷ [])
  parent-fits {shared} {name} {above} {tenant} {frame} {seen} core is =
      let p = parent-of is.seen_so is.above in
      (rw (p.is, is.seen_so.owner, p.found) (found-fits fits tenant.frames (tenant-fits fits rooted core is.seen_so) p.serial p.parent p.found), own-fits fits rooted core is.seen_so)

  -- a core with no tenant
  pub nobody-kept : (totals : ReserveOf) → IsKeptFitting fits rooted true (shared_by_nobody totals)
  nobody-kept totals =
      record {
        kept = grind arith;
        fit = λ so. ((λ number. []), record { tenants = λ number tenant is. absurd cc; unused = λ number above. refl });
      }

-- a core keeps what it keeps
module _ {I A : Type 0} (functions : Functions I A) (fits : Fitting) (rooted : Rooting) (before : CoreState) (step : StepOf A)
    (answer : Result (DidOf I) Refusal) (after : CoreState) (was is : Bool) where
  pub kept-fitting : IsLawful functions fits rooted → IsKeptFitting fits rooted was before → IsOneStep functions before step answer after →
      (is ≡ true → was ≡ true) → (is ≡ true → is_ok answer ≡ true → RootFits fits rooted step) → IsKeptFitting fits rooted is after
  kept-fitting lawful core one earlier root = record {
    kept = kept-still answer core.kept one;
    fit = λ so. (let origins = core.fit (earlier so) in
        (origins_after origins.0 step answer, fits-still lawful core.kept one origins.0 origins.1 (root so)));
  }
