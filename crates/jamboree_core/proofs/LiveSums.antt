-- The sizes of a tenant's roots together are at most the segments that suffice for those of its jobs that live.
use Rattle.jamboree_core.proofs.Common.{◌≡◌, ℕ, inl, inr, false, List, [], ◌∷◌, Option, Some, None, refl, sym, ◌+◌, ◌≤◌, ◌==◌, if◌then◌else◌, arith, or_parts, eq-eqb, cases_eq, ne_eqb, sum_by, sum_by-cons, Each, AreSerialsRising, tree-rising, found-each, found-own, has_frame, frame_at, subst, above-missing, placed, words-found, F, Tree, Lists, Tenant, IsShaped, TenantFits, JobsFit, JobFits, Job, Live, Done, Spent as SpentJob, Cancelled as CancelledJob, Cell, board, frame_of, AreFitting, IsRoot, weight_among, weight_in, Size, enough_segments, root_weight, board_segments, asked_segments, segments_of_live, sum_of_live}
use Rattle.sched_laws.specs.Shapes.{live_count}
use Rattle.sched_laws.proofs.Parts.{shape-at}

-- a sum of nothing
none-sum : (g : F → ℕ) (xs : Tree) → Each (λ x. g x ≡ 0) xs → sum_by g xs ≡ 0
none-sum g [] none = refl
none-sum g (x ∷ xs) none = grind (arith, none-sum g xs, sum_by-cons)

-- a sum without the frame of a serial
abbrev but : ℕ → (F → ℕ) → F → ℕ
but r g x = if x.serial == r then 0 else g x

-- what follows from a fact of each
all-in : (In P : F → Type 0) → ((x : F) → In x → P x) → (xs : Tree) → Each In xs → Each P xs
all-in In P make [] have = tt
all-in In P make (x ∷ xs) have = (make x have.0, all-in In P make xs have.1)

module _ (g : F → ℕ) (r : ℕ) where
  but-less : (x : F) → but r g x ≤ g x
  but-less x = grind arith

  but-itself : (x : F) → x.serial ≡ r → but r g x ≡ 0
  but-itself x same = rw (eq-eqb x.serial r same) refl

  but-other : (x : F) → (x.serial == r) ≡ false → but r g x ≡ g x
  but-other x other = rw other refl

  sum-missing : (xs : Tree) → has_frame xs r ≡ false → sum_by g xs ≡ sum_by (but r g) xs
  sum-missing [] lacks = refl
  sum-missing (x ∷ xs) lacks = let both = or_parts _ _ lacks in let rest = sum-missing xs both.1 in let own = but-other x both.0 in simp sum_by-cons (omega (arith, own, rest))

  sum-but : (v : ℕ) (xs : Tree) → AreSerialsRising xs → Each (λ x. x.serial ≡ r → g x ≤ v) xs → sum_by g xs ≤ sum_by (but r g) xs + v
  sum-but v [] rising most = omega arith
  sum-but v (x ∷ xs) rising most = elim (cases_eq x.serial r) [
    | inl same ↦ (let rest = sum-missing xs (above-missing xs x.serial r (omega (arith, same)) rising.0) in
        let less = most.0 same in
        let own = but-itself x same in
        simp sum_by-cons (omega (arith, less, own, rest)))
    | inr other ↦ (let rest = sum-but v xs rising.1 most.1 in let own = but-other x (ne_eqb x.serial r other) in simp sum_by-cons (omega (arith, own, rest)))
  ]

-- What frames weigh together, the root of a live job at most what the job's words give, is at most the sum over the jobs that live.
module _ (amount : List ℕ → ℕ) (In : F → Type 0) where
  -- no frame under which no job lives weighs anything
  abbrev IsLight : (F → ℕ) → List Job → Type 0
  IsLight g jobs = (x : F) → In x → live_count x.serial jobs ≡ 0 → g x ≡ 0

  -- the root of a live job weighs at most what the job's words give
  abbrev IsWithin : (F → ℕ) → List ℕ → Job → Type 0
  IsWithin g origin (Live r) = (x : F) → In x → x.serial ≡ r → g x ≤ amount origin
  IsWithin g origin (Done words) = Unit {0}
  IsWithin g origin SpentJob = Unit {0}
  IsWithin g origin CancelledJob = Unit {0}

  abbrev AreWithin : (F → ℕ) → Lists → List Job → Type 0
  AreWithin g [] [] = Unit {0}
  AreWithin g [] (job ∷ jobs) = ⊥
  AreWithin g (origin ∷ origins) [] = ⊥
  AreWithin g (origin ∷ origins) (job ∷ jobs) = IsWithin g origin job × AreWithin g origins jobs

  but-within : (g : F → ℕ) (r : ℕ) (origin : List ℕ) (job : Job) → IsWithin g origin job → IsWithin (but r g) origin job
  but-within g r origin (Live s) within = λ x there same. (let less = within x there same in let cut = but-less g r x in omega (arith, less, cut))
  but-within g r origin (Done words) within = tt
  but-within g r origin SpentJob within = tt
  but-within g r origin CancelledJob within = tt

  within-but : (g : F → ℕ) (r : ℕ) (origins : Lists) (jobs : List Job) → AreWithin g origins jobs → AreWithin (but r g) origins jobs
  within-but g r [] [] within = tt
  within-but g r [] (job ∷ jobs) within = absurd within
  within-but g r (origin ∷ origins) [] within = absurd within
  within-but g r (origin ∷ origins) (job ∷ jobs) within = (but-within g r origin job within.0, within-but g r origins jobs within.1)

  light-but : (g : F → ℕ) (r : ℕ) (jobs : List Job) → IsLight g (Live r ∷ jobs) → IsLight (but r g) jobs
  light-but g r jobs light x there none = elim (cases_eq x.serial r) [
    | inl same ↦ rw (eq-eqb x.serial r same) refl
    | inr other ↦ rw (ne_eqb x.serial r other) (light x there (rw (ne_eqb r x.serial (λ e. other (sym e))) none))
  ]

  module _ (xs : Tree) (rising : AreSerialsRising xs) (each : Each In xs) where
    live-sums : (g : F → ℕ) (origins : Lists) (jobs : List Job) → IsLight g jobs → AreWithin g origins jobs → sum_by g xs ≤ sum_of_live amount origins jobs
    live-sums g [] [] light within = let none = none-sum g xs (all-in In (λ x. g x ≡ 0) (λ x there. light x there refl) xs each) in omega (arith, none)
    live-sums g [] (job ∷ jobs) light within = absurd within
    live-sums g (origin ∷ origins) [] light within = absurd within
    live-sums g (origin ∷ origins) (Live r ∷ jobs) light within =
        let one = sum-but g r (amount origin) xs rising (all-in In (λ x. x.serial ≡ r → g x ≤ amount origin) within.0 xs each) in
        let rest = live-sums (but r g) origins jobs (light-but g r jobs light) (within-but g r origins jobs within.1) in omega (arith, one, rest)
    live-sums g (origin ∷ origins) (Done words ∷ jobs) light within = live-sums g origins jobs light within.1
    live-sums g (origin ∷ origins) (SpentJob ∷ jobs) light within = live-sums g origins jobs light within.1
    live-sums g (origin ∷ origins) (CancelledJob ∷ jobs) light within = live-sums g origins jobs light within.1

-- Of a tenant of searches.
module _ (grain : ℕ) (size : Size) (segments : (depth : ℕ) (b : List Cell) → enough_segments size depth b ≤ board_segments depth grain b) where
  -- the size of a root that belongs to the words of its job
  root-within : (origin words : List ℕ) (above : Option (List ℕ)) → IsRoot origin words → root_weight size words above ≤ asked_segments grain origin
  root-within origin words None root =
      let most = segments (frame_of words).depth (board (frame_of words)) in
      let same : board_segments (frame_of words).depth grain (board (frame_of words)) ≡ asked_segments grain origin = rw (root.own_is, root.opp_is, root.depth_is) refl in
      omega (arith, most, same)
  root-within origin words (Some parent) root = omega arith

  module _ {origins : Lists} {tenant : Tenant} (shape : IsShaped tenant) (fitting : TenantFits AreFitting IsRoot origins tenant) where
    abbrev own : F → ℕ
    own x = weight_among (root_weight size) tenant.frames x

    abbrev There : F → Type 0
    There x = frame_at tenant.frames x.serial ≡ Some x

    light : IsLight (asked_segments grain) There own tenant.jobs
    light x at none = elim (placed tenant.frames x.serial x shape.tree at) [
      | inl top ↦ (let one = (shape-at shape x.serial x at).root (rw top.1 refl) in absurd (omega (arith, one, none)))
      | inr under ↦ rw under.named refl
    ]

    job-within : (origin : List ℕ) (job : Job) → JobFits AreFitting IsRoot tenant.frames origin job → IsWithin (asked_segments grain) There own origin job
    job-within origin (Live r) fit = λ x at same. root-within origin x.value _ (subst (IsRoot origin) (rw (← same) (words-found tenant.frames x.serial x at)) fit)
    job-within origin (Done words) fit = tt
    job-within origin SpentJob fit = tt
    job-within origin CancelledJob fit = tt

    jobs-within : (origins : Lists) (jobs : List Job) → JobsFit AreFitting IsRoot tenant.frames origins jobs → AreWithin (asked_segments grain) There own origins jobs
    jobs-within [] [] fit = tt
    jobs-within [] (job ∷ jobs) fit = absurd fit
    jobs-within (origin ∷ origins) [] fit = absurd fit
    jobs-within (origin ∷ origins) (job ∷ jobs) fit = (job-within origin job fit.0, jobs-within origins jobs fit.1)

    pub roots-within : weight_in (root_weight size) tenant.frames ≤ segments_of_live grain origins tenant.jobs
    roots-within =
        let rising = tree-rising tenant.frames shape.tree in
        let each = found-each There tenant.frames rising (λ s x at. found-own tenant.frames s x at) in
        live-sums (asked_segments grain) There tenant.frames rising each own origins tenant.jobs light (jobs-within origins tenant.jobs fitting.jobs)
