-- The jobs of one tenant in the core's store: found by number, begun and ended.
use Rattle.sched_store.proofs.Lookups.{◌≡◌, ◌≢◌, ℕ, zero, suc, ◌<◌, ◌≤◌, ◌+◌, ◌-◌, true, false, List, [], ◌∷◌, ◌++◌, length, get_or, drop, Some, None, refl, ◌∙◌, arith, inl, inr, set, cases_Bool, true≢false, ne_eqb, or_parts, or_from, Job, Live, is_live_at, job_at, number_from, with_ended, is_live, is_live_in, AreLiveOnce, drop_all}

abbrev pub Jobs : Type 0
Jobs = List Job

-- a job by its number

pub job_at-zero : (jobs : Jobs) → job_at jobs 0 ≡ None
job_at-zero [] = refl
job_at-zero (job ∷ jobs) = job_at-zero jobs

pub job_at-there : (jobs : Jobs) (at : ℕ) (d : Job) → at < length jobs → job_at jobs (suc at) ≡ Some (get_or jobs at d)
job_at-there [] at d within = absurd (omega arith)
job_at-there (job ∷ jobs) zero d within = refl
job_at-there (job ∷ jobs) (suc at) d within = grind (arith, job_at-there jobs)

-- the number of the job that lives under a root

pub number_from-none : (first root : ℕ) (jobs : Jobs) → is_live_in root jobs ≡ false → number_from first root jobs ≡ 0
number_from-none first root [] none = refl
number_from-none first root (job ∷ jobs) none = grind (arith, or_parts, number_from-none (first + 1) root jobs)

pub none-number_from : (first root : ℕ) (jobs : Jobs) → 0 < first → number_from first root jobs ≡ 0 → is_live_in root jobs ≡ false
none-number_from first root [] some is = refl
none-number_from first root (job ∷ jobs) some is = grind (arith, or_from, none-number_from (first + 1) root jobs)

live-there : (root at : ℕ) (jobs : Jobs) (d : Job) → at < length jobs → is_live_at root (get_or jobs at d) ≡ true → is_live_in root jobs ≡ true
live-there root at [] d within live = absurd (omega arith)
live-there root zero (job ∷ jobs) d within live = rw live refl
live-there root (suc at) (job ∷ jobs) d within live = grind (arith, or_from, live-there root at jobs d)

-- a job that lives under a root is the one that is found, as there is no other
pub number_from-there : (first at root : ℕ) (jobs : Jobs) (d : Job) → AreLiveOnce jobs → at < length jobs → is_live_at root (get_or jobs at d) ≡ true → number_from first root jobs ≡ first + at
number_from-there first at root [] d once within live = absurd (omega arith)
number_from-there first zero root (job ∷ jobs) d once within live = rw live (omega arith)
number_from-there first (suc at) root (job ∷ jobs) d once within live = grind (arith, number_from-there (first + 1) at root jobs d once.1, live-there)

-- none from a place on lives under a root, where none after it does
pub none-from : (root at : ℕ) (jobs : Jobs) (d : Job) → at < length jobs → is_live_at root (get_or jobs at d) ≡ false → is_live_in root (drop (at + 1) jobs) ≡ false → is_live_in root (drop at jobs) ≡ false
none-from root at [] d within other none = absurd (omega arith)
none-from root zero (job ∷ jobs) d within other none = grind arith
none-from root (suc at) (job ∷ jobs) d within other none = grind (arith, none-from root at jobs d)

-- ending a job

pub ended-none : (root : ℕ) (ended : Job) (jobs : Jobs) → is_live_in root jobs ≡ false → with_ended root ended jobs ≡ jobs
ended-none root ended [] none = refl
ended-none root ended (job ∷ jobs) none = grind (arith, or_parts, ended-none root ended jobs)

pub ended-from : (first at root : ℕ) (ended : Job) (jobs : Jobs) → AreLiveOnce jobs → 0 < first → number_from first root jobs ≡ first + at → with_ended root ended jobs ≡ set jobs at ended
ended-from first at root ended [] once some is = absurd (omega arith)
ended-from first zero root ended (job ∷ jobs) once some is =
    elim (cases_Bool (is_live_at root job)) [
      | inl live ↦ grind (arith, ended-none)
      | inr other ↦ absurd (let found : number_from (first + 1) root jobs ≡ first + 0 = rw other at is in
          not-below (first + 1) first root jobs (omega arith) some (found ∙ omega arith))
    ]
  where
    not-below : (from number root : ℕ) (jobs : Jobs) → number < from → 0 < number → number_from from root jobs ≡ number → ⊥
    not-below from number root [] low some is = omega arith
    not-below from number root (job ∷ jobs) low some is =
        elim (cases_Bool (is_live_at root job)) [
          | inl live ↦ grind arith
          | inr other ↦ not-below (from + 1) number root jobs (omega arith) some (rw other at is)
        ]
ended-from first (suc at) root ended (job ∷ jobs) once some is =
    grind (arith, ended-from (first + 1) at root ended jobs once.1)

-- no two jobs live under one root

live-before : (jobs : Jobs) (at root : ℕ) (ended : Job) → is_live ended ≡ false → is_live_in root jobs ≡ false → is_live_in root (set jobs at ended) ≡ false
live-before [] at root ended ends none = none
live-before (job ∷ jobs) zero root ended ends none = grind arith
live-before (job ∷ jobs) (suc at) root ended ends none = grind (arith, or_parts, or_from, live-before jobs at root ended ends)

pub once-ended : (jobs : Jobs) (at : ℕ) (ended : Job) → is_live ended ≡ false → AreLiveOnce jobs → AreLiveOnce (set jobs at ended)
once-ended [] at ended ends once = once
once-ended (job ∷ jobs) zero ended ends once = grind arith
once-ended (job ∷ jobs) (suc at) ended ends once = grind (arith, live-before, once-ended jobs)

live-push : (jobs : Jobs) (root other : ℕ) → root ≢ other → is_live_in other jobs ≡ false → is_live_in other (jobs ++ Live root ∷ []) ≡ false
live-push [] root other differs none = rw (ne_eqb root other differs) refl
live-push (job ∷ jobs) root other differs none = grind (arith, or_parts, or_from, live-push jobs root other differs)

pub once-push : (jobs : Jobs) (root : ℕ) → is_live_in root jobs ≡ false → AreLiveOnce jobs → AreLiveOnce (jobs ++ Live root ∷ [])
once-push [] root none once = (λ other live. refl, tt)
once-push (job ∷ jobs) root none once = grind (arith, live-push, true≢false, once-push jobs root)

-- the job that was read under its number
pub job-read : (jobs : Jobs) (number : ℕ) (job : Job) → number ≢ 0 → number - 1 < length jobs → job ≡ get_or jobs (number - 1) job → Some job ≡ job_at jobs number
job-read jobs number job some within is = grind (arith, job_at-there)

pub job-past : (jobs : Jobs) (number : ℕ) → number ≢ 0 → length jobs ≤ number - 1 → None ≡ job_at jobs number
job-past [] number some past = refl
job-past (job ∷ jobs) number some past = grind (arith, job-past jobs (number - 1))

pub ruleset job_laws = (job_at-zero, job-read, job-past)

pub ruleset under_laws = (number_from-there, none-from, number_from-none, drop_all)

pub ruleset begun_laws = (once-push, none-number_from)
