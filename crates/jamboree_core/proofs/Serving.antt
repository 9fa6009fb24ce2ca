-- Cores of searches: what follows from each frame being right and each job holding what it was asked.
use Rattle.jamboree_core.proofs.Common.{◌≡◌, ℕ, true, List, [], ◌∷◌, ◌++◌, Option, Some, None, Result, Ok, Err, refl, arith, is_ok, OnOk, ReserveOf, Refusal, StepOf, DidOf, Tenant, only, CoreState, shared_by_nobody, tenant_in, AreNumbersGiven, IsHeadline, taken_steps, tenant_in-new, CoreFits, RootsFit, submits, origins_of, origins_after, nobody-fits, Leaf, LeafAnswer, AreFitting, IsRoot, jamboree, IsSearch, AreSearches, AreReplies, AreAllSound, AreAllRootWords, TenantSearches, ServesSearches, CoreSearches, HoldsReplies, submitted_to, IsHeadlineInFull, IsHeadlineFromNew, submitted_by, ap, sym, ◌∙◌, ◌-◌, option_and_then, subst, alone_from, AreAnswersTo, after_answers, job_of, Job, Live, Done, Spent as SpentJob, Cancelled as CancelledJob, Tree, job_at, JobsFit, JobFits, HoldsReply, Reply, table_of, Pending, origin_at, IsOfSearch, IsOutcomeOf, IsOutcomeIn, IsTo, AnswersTo}
use Rattle.sched_rules.proofs.Isolation.{headline}
use Rattle.jamboree_core.proofs.Replying.{replies-held, all-sound, search-parts, searches-fit}
use Rattle.jamboree_core.specs.declared.outcomes.Outcome.{Outcome}
use Rattle.jamboree_core.specs.declared.outcomes.Outcome.TheVariants.{Done as DoneWith, Spent, Cancelled}

pub nobody-searches : (totals : ReserveOf) → CoreSearches (λ number. []) (shared_by_nobody totals)
nobody-searches totals = record { fits = nobody-fits AreFitting IsRoot totals; asked = λ number. tt }

pub tenant-replies : (origins : List (List ℕ)) (tenant : Tenant) → TenantSearches origins tenant → AreReplies origins tenant.jobs
tenant-replies origins tenant searches = replies-held tenant.frames origins tenant.jobs searches.fits.jobs

pub tenant-sound : (origins : List (List ℕ)) (tenant : Tenant) → TenantSearches origins tenant → AreAllSound tenant.frames tenant.frames
tenant-sound origins tenant searches = all-sound tenant.frames tenant.frames searches.fits.frames

module _ (origins : ℕ → List (List ℕ)) (shared : CoreState) (number : ℕ) where
  pub core-tenant : (tenant : Tenant) → CoreSearches origins shared → tenant_in shared.tenants number ≡ Some tenant → TenantSearches (origins number) tenant
  core-tenant tenant core at = record { fits = core.fits.tenants number tenant at; asked = core.asked number }

  pub core-serves : CoreSearches origins shared → ServesSearches (tenant_in shared.tenants number)
  core-serves core = by (tenant_in shared.tenants number) refl
    where
      by : (own : Option Tenant) → tenant_in shared.tenants number ≡ own → ServesSearches own
      by None at = tt
      by (Some tenant) at = (origins number, core-tenant tenant core at)

pub core-replies : (origins : ℕ → List (List ℕ)) (shared : CoreState) → CoreSearches origins shared → HoldsReplies origins shared
core-replies origins shared core = record {
  replies = λ number tenant at. tenant-replies (origins number) tenant (core-tenant origins shared number tenant core at);
  sound = λ number tenant at. tenant-sound (origins number) tenant (core-tenant origins shared number tenant core at);
}

-- a core of tenants of searches
pub core-whole : (origins : ℕ → List (List ℕ)) (shared : CoreState) →
    ((number : ℕ) (tenant : Tenant) → tenant_in shared.tenants number ≡ Some tenant → TenantSearches (origins number) tenant) →
    ((number : ℕ) → tenant_in shared.tenants number ≡ None → origins number ≡ []) → AreNumbersGiven shared → CoreSearches origins shared
core-whole origins shared each none known = record {
  fits = record {
    tenants = λ number tenant at. (each number tenant at).fits;
    unused = λ number new. none number (tenant_in-new shared.newest number shared.tenants new known);
  };
  asked = λ number. by number (tenant_in shared.tenants number) refl;
}
  where
    by : (number : ℕ) (own : Option Tenant) → tenant_in shared.tenants number ≡ own → AreAllRootWords (origins number)
    by number None at = rw (none number at) tt
    by number (Some tenant) at = (each number tenant at).asked

-- the words of searches
asked-append : (xs ys : List (List ℕ)) → AreAllRootWords xs → AreAllRootWords ys → AreAllRootWords (xs ++ ys)
asked-append [] ys some more = more
asked-append (x ∷ xs) ys some more = (some.0, asked-append xs ys some.1 more)

pub searches-asked : {A : Type 0} (steps : List (StepOf A)) → AreSearches steps → AreAllRootWords (origins_of steps)
searches-asked [] are = tt
searches-asked (step ∷ steps) are = asked-append (submits step) (origins_of steps) (search-parts step are.0).1 (searches-asked steps are.1)

-- the words under each number after a step and after a list
module _ {A : Type 0} (number : ℕ) where
  pub after-asked : {I : Type 0} (origins : ℕ → List (List ℕ)) (step : StepOf A) (answer : Result (DidOf I) Refusal) →
      ((number : ℕ) → AreAllRootWords (origins number)) → (is_ok answer ≡ true → IsSearch step) → AreAllRootWords (origins_after origins step answer number)
  after-asked origins step (Err refusal) asked search = asked number
  after-asked origins step (Ok did) asked search = grind (arith, asked-append, search-parts)

  -- those of one tenant's steps
  only-searches : (steps : List (StepOf A)) → AreSearches steps → AreSearches (only number steps)
  only-searches [] are = tt
  only-searches (step ∷ steps) are = grind (arith, only-searches steps)

module _ (before after : CoreState) where
  searches-after-run : (origins : ℕ → List (List ℕ)) (steps : List (StepOf LeafAnswer)) → CoreSearches origins before → AreSearches steps →
      CoreFits AreFitting IsRoot (submitted_to origins steps) after → CoreSearches (submitted_to origins steps) after
  searches-after-run origins steps core searches fits = grind (arith, asked-append, searches-asked, only-searches)

  -- the headline in full, from what a run says
  pub headline-in-full : (grain : ℕ) (steps : List (StepOf LeafAnswer)) (answered : List (Result (DidOf Leaf) Refusal)) →
      IsHeadline (jamboree grain) before steps answered after →
      ((origins : ℕ → List (List ℕ)) → CoreFits AreFitting IsRoot origins before → RootsFit AreFitting IsRoot (taken_steps steps answered) → CoreFits AreFitting IsRoot (submitted_to origins (taken_steps steps answered)) after) →
      IsHeadlineInFull grain before steps answered after
  headline-in-full grain steps answered tenants fitting = record {
    tenants = tenants;
    searches = λ origins core search. kept origins core search;
    replies = λ origins core search. core-replies (submitted_to origins (taken_steps steps answered)) after (kept origins core search);
  }
    where
      kept : (origins : ℕ → List (List ℕ)) → CoreSearches origins before → AreSearches (taken_steps steps answered) → CoreSearches (submitted_to origins (taken_steps steps answered)) after
      kept origins core search = searches-after-run origins (taken_steps steps answered) core search (fitting origins core.fits (searches-fit (taken_steps steps answered) search))

pub both-ok : {T E P Q R : Type 0} (r : Result T E) → OnOk r P → OnOk r Q → (P → Q → R) → OnOk r R
both-ok (Ok value) p q make = make p q
both-ok (Err error) p q make = tt

-- of a list of searches, those that were taken are searches
taken-searches : (steps : List (StepOf LeafAnswer)) (answers : List (Result (DidOf Leaf) Refusal)) → AreSearches steps → AreSearches (taken_steps steps answers)
taken-searches (step ∷ steps) (answer ∷ answers) are = grind (arith, taken-searches steps answers)
taken-searches steps answers are = grind arith

-- the headline from a new core, and that its jobs are searches
pub headline-from-new : (grain : ℕ) (totals : ReserveOf) (before : CoreState) (steps : List (StepOf LeafAnswer)) (answered : List (Result (DidOf Leaf) Refusal)) (after : CoreState) → before ≡ shared_by_nobody totals → AreSearches steps →
    IsHeadlineInFull grain before steps answered after → IsHeadlineFromNew grain totals steps answered after × CoreSearches (submitted_by steps answered) after
headline-from-new grain totals before steps answered after new are whole =
    let full = rw new at whole in
    let nobody = nobody-searches totals in
    let search = taken-searches steps answered are in
    let held = full.replies (λ number. []) nobody search in
    (record { tenants = full.tenants; replies = held.replies; sound = held.sound }, full.searches (λ number. []) nobody search)

-- a job of a tenant of searches is one
of-search : (tree : Tree) (origin : List ℕ) (job : Job) → JobFits AreFitting IsRoot tree origin job → IsOfSearch job
of-search tree origin job fits = grind arith

search-at : (tree : Tree) (origins : List (List ℕ)) (jobs : List Job) (number : ℕ) (job : Job) → JobsFit AreFitting IsRoot tree origins jobs → job_at jobs number ≡ Some job → IsOfSearch job
search-at tree origins [] number job fit is = absurd cc
search-at tree [] (first ∷ jobs) number job fit is = absurd fit
search-at tree (origin ∷ origins) (first ∷ jobs) number job fit is = grind (arith, search-at tree origins jobs (number - 1) job, of-search)

pub served-job : (shared : CoreState) (tenant number : ℕ) (job : Job) → ServesSearches (tenant_in shared.tenants tenant) → job_of shared tenant number ≡ Some job → IsOfSearch job
served-job shared tenant number job serves at = by (tenant_in shared.tenants tenant) serves at
  where
    by : (own : Option Tenant) → ServesSearches own → option_and_then (λ (t : Tenant). job_at t.jobs number) own ≡ Some job → IsOfSearch job
    by None serves at = absurd cc
    by (Some owner) serves at = search-at owner.frames serves.0 owner.jobs number job serves.1.fits.jobs at

-- the words that a job was submitted with, and what it holds
reply-at : (origins : List (List ℕ)) (jobs : List Job) (number : ℕ) (job : Job) → AreReplies origins jobs → job_at jobs number ≡ Some job → (origin : List ℕ) × (origin_at origins number ≡ Some origin) × HoldsReply origin job
reply-at origins [] number job are is = absurd cc
reply-at [] (first ∷ jobs) number job are is = absurd are
reply-at (origin ∷ origins) (first ∷ jobs) number job are is = grind (arith, reply-at origins jobs (number - 1) job)

-- no job, and nothing submitted
none-at : (origins : List (List ℕ)) (jobs : List Job) (number : ℕ) → AreReplies origins jobs → job_at jobs number ≡ None → origin_at origins number ≡ None
none-at [] jobs number are is = refl
none-at (origin ∷ origins) [] number are is = absurd are
none-at (origin ∷ origins) (first ∷ jobs) number are is = grind (arith, none-at origins jobs (number - 1))

-- an outcome of a job that holds the reply to what was submitted
is-to : (origin : List ℕ) (job : Job) (outcome : Outcome) → HoldsReply origin job → IsOutcomeOf job outcome → IsTo origin outcome
is-to origin job outcome holds is = grind arith

module _ (shared : CoreState) (tenant number : ℕ) {origins : List (List ℕ)} {owner : Tenant} (searches : TenantSearches origins owner) where
  pub answers-asked : (job : Job) (outcome : Outcome) → tenant_in shared.tenants tenant ≡ Some owner → job_of shared tenant number ≡ Some job →
      IsOutcomeOf job outcome → AnswersTo (origin_at origins number) (Some outcome)
  answers-asked job outcome there at is =
      let found : job_at owner.jobs number ≡ Some job = sym (ap (λ (o : Option Tenant). option_and_then (λ (t : Tenant). job_at t.jobs number) o) there) ∙ at in
      let held = reply-at origins owner.jobs number job (tenant-replies origins owner searches) found in
      rw held.1 (is-to held.0 job outcome held.2 is)

  pub none-asked : tenant_in shared.tenants tenant ≡ Some owner → job_of shared tenant number ≡ None → AnswersTo (origin_at origins number) None
  none-asked there at =
      let found : job_at owner.jobs number ≡ None = sym (ap (λ (o : Option Tenant). option_and_then (λ (t : Tenant). job_at t.jobs number) o) there) ∙ at in
      rw (none-at origins owner.jobs number (tenant-replies origins owner searches) found) tt

-- the reply of a done job is in the words that it kept
reply-in : Reply → Outcome → Reply
reply-in other Pending = other
reply-in other (DoneWith reply) = reply
reply-in other Spent = other
reply-in other Cancelled = other

-- where a job's outcome is a reply, whatever is told of it is a reply with the same table
module _ (first : Reply) where
  same-table : (words : List ℕ) (told : Outcome) → IsOutcomeOf (Done words) (DoneWith first) → IsOutcomeOf (Done words) told →
      (second : Reply) × (Some told ≡ Some (DoneWith second)) × (table_of second ≡ table_of first)
  unfolding reply-in
  same-table words told a b =
      (b.0, ap (λ (o : Outcome). Some o) b.1, b.2.table ∙ sym a.2.table ∙ sym (ap (λ (o : Outcome). table_of (reply-in first o)) a.1))

  done-in : (job : Option Job) (told : Option Outcome) → IsOutcomeIn job (Some (DoneWith first)) → IsOutcomeIn job told → (second : Reply) × (told ≡ Some (DoneWith second)) × (table_of second ≡ table_of first)
  done-in None told a b = absurd cc
  done-in (Some (Live root)) told a b = absurd cc
  done-in (Some (Done words)) None a b = absurd b
  done-in (Some (Done words)) (Some told) a b = same-table words told a b
  done-in (Some SpentJob) told a b = absurd cc
  done-in (Some CancelledJob) told a b = absurd cc

-- in two runs in which a tenant's own taken steps are the same, so are its jobs
module _ (grain : ℕ) (before other_before : CoreState) (steps other_steps : List (StepOf LeafAnswer)) (answers other_answers : List (Result (DidOf Leaf) Refusal)) (number job : ℕ)
    (known : AreNumbersGiven before) (other_known : AreNumbersGiven other_before) (begun : tenant_in before.tenants number ≡ tenant_in other_before.tenants number)
    (right : AreAnswersTo (jamboree grain) before steps answers) (other_right : AreAnswersTo (jamboree grain) other_before other_steps other_answers)
    (own : only number (taken_steps steps answers) ≡ only number (taken_steps other_steps other_answers)) where
  pub same-jobs : job_of (after_answers (jamboree grain) before steps answers) number job ≡ job_of (after_answers (jamboree grain) other_before other_steps other_answers) number job
  same-jobs =
      let one = ((headline (jamboree grain) before steps answers known right).undisturbed number).state in
      let other = ((headline (jamboree grain) other_before other_steps other_answers other_known other_right).undisturbed number).state in
      let same : alone_from (jamboree grain) (tenant_in before.tenants number) (only number (taken_steps steps answers)) ≡ alone_from (jamboree grain) (tenant_in other_before.tenants number) (only number (taken_steps other_steps other_answers)) =
      rw (begun, own) refl in
      ap (λ (o : Option Tenant). option_and_then (λ (t : Tenant). job_at t.jobs job) o) (one ∙ same ∙ sym other)

  pub same-tables : (first : Reply) (told : Option Outcome) → IsOutcomeIn (job_of (after_answers (jamboree grain) before steps answers) number job) (Some (DoneWith first)) →
      IsOutcomeIn (job_of (after_answers (jamboree grain) other_before other_steps other_answers) number job) told → (second : Reply) × (told ≡ Some (DoneWith second)) × (table_of second ≡ table_of first)
  same-tables first told done is = done-in first (job_of (after_answers (jamboree grain) other_before other_steps other_answers) number job) told
      (subst (λ (j : Option Job). IsOutcomeIn j (Some (DoneWith first))) same-jobs done) is
