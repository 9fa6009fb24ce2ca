-- A change of one tenant in the core's store: what the store keeps true, and the core that it stands for.
use Rattle.sched_store.proofs.Lookups.{◌≡◌, ◌≢◌, ℕ, ◌<◌, ◌≤◌, eqb, List, [], ◌∷◌, length, Some, None, option_map, refl, ap, sym, ◌∙◌, arith, inl, inr, true, Option, IsSome, IsSomeAnd, ◌*◌, sum_by, IfSome, is_some, Job, Left, Account, FrameId, sum_by-cons, map_value, Each, CoreState, tenant_in, with_change, on_tenant, words_under, IsReadyIn, left_in_core, ready_count, live_of, tree-rising, found-each, Tenant, Tree, charged_for, frame_words, total_charge, Nodes, node_words, charge, cases_Bool, eqb-true, eqb-false, false≢true, IsTree, Frame, names_of, ready_frames, IsReadyAt, frames_of, tenant_count, KeepsOtherTenants, Reservations, changed, IsSoundBook, ChangesOnly, left_in_book, Parts, with_words_of_nodes, tenant_from, tenants_from, shared_of, jobs_of, numbers_of, JobListOf, owner_of_jobs, is_there, with_jobs, IsStored, IsAccountFor, AreFramesNodes, ArePlaces, frame_in_trees, owner_of_account, account_of, with_changed, charged_segments, AllEntries, IsRising, ticked, left_in, counted, length-map, found-own, find_by_number, change_by_number, within-reserve, Frames, tree_in, with_words, Owns, Entries, none-or-some, numbers-with, job_list-there, left-found, named-found, tenant-found, IsAt}
use Rattle.numbered_list.proofs.Edits.{put-changed, with-same, said-with-own, said-with-other, length-with, all-with}
use Rattle.frame_table.proofs.Finds.{none-of-length}

-- a number, and what is beside it changed
abbrev with_second : {X : Type 0} → (X → X) → ℕ × X → ℕ × X
with_second f pair = (pair.0, f pair.1)

-- the tenants of all numbers but this are the same
abbrev pub SameOthers : Parts → Parts → ℕ → Type 0
SameOthers old new number = (other : ℕ) (a : Account) → other ≢ number → tenant_from new other a ≡ tenant_from old other a

-- accounts after one has changed

account-changed : (n : ℕ) (f : Account → Account) (entries : Entries) → account_of n (with_changed n f entries) ≡ option_map f (account_of n entries)
account-changed n f entries =
    said-with-own owner_of_account (λ e. Some e.1) None (option_map f) n (with_second f) entries (λ e own. own) (λ e. refl) (λ lacks. refl)

-- a change that changes nothing
pub changed-nothing : (book : Reservations) (n : ℕ) → changed book n (λ a. a) ≡ book
changed-nothing book n = λ i. record book { accounts = with-same owner_of_account n book.accounts i }

-- one tenant's account, frames, places, words or jobs change, and no other tenant's
pub record TenantStep (old new : Parts) (number : ℕ) (f : Account → Account) (account : Account) : Type 0 where
  pub there : Owns old number account
  pub sound : IsSoundBook new.book
  pub book : new.book ≡ changed old.book number f
  pub trees : KeepsOtherTenants old.trees new.trees number
  pub count : tenant_count new.trees ≡ tenant_count old.trees
  pub tree : IsTree (frames_of new.trees number)
  pub frames_nodes : AreFramesNodes new.nodes new.trees
  pub segments : length new.nodes ≡ length old.nodes
  pub charges : total_charge new.nodes ≡ charged_segments new.book.accounts
  pub own : IsAccountFor new.nodes new.trees number (f account)
  pub words : (other : ℕ) → other ≢ number → with_words_of_nodes new.nodes (frames_of old.trees other) ≡ tree_in old other
  pub job_lists : numbers_of new.job_lists ≡ numbers_of old.job_lists
  pub jobs : (other : ℕ) → other ≢ number → jobs_of new.job_lists other ≡ jobs_of old.job_lists other
  pub places : ArePlaces new.trees new.places
  pub newest : new.newest ≡ old.newest

-- what a store keeps true is true after such a change
step-stored : {old new : Parts} {number : ℕ} {f : Account → Account} {account : Account} → IsStored old → TenantStep old new number f account → IsStored new
step-stored stored step = grind (arith, length-with, numbers-with, all-with, said-with-other, account-changed)

-- the tenants after such a change
module _ (old new : Parts) (number : ℕ) where
  others-same : (entries : Entries) → SameOthers old new number → AllEntries (λ later. number < later.0) entries → tenants_from new entries ≡ tenants_from old entries
  others-same [] others all = refl
  others-same (entry ∷ entries) others all =
      rw (others entry.0 entry.1 (λ e. omega (arith, all.0, e)), others-same entries others all.1) refl

  tenants-changed : (f : Account → Account) (change : Tenant → Tenant) (account : Account) (entries : Entries) → IsRising entries → SameOthers old new number →
      account_of number entries ≡ Some account → tenant_from new number (f account) ≡ change (tenant_from old number account) →
      tenants_from new (with_changed number f entries) ≡ with_change number change (tenants_from old entries)
  tenants-changed f change account [] rising others there own = refl
  tenants-changed f change account (entry ∷ entries) rising others there own =
      elim (cases_Bool (eqb entry.0 number)) [
        | inl same ↦
            (let e = eqb-true entry.0 number same in
            let is : entry.1 ≡ account = grind arith in
            let first : tenant_from new entry.0 (f entry.1) ≡ change (tenant_from old entry.0 entry.1) = rw (e, is) own in
            rw same (rw (first, others-same entries others (rw (← e) rising.0)) refl))
        | inr other ↦
            rw other (rw (others entry.0 entry.1 (eqb-false entry.0 number other), tenants-changed f change account entries rising.1 others (rw other at there) own) refl)
      ]

-- what such a step comes to
pub record Stepped (old new : Parts) (number : ℕ) (change : Tenant → Tenant) : Type 0 where
  pub stored : IsStored new
  pub shared : shared_of new ≡ on_tenant number change (shared_of old)

pub stepped : {old new : Parts} {number : ℕ} {f : Account → Account} {account : Account} (change : Tenant → Tenant) → IsStored old → TenantStep old new number f account →
    tenant_from new number (f account) ≡ change (tenant_from old number account) → Stepped old new number change
stepped change stored step own = grind (arith, step-stored, tenants-changed)

-- Steps that are counted, and jobs that begin and end: no frame changes.

-- the account of a tenant that is there in a core that the parts show, and its list of jobs
module _ {parts : Parts} (stored : IsStored parts) (number : ℕ) {core : CoreState} (shows : shared_of parts ≡ core) (there : IsSome (tenant_in core.tenants number)) where
  pub there-account : (a : Account) × Owns parts number a
  there-account = grind (arith, tenant-found)

  pub has-job_list : is_there number parts.job_lists ≡ true
  has-job_list = grind (arith, there-account, job_list-there)

module _ {parts : Parts} (stored : IsStored parts) (number : ℕ) (P : Left → Type 0) (is : IsSomeAnd (left_in_core (shared_of parts) number) P) where
  -- what the book says it has left
  pub book-left : IsSomeAnd (left_in_book number parts.book) P
  book-left = grind (arith, left-found)

  pub left-account : (a : Account) × ((Owns parts number a) × P (left_in a))
  left-account = grind (arith, book-left)

-- a step is counted
module _ {old : Parts} {book : Reservations} {number : ℕ} {account : Account} (stored : IsStored old) (there : Owns old number account) (sound : IsSoundBook book) (changes : ChangesOnly old.book book number ticked) (sum : charged_segments book.accounts ≡ charged_segments old.book.accounts) where
  ticked-step : TenantStep old (record old { book = book }) number ticked account
  ticked-step = grind arith

  pub count-step : Stepped old (record old { book = book }) number counted
  count-step = stepped counted stored ticked-step refl

-- jobs begin and end

jobs-with_jobs : (n : ℕ) (change : List Job → List Job) (job_lists : List JobListOf) → is_there n job_lists ≡ true → jobs_of (with_jobs n change job_lists) n ≡ change (jobs_of job_lists n)
jobs-with_jobs n change job_lists there =
    said-with-own owner_of_jobs (λ (l : JobListOf). l.1) [] change n (with_second change) job_lists (λ l own. own) (λ l. refl) (λ lacks. absurd (false≢true (sym lacks ∙ there)))

-- the tenant with its jobs changed so
abbrev pub jobs_changed : (List Job → List Job) → Tenant → Tenant
jobs_changed change tenant = record tenant { jobs = change tenant.jobs }

-- the tenant's list of jobs is this now, which is that of the tenant with its jobs changed so
abbrev pub JobsPut : Parts → ℕ → JobListOf → (List Job → List Job) → Type 0
JobsPut old number changed change = Stepped old (record old { job_lists = change_by_number owner_of_jobs number (λ was. changed) old.job_lists }) number (jobs_changed change)

-- a tenant's jobs change, and nothing else
module _ {old : Parts} (number : ℕ) {account : Account} (change : List Job → List Job) (stored : IsStored old) (there : Owns old number account) where
  jobs-step : TenantStep old (record old { job_lists = with_jobs number change old.job_lists }) number (λ a. a) account
  jobs-step = grind (arith, changed-nothing, numbers-with, said-with-other)

  -- where the list of jobs that was found was put back with its jobs changed
  pub jobs-put : {job_list changed : JobListOf} → find_by_number owner_of_jobs number old.job_lists ≡ Some job_list → changed ≡ (job_list.0, change job_list.1) → JobsPut old number changed change
  jobs-put {job_list} {changed} found is =
      let jobs = jobs-with_jobs number change old.job_lists (job_list-there number old.job_lists old.book.accounts account stored.job_lists there) in
      rw (put-changed owner_of_jobs number (with_second change) old.job_lists job_list changed found is) (stepped (jobs_changed change) stored jobs-step (rw jobs refl))

-- What is counted over a tenant's frames and over all tenants: words, and frames that are ready.

pub ready-found : {parts : Parts} → IsStored parts → (result : Option (FrameId × ℕ)) → IfSome result (λ ready. IsReadyAt (frame_in_trees parts.trees ready.0.tenant ready.0.serial) ready.1) → IfSome result (λ ready. IsReadyIn (shared_of parts) ready.0 ready.1)
ready-found stored None is = tt
ready-found stored (Some ready) is = grind (arith, named-found)

count-with_words_of_nodes : (nodes : Nodes) (frames : Frames) → length (ready_frames (with_words_of_nodes nodes frames)) ≡ length (ready_frames frames)
count-with_words_of_nodes nodes [] = refl
count-with_words_of_nodes nodes (x ∷ xs) = grind (arith, count-with_words_of_nodes nodes xs)

-- where no tenant has a ready frame none is counted
pub none-counted : (parts : Parts) (entries : Entries) → ((tenant : ℕ) → ready_frames (frames_of parts.trees tenant) ≡ []) → ready_count (tenants_from parts entries) ≡ 0
none-counted parts [] none = refl
none-counted parts (entry ∷ entries) none = grind (arith, count-with_words_of_nodes, none-counted parts entries none)

counted-none : (parts : Parts) (entries : Entries) → ready_count (tenants_from parts entries) ≡ 0 → (tenant : ℕ) (account : Account) → account_of tenant entries ≡ Some account → length (ready_frames (frames_of parts.trees tenant)) ≡ 0
counted-none parts [] none tenant account there = absurd cc
counted-none parts (entry ∷ entries) none tenant account there = grind (arith, counted-none parts entries, count-with_words_of_nodes, eqb-true)

-- where none is counted no tenant has one
pub nobody-ready : {parts : Parts} → IsStored parts → ready_count (tenants_from parts parts.book.accounts) ≡ 0 → (tenant : ℕ) → ready_frames (frames_of parts.trees tenant) ≡ []
nobody-ready {parts} stored none tenant = elim (none-or-some (account_of tenant parts.book.accounts)) [
  | inl missing ↦ grind arith
  | inr own ↦ none-of-length (ready_frames (frames_of parts.trees tenant)) (counted-none parts parts.book.accounts none tenant own.0 own.1)
]

-- the words of all frames are at most 16 for each segment that is charged
words-charged : (tree : Tree) → sum_by (λ frame. length frame.value) tree ≤ 16 * charged_for tree
words-charged [] = omega arith
words-charged (frame ∷ tree) =
    let words = sum_by-cons (λ (f : Frame (List ℕ)). length f.value) frame tree in
    omega (arith, words, sum_by-cons (λ (f : Frame (List ℕ)). charge (length f.value)) frame tree, words-charged tree)

-- how many words a frame of this name has
abbrev pub words_counted : Parts → FrameId → ℕ
words_counted parts name = length (words_under (shared_of parts) name)

-- the words counted name by name are those of the tree
named-words : (parts : Parts) (tenant : ℕ) (xs : Frames) → Each (λ f. words_under (shared_of parts) (record { tenant = tenant; serial = f.serial }) ≡ node_words parts.nodes f.value) xs →
    sum_by (words_counted parts) (names_of tenant xs) ≡ sum_by (λ frame. length frame.value) (with_words_of_nodes parts.nodes xs)
named-words parts tenant [] each = refl
named-words parts tenant (x ∷ xs) each =
    let names = sum_by-cons (words_counted parts) (record { tenant = tenant; serial = x.serial }) (names_of tenant xs) in
    let words = sum_by-cons (λ (f : Frame (List ℕ)). length f.value) (map_value (node_words parts.nodes) x) (with_words_of_nodes parts.nodes xs) in
    let first = ap length each.0 in
    omega (arith, names, words, first, named-words parts tenant xs each.1)

-- how many words a tenant has alive, by the names of its frames
module _ {parts : Parts} (stored : IsStored parts) (tenant : ℕ) where
  words-at : (serial : ℕ) (frame : Frame ℕ) → IsAt parts.trees tenant serial frame → words_under (shared_of parts) (record { tenant = tenant; serial = frame.serial }) ≡ node_words parts.nodes frame.value
  words-at serial frame at =
      ap frame_words (named-found stored (record { tenant = tenant; serial = frame.serial }) ∙ ap (with_words parts) (found-own (frames_of parts.trees tenant) serial frame at))

  -- they are few
  pub words-few : sum_by (words_counted parts) (names_of tenant (frames_of parts.trees tenant)) ≤ 65536
  words-few = elim (none-or-some (account_of tenant parts.book.accounts)) [
    | inl missing ↦ grind arith
    | inr own ↦ grind (arith, within-reserve, words-charged, named-words, found-each, tree-rising, words-at)
  ]

  -- what a tenant that is there has alive
  pub live-found : (count words : ℕ) → is_some (tenant_in (shared_of parts).tenants tenant) ≡ true → count ≡ length (frames_of parts.trees tenant) → words ≡ sum_by (words_counted parts) (names_of tenant (frames_of parts.trees tenant)) → Some (count, words) ≡ live_of (shared_of parts) tenant
  live-found count words some counted summed = grind (arith, tenant-found, length-map, named-words, found-each, tree-rising, words-at)
