-- Tenants of the core's store come, reserve more and go: an account, places, jobs and frames of their own, and nothing
-- of any other tenant.
use Rattle.sched_store.proofs.Lookups.{◌≡◌, ◌≢◌, ℕ, ◌+◌, ◌^◌, ◌<◌, ◌≤◌, inl, inr, false, List, [], ◌∷◌, ◌++◌, length, None, refl, ap, sym, ◌∙◌, arith, Option, zero, suc, replicate, Account, FrameId, IsAboveOwn, with_admitted, length-replicate, with_reserve, Tenant, admitted_with, Nodes, node_at, frame_at, frames_of, places_of, tenant_count, KeepsOtherTenants, JobListOf, owner_of_jobs, jobs_of, Parts, tenant_from, tenants_from, shared_of, cases_eq, ne_eqb, lt-ltb, IsStored, IsAccountFor, AreAtMost, Bool, eqb, subst, filter, cases_Bool, eqb-true, eqb-false, without, total_charge, Frame, values_of, charged_for, with_departed, without_jobs, with_words_of_nodes, inserted, its-account, nobodys, within-reserve, Frames, Trees, Owns, Entries, reservations-found, tenant-found, length-numbers, numbers-inserted, no-job_list, tree_in, numbers-without, CoreState, is_full, reservations_in, tenant_in, reserved_by, is_beyond, without_tenant}
use Rattle.tenant_quota.specs.Reserves.{ReserveOf, IsAbove}
use Rattle.tenant_quota.specs.Accounts.{account_of, fresh, with_new, raised_to, without as without_account, AllEntries, IsRising, charged_segments}
use Rattle.tenant_quota.specs.Reservations.{Reservations, IsSoundBook, HasRoom, Admits, KeepsOtherAccounts, HasRoomFor, Raises, empty_of, Releases}
use Rattle.numbered_list.proofs.Edits.{said-inserted-own, said-inserted-other, said-without-other, all-without}
use Rattle.std.proofs.lemmas.List.Folds.{sum_by-replicate}
use Rattle.sched_store.proofs.Steps.{SameOthers, TenantStep, Stepped, stepped}
use Rattle.sched_store.proofs.FrameSteps.{like-nodes}
use Rattle.sched_store.proofs.Removing.{IsCut, closed, closing, cut-belongs, cut-places, cut-words, cut-trees, TakesChildren, cut-frees, length-without, AreClosable, cut-closes}

-- a number above all is nobody's yet
pub newer-missing : (newest number : ℕ) (entries : Entries) → AreAtMost newest entries → newest < number → account_of number entries ≡ None
newer-missing newest number [] most newer = refl
newer-missing newest number (entry ∷ entries) most newer = grind (arith, newer-missing newest number entries most.1 newer, ne_eqb)

-- what can be admitted
pub record CanBeAdmitted (parts : Parts) (number : ℕ) (quota : ReserveOf) : Type 0 where
  pub newer : parts.newest < number
  pub nobody : account_of number parts.book.accounts ≡ None
  pub no_places : places_of parts.trees number ≡ 0
  pub few_trees : tenant_count parts.trees < 64
  pub few_job_lists : length parts.job_lists < 64
  pub room : HasRoom parts.book quota

pub can-be-admitted : {parts : Parts} (number : ℕ) (quota : ReserveOf) {core : CoreState} → IsStored parts → shared_of parts ≡ core → core.newest < number → is_full (reservations_in core) quota ≡ false → CanBeAdmitted parts number quota
can-be-admitted number quota stored is above not_full = grind (arith, newer-missing, nobodys, reservations-found, length-numbers)

-- what an admission was told by the table and the book
pub record IsAdmitted (parts : Parts) (trees : Trees) (job_list : JobListOf) (book : Reservations) (number : ℕ) (quota : ReserveOf) : Type 0 where
  pub newer : parts.newest < number
  pub within : number ≤ 2 ^ 62
  pub places : places_of trees number ≡ quota.segments
  pub frames : frames_of trees number ≡ []
  pub kept : KeepsOtherTenants parts.trees trees number
  pub count : tenant_count trees ≡ tenant_count parts.trees + 1
  pub job_list_is : job_list ≡ (number, [])
  pub admits : Admits parts.book book number quota
  pub others : KeepsOtherAccounts parts.book book number
  pub sound : IsSoundBook book

-- the parts after it
abbrev pub with_one_more : Parts → Trees → JobListOf → Reservations → ℕ → Parts
with_one_more parts trees job_list book number = record parts { trees = trees; job_lists = inserted owner_of_jobs job_list parts.job_lists; book = book; newest = number }

-- a new account that is above all stands last
new-last : (newest number : ℕ) (account : Account) (entries : Entries) → AreAtMost newest entries → newest < number → with_new number account entries ≡ entries ++ (number, account) ∷ []
new-last newest number account [] most newer = refl
new-last newest number account (entry ∷ entries) most newer = grind (arith, new-last newest number account entries most.1 newer, lt-ltb)

most-pushed : (newest number : ℕ) (entries : Entries) (account : Account) → AreAtMost newest entries → newest < number → AreAtMost number (entries ++ (number, account) ∷ [])
most-pushed newest number [] account most newer = (omega arith, tt)
most-pushed newest number (entry ∷ entries) account most newer = grind (arith, most-pushed newest number entries account most.1 newer)

tenants-pushed : (parts after : Parts) (newest number : ℕ) (account : Account) (entries : Entries) → AreAtMost newest entries → newest < number →
    SameOthers parts after number →
    tenants_from after (entries ++ (number, account) ∷ []) ≡ tenants_from parts entries ++ (number, tenant_from after number account) ∷ []
tenants-pushed parts after newest number account [] most newer others = refl
tenants-pushed parts after newest number account (entry ∷ entries) most newer others =
    rw (others entry.0 entry.1 (λ e. omega (arith, e, most.0, newer)), tenants-pushed parts after newest number account entries most.1 newer others) refl

-- after an admission the new account stands behind all others
module _ {parts : Parts} {trees : Trees} {job_list : JobListOf} {book : Reservations} {number : ℕ} {quota : ReserveOf} (stored : IsStored parts)
    (is : IsAdmitted parts trees job_list book number quota) where
  accounts-after : book.accounts ≡ parts.book.accounts ++ (number, fresh quota) ∷ []
  accounts-after = grind (arith, new-last)

  -- no tenant's frames change
  same-frames : (other : ℕ) → frames_of trees other ≡ frames_of parts.trees other
  same-frames other = elim (cases_eq other number) [
    | inl here ↦ rw here (is.frames ∙ sym (nobodys stored number (newer-missing parts.newest number parts.book.accounts stored.taken is.newer)).1)
    | inr differs ↦ is.kept.frames other differs
  ]

  -- what a store keeps true is true after it
  pub admit-stored : IsStored (with_one_more parts trees job_list book number)
  admit-stored =
      let frames = same-frames in
      let accounts = accounts-after in
      let tenants = stored.tenants in
      let more = is.count in
      let longer = is.admits.tenants in
      record {
        book = is.sound;
        frames_nodes = grind (arith, like-nodes);
        accounts = λ other. grind arith;
        forest = grind arith;
        tenants = omega (arith, tenants, more, longer);
        charges = stored.charges ∙ sym is.admits.charged;
        segments = stored.segments ∙ sym is.others.segments;
        job_lists = grind (arith, numbers-inserted);
        places = λ worker owner serial frame at held. stored.places worker owner serial frame (sym (ap (λ (xs : Frames). frame_at xs serial) (frames owner)) ∙ at) held;
        taken = grind (arith, most-pushed);
        newest = is.within;
      }
    where
      own : IsAccountFor parts.nodes trees number (fresh quota)
      own = grind arith

  -- and the core is the one before with that tenant after all others
  pub admit-shared : shared_of (with_one_more parts trees job_list book number) ≡ with_admitted number quota (shared_of parts)
  admit-shared =
      let after = with_one_more parts trees job_list book number in
      let frames = same-frames in
      let first : job_list.0 ≡ number = ap (λ (l : JobListOf). l.0) is.job_list_is in
      let others : SameOthers parts after number = grind (arith, said-inserted-other) in
      let missing = no-job_list number parts.job_lists parts.book.accounts stored.job_lists (newer-missing parts.newest number parts.book.accounts stored.taken is.newer) in
      let jobs : jobs_of (inserted owner_of_jobs job_list parts.job_lists) number ≡ [] = rw is.job_list_is (said-inserted-own owner_of_jobs (λ (l : JobListOf). l.1) [] (number, []) parts.job_lists missing) in
      let mine : tenant_from after number (fresh quota) ≡ admitted_with quota = rw (jobs, is.frames) refl in
      let tenants = tenants-pushed parts after parts.newest number (fresh quota) parts.book.accounts stored.taken is.newer others ∙ ap (λ (t : Tenant). tenants_from parts parts.book.accounts ++ (number, t) ∷ []) mine in grind (arith, accounts-after)

-- A tenant's reservation is raised: its account and its places, and nothing else.

-- what can be raised
pub record CanBeRaised (parts : Parts) (number : ℕ) (quota : ReserveOf) : Type 0 where
  pub account : Account
  pub there : Owns parts number account
  pub above : IsAbove account.reserve quota
  pub room : HasRoomFor parts.book account.reserve quota
  pub places : places_of parts.trees number ≡ account.reserve.segments
  pub some : 1 ≤ account.reserve.segments

pub can-be-raised : {parts : Parts} (number : ℕ) (quota : ReserveOf) {core : CoreState} → IsStored parts → shared_of parts ≡ core → IsAboveOwn (tenant_in core.tenants number) quota →
    is_beyond (reservations_in core) (reserved_by (tenant_in core.tenants number)) quota ≡ false → CanBeRaised parts number quota
can-be-raised {parts} number quota stored is own_above own_room = grind (arith, tenant-found, reservations-found, within-reserve)

-- what was told by the table and the book
pub record IsRaised (parts : Parts) (trees : Trees) (book : Reservations) (number : ℕ) (quota : ReserveOf) : Type 0 where
  pub can : CanBeRaised parts number quota
  pub places : places_of trees number ≡ quota.segments
  pub frames : frames_of trees number ≡ frames_of parts.trees number
  pub kept : KeepsOtherTenants parts.trees trees number
  pub count : tenant_count trees ≡ tenant_count parts.trees
  pub raises : Raises parts.book book number quota can.account.reserve
  pub sound : IsSoundBook book

-- the parts after it
abbrev pub with_more : Parts → Trees → Reservations → Parts
with_more parts trees book = record parts { trees = trees; book = book }

-- a raise changes no frames, and no account but the tenant's
module _ {parts : Parts} {trees : Trees} {book : Reservations} {number : ℕ} (quota : ReserveOf) (stored : IsStored parts) where
  raised-frames : IsRaised parts trees book number quota → (other : ℕ) → frames_of trees other ≡ frames_of parts.trees other
  raised-frames is other = grind arith

  raise-step : (is : IsRaised parts trees book number quota) → TenantStep parts (with_more parts trees book) number (raised_to quota) is.can.account
  raise-step is =
      let own = its-account stored number is.can.there in
      let frames = raised-frames is in
      record {
        there = is.can.there;
        sound = is.sound;
        book = is.raises.whole;
        trees = is.kept;
        count = is.count;
        tree = rw is.frames (stored.forest number);
        frames_nodes = grind (arith, like-nodes);
        segments = refl;
        charges = stored.charges ∙ sym is.raises.charged;
        own = grind arith;
        words = λ other differs. refl;
        job_lists = refl;
        jobs = λ other differs. refl;
        places = λ worker owner serial frame at held. stored.places worker owner serial frame (sym (ap (λ (xs : Frames). frame_at xs serial) (frames owner)) ∙ at) held;
        newest = refl;
      }

  -- what a store keeps true is true after it, and the core is the one before with more reserved by that tenant
  pub raised : IsRaised parts trees book number quota → Stepped parts (with_more parts trees book) number (with_reserve quota)
  raised is = stepped (with_reserve quota) stored (raise-step is) (rw is.frames refl)

-- A new store: no tenant, no frame, no open node.

none-open : (count node : ℕ) → node_at (replicate count None) node ≡ None
none-open zero node = refl
none-open (suc count) zero = refl
none-open (suc count) (suc node) = none-open count node

-- the parts of a new store
pub record AreNew (nodes : Nodes) (trees : Trees) (job_lists : List JobListOf) (book : Reservations) (segments nodes_in_all : ℕ) : Type 0 where
  pub stack : nodes ≡ replicate segments None
  pub empty : book ≡ empty_of segments nodes_in_all
  pub sound : IsSoundBook book
  pub count : tenant_count trees ≡ 0
  pub frames : (tenant : ℕ) → frames_of trees tenant ≡ []
  pub places : (tenant : ℕ) → places_of trees tenant ≡ 0
  pub jobs : job_lists ≡ []

pub new-stored : (nodes : Nodes) (trees : Trees) (job_lists : List JobListOf) (book : Reservations) (places : List (Option FrameId)) (segments nodes_in_all : ℕ) → AreNew nodes trees job_lists book segments nodes_in_all →
    IsStored (record { nodes = nodes; book = book; trees = trees; job_lists = job_lists; places = places; newest = 0 })
new-stored nodes trees job_lists book places segments nodes_in_all is = grind (arith, sum_by-replicate, length-replicate, none-open)

-- no frame stays
abbrev pub none_stays : Frame ℕ → Bool
none_stays frame = false

filter-none : (xs : Frames) → filter none_stays xs ≡ []
filter-none [] = refl
filter-none (x ∷ xs) = filter-none xs

closed-whole : (xs : Frames) → closed none_stays xs ≡ values_of xs
closed-whole [] = refl
closed-whole (x ∷ xs) = grind (arith, closed-whole xs)

-- a tenant that is there has a place at least
pub has-places : {parts : Parts} → IsStored parts → (number : ℕ) {account : Account} → Owns parts number account → 0 < places_of parts.trees number
has-places {parts} stored number {account} there = grind (arith, within-reserve)

-- the nodes of all frames of a tenant: open, once, with their children
pub leave-closes : {parts : Parts} (number : ℕ) (numbers : List ℕ) → IsStored parts → numbers ≡ values_of (frames_of parts.trees number) → AreClosable parts.nodes numbers
leave-closes {parts} number numbers stored is =
    let same : closing parts.trees number none_stays ≡ numbers = grind (arith, closed-whole) in
    let takes : TakesChildren (frames_of parts.trees number) none_stays = grind arith in cut-closes number none_stays stored.frames_nodes (stored.forest number) numbers takes same

-- what a departure was told by the table, the stack, the lists of jobs and the book
pub record IsDeparture (parts : Parts) (nodes : Nodes) (trees : Trees) (job_lists : List JobListOf) (book : Reservations) (number : ℕ) (numbers : List ℕ) (account : Account) : Type 0 where
  pub there : Owns parts number account
  pub values : numbers ≡ values_of (frames_of parts.trees number)
  pub closed_all : nodes ≡ without parts.nodes numbers
  pub frames : frames_of trees number ≡ []
  pub places : places_of trees number ≡ 0
  pub other_frames : (other : ℕ) → other ≢ number → frames_of trees other ≡ frames_of parts.trees other
  pub other_places : (other : ℕ) → other ≢ number → places_of trees other ≡ places_of parts.trees other
  pub count : tenant_count trees + 1 ≡ tenant_count parts.trees
  pub jobs : job_lists ≡ without_jobs number parts.job_lists
  pub released : Releases parts.book book number account
  pub others : KeepsOtherAccounts parts.book book number
  pub sound : IsSoundBook book

-- the parts after it
abbrev pub departed : Parts → Nodes → Trees → List JobListOf → Reservations → Parts
departed parts nodes trees job_lists book = record parts { nodes = nodes; trees = trees; job_lists = job_lists; book = book }

-- the tenants of accounts above the one that leaves
module _ (parts after : Parts) (number : ℕ) where
  above-stay : (entries : List (ℕ × Account)) → AllEntries (λ later. number < later.0) entries → SameOthers parts after number →
      tenants_from after entries ≡ without_tenant number (tenants_from parts entries)
  above-stay [] above others = refl
  above-stay (entry ∷ entries) above others =
      grind (arith, ne_eqb, others entry.0 entry.1, above-stay entries above.1 others)

  tenants-without : (entries : List (ℕ × Account)) → IsRising entries → SameOthers parts after number →
      tenants_from after (without_account number entries) ≡ without_tenant number (tenants_from parts entries)
  tenants-without [] rising others = refl
  tenants-without (entry ∷ entries) rising others =
      elim (cases_Bool (eqb entry.0 number)) [
        | inl same ↦ (let above : AllEntries (λ later. number < later.0) entries = subst (λ (n : ℕ). AllEntries (λ later. n < later.0) entries) (eqb-true entry.0 number same) rising.0 in rw same (above-stay entries above others))
        | inr other ↦ rw (other, others entry.0 entry.1 (eqb-false entry.0 number other), tenants-without entries rising.1 others) refl
      ]

module _ {parts : Parts} {nodes : Nodes} {trees : Trees} {job_lists : List JobListOf} {book : Reservations} {number : ℕ} {numbers : List ℕ}
    {account : Account} (stored : IsStored parts) (is : IsDeparture parts nodes trees job_lists book number numbers account) where
  -- the cut that takes all frames
  leave-cut : IsCut parts.trees trees number none_stays
  leave-cut = grind (arith, filter-none)

  -- the nodes that stay
  left-nodes : without parts.nodes (closing parts.trees number none_stays) ≡ nodes
  left-nodes = grind (arith, closed-whole)

  -- another tenant's words
  leave-words : (other : ℕ) → other ≢ number → with_words_of_nodes nodes (frames_of trees other) ≡ tree_in parts other
  leave-words other differs =
      let cut = leave-cut in
      ap (λ (n : Nodes). with_words_of_nodes n (frames_of trees other)) (sym left-nodes)
      ∙ cut-words stored.frames_nodes cut other
      ∙ ap (with_words_of_nodes parts.nodes) (is.other_frames other differs)

  leave-charges : total_charge nodes ≡ charged_segments book.accounts
  leave-charges =
      let frees = cut-frees number none_stays stored.frames_nodes (stored.forest number) in
      let none : charged_for (with_words_of_nodes parts.nodes (filter none_stays (frames_of parts.trees number))) ≡ 0 = grind (arith, filter-none) in
      let same = ap total_charge left-nodes in
      let charged = IsAccountFor.charged (its-account stored number is.there) in
      omega (arith, frees, none, same, charged, stored.charges, is.released.charged)

  -- what a store keeps true is true after it
  pub leave-stored : IsStored (departed parts nodes trees job_lists book)
  leave-stored =
      let cut = leave-cut in
      let same = left-nodes in
      let tenants = stored.tenants in
      let fewer = is.count in
      let left = is.released.tenants in
      record {
        book = is.sound;
        frames_nodes = grind (arith, cut-belongs);
        accounts = λ other. grind (arith, leave-words);
        forest = cut-trees cut;
        tenants = omega (arith, tenants, fewer, left);
        charges = leave-charges;
        segments = grind (arith, length-without);
        job_lists = grind (arith, numbers-without);
        places = cut-places stored.frames_nodes cut parts.places stored.places;
        taken = grind (arith, all-without);
        newest = stored.newest;
      }

  -- and the core is the one before without that tenant
  pub leave-shared : shared_of (departed parts nodes trees job_lists book) ≡ with_departed number (shared_of parts)
  leave-shared = grind (arith, said-without-other, leave-words, tenants-without)
