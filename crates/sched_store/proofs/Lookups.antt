-- What is found in the core that a store stands for: tenants, jobs, frames and what they see; and the names that the
-- proofs of the store use, imported in one place.
pub use Rattle.cactus_stack.proofs.LawFacts.{one-sight, charge-without, gone, kept, length-padded, lt-of-some, still-none}
pub use Rattle.cactus_stack.specs.Nodes.{node_words, total_charge, Nodes, IsOpen, IsSight, HasAllChildren, HasNoChild, IsUnused, Node, charge, charge_of, free_segments, growth_charge, node_at, node_parent, padded, with_node, with_node_words, without, words_of_node}
pub use Rattle.frame_table.proofs.TreeChanges.{tree-aborted, tree-without}
pub use Rattle.frame_table.proofs.TreeLaws.{found-there, tree-induction, found-serial, found-each, tree-rising, IsPlaced, placed, found-path, found-own, there-found}
pub use Rattle.frame_table.proofs.TreeValues.{frame_at-map_values, tree-map_values, children_of-map_values, aborted-map_values, frames_under-map_values, frames_without-map_values}
pub use Rattle.frame_table.specs.Frames.{frame_at, Frame, has_frame, parent_of, name_of, entry_of_frame, newest_ready_of, IsTree, TenantTree, path_in, children_of, AllBelow, HasValue, IsReadyAt, aborted, frames_under, frames_without, goes_under, has_parent, names_of, new_frame, ready_frames, values_of, with_state}
pub use Rattle.frame_table.specs.Tables.{frames_of, places_of, KeepsOtherFrames, KeepsOtherTenants, tenant_count}
pub use Rattle.frame_table.specs.TreeLaws.{map_value, Each, AllAboveSerial, AreSerialsRising, is_child_of, map_values}
use Rattle.frame_table.specs.declared.names.Entry.{Entry}
pub use Rattle.frame_table.specs.declared.names.FrameId.{FrameId}
pub use Rattle.numbered_list.proofs.Edits.{said-lacks, has-above, has-found, lacks-said, found-none, found-said, said-found}
pub use Rattle.numbered_list.specs.Places.{has_by_number, change_by_number, remove_by_number, inserted, AreRising, AreAbove, find_by_number}
pub use Rattle.sched_rules.specs.Changes.{on_tenant, with_change, with_reserve, without_frame, without_under}
pub use Rattle.sched_rules.specs.Cores.{tenant_in, accounts_in, charged_in, reservations_in, CoreState, is_beyond, is_full, reserved_by, without_tenant}
use Rattle.sched_rules.specs.Headline.{AreNumbersTaken, AreNumbersGiven}
pub use Rattle.sched_rules.specs.Lone.{counted, holding, in_state, is_frame_size, opened}
pub use Rattle.sched_rules.specs.Trees.{Tenant, Tree, charged_for, account_in, job_at, sight, words_in, is_root, has_child, admitted_with, frame_words, is_live_at, is_outside, number_from, stored, with_ended}
pub use Rattle.sched_rules.specs.Views.{left_in_core, job_of, named, free_in, frame_in_core, newest_ready_in, live_of, ready_count}
pub use Rattle.sched_rules.specs.declared.job.Job.{Job}
pub use Rattle.sched_rules.specs.declared.job.Job.TheVariants.{Live}
pub use Rattle.sched_store.specs.Changes.{with_admitted, with_departed}
pub use Rattle.sched_store.specs.Inside.{parts_of}
pub use Rattle.sched_store.specs.JobLists.{JobListOf, owner_of_jobs, numbers_by, numbers_of, is_there, jobs_of, AreLiveOnce, is_live, is_live_in, with_jobs, without_jobs}
pub use Rattle.sched_store.specs.Parts.{Parts, with_words_of_nodes, tenant_from, tenants_from, shared_of}
pub use Rattle.sched_store.specs.Reads.{tree_of, frames_in_core, jobs_in, AreAfter, AreTenantsRising, sight_of, path_of, IsAboveOwn, IsReadyIn, TenantHasLeft, words_under, serials_in}
pub use Rattle.sched_store.specs.Stored.{numbers_in, IsStored, frame_in_trees, AreAtMost, node_above, IsAccountFor, AreFramesNodes, ArePlaces, HasFrame, IsFrameNode, node_of}
pub use Rattle.std.proofs.Common.{◌≡◌, ℕ, ◌<◌, List, [], ◌∷◌, Some, None, ◌⊎◌, refl, subst, arith, inl, inr, suc, true, false, length, ap, sym, ◌≤◌, ◌+◌, Option, IfSome, is_some, option_map, option_and_then, IsSome, ◌∙◌, IsTrue, not, Bool, All, AllPairs, Contains, IsSomeAnd, add-one, drop, drop-cons, eqb, get_or, get_or-set_other, get_or-set_same, replicate, sum_by, zero, ◌*◌, ◌++◌, ◌-◌, ◌^◌, ◌≢◌}
pub use Rattle.std.proofs.Math.ListN.{set}
pub use Rattle.std.proofs.lemmas.Bool.{eq-eqb, eqb-true, cases_Bool, cases_eq, eqb-false, false≢true, lt-ltb, ne_eqb, or_from, or_parts, true≢false}
pub use Rattle.std.proofs.lemmas.List.{reverse-append, map-append, length-map, length-append, drop_all, length-replicate, length-set, nil_from_length, set-set}
pub use Rattle.std.proofs.lemmas.List.Sums.{sum_by-cons, sum_by-set}
pub use Rattle.std.specs.List.{filter}
use Rattle.std.specs.Option.{is_none}
pub use Rattle.tenant_quota.proofs.Edits.{AllEntries-of, AllEntries-map, sum_by-le-with}
use Rattle.tenant_quota.proofs.Places.{entry-of}
pub use Rattle.tenant_quota.specs.Accounts.{account_of, AllEntries, IsRising, charged_segments, IsWithinReserve, charged_by, credited_by, left_in, owner_of_account, reserved_segments, ticked, with_changed}
pub use Rattle.tenant_quota.specs.Reservations.{left_in_book, Reservations, ChangesOnly, HasChargedAtLeast, IsSoundBook, changed}
pub use Rattle.tenant_quota.specs.declared.account.Account.{Account}
pub use Rattle.tenant_quota.specs.declared.account.Left.{Left}

abbrev pub Entries : Type 0
Entries = List (ℕ × Account)

-- frames, and trees of frames by tenant
abbrev pub Frames : Type 0
Frames = List (Frame ℕ)

abbrev pub Trees : Type 0
Trees = List (TenantTree ℕ)

-- the frames of the tenant of this name
abbrev pub family : Parts → FrameId → Frames
family parts name = frames_of parts.trees name.tenant

-- the frame of this name in the table, and what the table tells of it
abbrev pub framed : Parts → FrameId → Option (Frame ℕ)
framed parts name = frame_in_trees parts.trees name.tenant name.serial

abbrev pub entry_in : Parts → FrameId → Option (Entry ℕ)
entry_in parts name = entry_of_frame name.tenant (framed parts name)

-- the frames of a tenant, and one frame, with words
abbrev pub tree_in : Parts → ℕ → Tree
tree_in parts number = with_words_of_nodes parts.nodes (frames_of parts.trees number)

abbrev pub with_words : Parts → Option (Frame ℕ) → Option (Frame (List ℕ))
with_words parts o = option_map (map_value (node_words parts.nodes)) o

-- the frame of this serial in a tenant's tree
abbrev pub IsAt : Trees → ℕ → ℕ → Frame ℕ → Type 0
IsAt trees number serial frame = frame_in_trees trees number serial ≡ Some frame

-- the core has a frame of this name
abbrev pub IsNamed : Parts → FrameId → Type 0
IsNamed parts name = IsSome (named (shared_of parts) name)

-- the account of a tenant
abbrev pub Owns : Parts → ℕ → Account → Type 0
Owns parts number account = account_of number parts.book.accounts ≡ Some account

module _ {parts : Parts} (stored : IsStored parts) (number : ℕ) where
  pub its-account : {account : Account} → Owns parts number account → IsAccountFor parts.nodes parts.trees number account
  its-account there = rw there at (stored.accounts number)

  pub nobodys : account_of number parts.book.accounts ≡ None → (places_of parts.trees number ≡ 0) × (frames_of parts.trees number ≡ [])
  nobodys none = rw none at (stored.accounts number)

pub none-or-some : {A : Type 0} (o : Option A) → (o ≡ None) ⊎ ((a : A) × (o ≡ Some a))
none-or-some None = inl refl
none-or-some (Some a) = inr (a, refl)

-- what is true of each account, along the list of accounts
lower-missing : (number : ℕ) (entries : Entries) → AllEntries (λ later. number < later.0) entries → account_of number entries ≡ None
lower-missing number entries all = grind (arith, said-lacks, has-above)

account-tail : (number : ℕ) (account : Account) (entry : ℕ × Account) (entries : Entries) → IsRising (entry ∷ entries) → account_of number entries ≡ Some account → account_of number (entry ∷ entries) ≡ Some account
account-tail number account entry entries rising there = let none = lower-missing entry.0 entries rising.0 in grind (arith, none, eqb-true)

each-entry : (P : ℕ → Account → Type 0) (entries : Entries) → IsRising entries → ((number : ℕ) (account : Account) → account_of number entries ≡ Some account → P number account) → AllEntries (λ entry. P entry.0 entry.1) entries
each-entry P [] rising all = tt
each-entry P (entry ∷ entries) rising all =
    (all entry.0 entry.1 (rw (eq-eqb entry.0 entry.0 refl) refl), each-entry P entries rising.1 (λ number account there. grind (arith, account-tail)))

-- The numbers of things in a list that changes, and lists whose things have the same numbers.

-- as many numbers as things, and the numbers after one thing has changed, gone or come
module _ {X : Type 0} (number_of : X → ℕ) where
  pub length-numbers : (xs : List X) → length (numbers_by number_of xs) ≡ length xs
  length-numbers [] = refl
  length-numbers (x ∷ xs) = ap suc (length-numbers xs)

  pub numbers-with : (n : ℕ) (change : X → X) (xs : List X) → ((x : X) → number_of (change x) ≡ number_of x) → numbers_by number_of (change_by_number number_of n change xs) ≡ numbers_by number_of xs
  numbers-with n change [] keeps = refl
  numbers-with n change (x ∷ xs) keeps = grind (arith, numbers-with n change xs keeps)

  pub numbers-without : (n : ℕ) (xs : List X) → numbers_by number_of (remove_by_number number_of n xs) ≡ remove_by_number (λ k. k) n (numbers_by number_of xs)
  numbers-without n [] = refl
  numbers-without n (x ∷ xs) = grind (arith, numbers-without n xs)

  pub numbers-inserted : (new : X) (xs : List X) → numbers_by number_of (inserted number_of new xs) ≡ inserted (λ k. k) (number_of new) (numbers_by number_of xs)
  numbers-inserted new [] = refl
  numbers-inserted new (x ∷ xs) = grind (arith, numbers-inserted new xs)

  has-numbers : (n : ℕ) (xs : List X) → has_by_number number_of n xs ≡ has_by_number (λ k. k) n (numbers_by number_of xs)
  has-numbers n [] = refl
  has-numbers n (x ∷ xs) = grind (arith, has-numbers n xs)

-- a tenant has a list of jobs exactly where it has an account
module _ (n : ℕ) (job_lists : List JobListOf) (entries : Entries) where
  pub job_list-there : (a : Account) → numbers_of job_lists ≡ numbers_in entries → account_of n entries ≡ Some a → is_there n job_lists ≡ true
  job_list-there a same there = grind (arith, has-found, entry-of, has-numbers)

  pub no-job_list : numbers_of job_lists ≡ numbers_in entries → account_of n entries ≡ None → is_there n job_lists ≡ false
  no-job_list same none = grind (arith, lacks-said, has-numbers)

-- the lists of jobs rise as the accounts do

above-same : (n : ℕ) (job_lists : List JobListOf) (entries : Entries) → numbers_of job_lists ≡ numbers_in entries → AllEntries (λ later. n < later.0) entries → AreAbove owner_of_jobs n job_lists
above-same n [] entries same above = tt
above-same n (job_list ∷ job_lists) [] same above = absurd cc
above-same n (job_list ∷ job_lists) (entry ∷ entries) same above = grind (arith, above-same n job_lists entries)

rise-same : (job_lists : List JobListOf) (entries : Entries) → numbers_of job_lists ≡ numbers_in entries → IsRising entries → AreRising owner_of_jobs job_lists
rise-same [] entries same rising = tt
rise-same (job_list ∷ job_lists) [] same rising = absurd cc
rise-same (job_list ∷ job_lists) (entry ∷ entries) same rising =
    let first : job_list.0 ≡ entry.0 = cc in
    let rest : numbers_of job_lists ≡ numbers_in entries = cc in
    (above-same job_list.0 job_lists entries rest (rw first rising.0), rise-same job_lists entries rest rising.1)

pub job_lists-rise : {parts : Parts} → IsStored parts → AreRising owner_of_jobs parts.job_lists
job_lists-rise {parts} stored = grind (arith, rise-same)

-- What is found in the core that a store stands for.

tenant_in-tenants_from : (parts : Parts) (entries : Entries) (number : ℕ) → tenant_in (tenants_from parts entries) number ≡ option_map (tenant_from parts number) (account_of number entries)
tenant_in-tenants_from parts [] number = refl
tenant_in-tenants_from parts (entry ∷ entries) number = grind (arith, tenant_in-tenants_from parts entries number, eqb-true)

-- what is true of each frame that is found is true of each frame
pub each-frame : {parts : Parts} → IsStored parts → (number : ℕ) (P : Frame ℕ → Type 0) → ((serial : ℕ) (x : Frame ℕ) → IsAt parts.trees number serial x → P x) → Each P (frames_of parts.trees number)
each-frame {parts} stored number P all = grind (arith, found-each, tree-rising)

-- a tenant is what its account stands for
pub tenant-found : (parts : Parts) (number : ℕ) → tenant_in (shared_of parts).tenants number ≡ option_map (tenant_from parts number) (account_of number parts.book.accounts)
tenant-found parts number = grind (arith, tenant_in-tenants_from)

module _ {parts : Parts} (stored : IsStored parts) where
  -- its frames are those of the table, each with the words of its node
  pub frames-found : (number : ℕ) → frames_in_core (shared_of parts) number ≡ tree_in parts number
  frames-found number = grind (arith, tenant-found)

  -- a frame is that of the table, with the words of its node
  pub named-found : (name : FrameId) → named (shared_of parts) name ≡ with_words parts (framed parts name)
  named-found name = grind (arith, by, frames-found, frame_at-map_values)
    where
      by : named (shared_of parts) name ≡ frame_at (frames_in_core (shared_of parts) name.tenant) name.serial
      by = grind arith

  -- its jobs are those of its list

  pub jobs-found : (number : ℕ) → jobs_in (shared_of parts) number ≡ jobs_of parts.job_lists number
  jobs-found number = grind (arith, tenant-found, said-lacks, no-job_list)

  -- its account is the book's

  pub within-reserve : (number : ℕ) {account : Account} → Owns parts number account → IsWithinReserve account
  within-reserve number {account} is = grind (arith, AllEntries-of)

  pub left-found : (number : ℕ) → left_in_core (shared_of parts) number ≡ left_in_book number parts.book
  left-found number = grind (arith, tenant-found)

-- the accounts that the core shows are the book's
module _ (parts : Parts) where
  abbrev ChargesFrames : ℕ → Account → Type 0
  ChargesFrames number account = account_in (tenant_from parts number account) ≡ account

  abbrev AllCharged : Entries → Type 0
  AllCharged entries = AllEntries (λ entry. ChargesFrames entry.0 entry.1) entries

  all-charged : IsStored parts → AllCharged parts.book.accounts
  all-charged stored = each-entry ChargesFrames parts.book.accounts stored.book.rising (λ number account is. grind arith)

  accounts_in-tenants_from : (entries : Entries) → AllCharged entries → accounts_in (tenants_from parts entries) ≡ entries
  accounts_in-tenants_from [] all = refl
  accounts_in-tenants_from (entry ∷ entries) all = rw (all.0, accounts_in-tenants_from entries all.1) refl

  -- all reservations are the book's
  pub reservations-found : IsStored parts → reservations_in (shared_of parts) ≡ parts.book
  reservations-found stored = grind (arith, accounts_in-tenants_from, all-charged)

  charged_in-tenants_from : (entries : Entries) → AllCharged entries → charged_in (tenants_from parts entries) ≡ charged_segments entries
  charged_in-tenants_from [] all = refl
  charged_in-tenants_from (entry ∷ entries) all =
      let own : charged_for (tree_in parts entry.0) ≡ entry.1.charged = ap (λ (a : Account). a.charged) all.0 in
      rw (own, charged_in-tenants_from entries all.1) (sym (sum_by-cons (λ (e : ℕ × Account). e.1.charged) entry entries))

-- the free segments are those that no node takes
pub free-found : {parts : Parts} → IsStored parts → (free taken : ℕ) → free + taken ≡ length parts.nodes → taken ≡ total_charge parts.nodes → free ≡ free_in (shared_of parts)
free-found stored free taken counted is = grind (arith, charged_in-tenants_from, all-charged)

-- the tenants' numbers were taken, and rise
module _ (parts : Parts) where
  taken-tenants_from : (newest : ℕ) (entries : Entries) → AreAtMost newest entries → AreNumbersTaken newest (tenants_from parts entries)
  taken-tenants_from newest [] all = tt
  taken-tenants_from newest (entry ∷ entries) all = (all.0, taken-tenants_from newest entries all.1)

  after-tenants_from : (number : ℕ) (entries : Entries) → AllEntries (λ later. number < later.0) entries → AreAfter number (tenants_from parts entries)
  after-tenants_from number [] all = tt
  after-tenants_from number (entry ∷ entries) all = grind (arith, after-tenants_from number entries all.1)

  rising-tenants_from : (entries : Entries) → IsRising entries → AreTenantsRising (tenants_from parts entries)
  rising-tenants_from [] rising = tt
  rising-tenants_from (entry ∷ entries) rising = grind (arith, after-tenants_from, rising-tenants_from entries rising.1)

module _ {parts : Parts} (stored : IsStored parts) where
  pub known-found : AreNumbersGiven (shared_of parts)
  known-found = grind (arith, taken-tenants_from)

  pub rising-found : AreTenantsRising (shared_of parts).tenants
  rising-found = grind (arith, rising-tenants_from)

  -- what a tenant has left is free
  pub left-free : (left : Option Left) → IfSome left (λ l. charged_segments parts.book.accounts + l.segments ≤ parts.book.segments) → IfSome left (λ l. l.segments ≤ free_in (shared_of parts))
  left-free None there = tt
  left-free (Some left) there = grind (arith, charged_in-tenants_from, all-charged)

-- a job is one of its tenant's
pub job-kept : (core : CoreState) (number job : ℕ) → job_of core number job ≡ job_at (jobs_in core number) job
job-kept core number job = grind arith

pub ruleset job_reads = (job-kept)

-- what the book says is what all reservations say
pub book-says : {parts : Parts} → IsStored parts → (says : Reservations → Bool) → says (reservations_in (shared_of parts)) ≡ says parts.book
book-says {parts} stored says = ap says (reservations-found parts stored)

-- What is asked of frames with words is what is asked of the table's frames.

pub entry-none : (tenant : ℕ) (frame : Option (Frame ℕ)) → None ≡ entry_of_frame tenant frame → frame ≡ None
entry-none tenant None is = refl
entry-none tenant (Some f) is = absurd (cc is)

-- the frame that the table found
pub record HasFound (parts : Parts) (name : FrameId) (entry : Entry ℕ) : Type 0 where
  pub frame : Frame ℕ
  pub there : framed parts name ≡ Some frame
  pub named : named (shared_of parts) name ≡ Some (map_value (node_words parts.nodes) frame)
  pub is : entry ≡ record { parent = name_of name.tenant (parent_of frame.path); state = frame.state; value = frame.value }

-- the core has the frame of an entry
module _ {parts : Parts} (stored : IsStored parts) (name : FrameId) {entry : Entry ℕ}
    (is : Some entry ≡ entry_in parts name) where
  pub found : HasFound parts name entry
  found = grind (arith, named-found)

  pub frame-found : Some (entry.parent, entry.state) ≡ frame_in_core (shared_of parts) name
  frame-found = grind (arith, found)

-- where there is no entry, the core has no such frame
module _ {parts : Parts} (stored : IsStored parts) (name : FrameId)
    (is : None ≡ entry_in parts name) where
  pub nothing-found : named (shared_of parts) name ≡ None
  nothing-found = grind (arith, named-found)

  pub no-frame-found : None ≡ frame_in_core (shared_of parts) name
  no-frame-found = rw nothing-found refl

newest-with_words_of_nodes : (nodes : Nodes) (tenant : ℕ) (frames : Frames) → newest_ready_of tenant (with_words_of_nodes nodes frames) ≡ newest_ready_of tenant frames
newest-with_words_of_nodes nodes tenant [] = refl
newest-with_words_of_nodes nodes tenant (frame ∷ frames) = grind (arith, newest-with_words_of_nodes nodes tenant frames)

-- a tenant's frames, seen in the core: a tree, with the same newest ready frame
module _ {parts : Parts} (stored : IsStored parts) where
  pub tree-found : (number : ℕ) → IsTree (frames_in_core (shared_of parts) number)
  tree-found number = grind (arith, frames-found, tree-map_values)

  pub newest-ready-found : (number : ℕ) → newest_ready_in (shared_of parts) number ≡ newest_ready_of number (frames_of parts.trees number)
  newest-ready-found number = grind (arith, by, frames-found, newest-with_words_of_nodes)
    where
      by : (tenant : Option Tenant) → option_and_then (λ (t : Tenant). newest_ready_of number t.frames) tenant ≡ newest_ready_of number (tree_of tenant)
      by None = refl
      by (Some tenant) = refl

-- a frame that is there
module _ {parts : Parts} (stored : IsStored parts) (name : FrameId) (is : IsNamed parts name) where
  pub there-frame : (frame : Frame ℕ) × (framed parts name ≡ Some frame)
  there-frame = grind (arith, named-found)

  pub there-has : has_frame (family parts name) name.serial ≡ true
  there-has = grind (arith, there-frame, found-there)

-- What a frame sees: the stack's way from node to node is the frame's path.

-- the words that a serial stands for are those of its frame's node
words-at : (parts : Parts) (number serial : ℕ) (frame : Frame ℕ) → IsAt parts.trees number serial frame → words_in (tree_in parts number) serial ≡ node_words parts.nodes frame.value
words-at parts number serial frame at = grind (arith, frame_at-map_values)

-- what a frame sees through its node is what it sees in the core
module _ {parts : Parts} (stored : IsStored parts) (number : ℕ) where
  -- the stack's sight of a node is the sight along its frame's path
  abbrev SeesPath : Frame ℕ → Type 0
  SeesPath frame = IsSight parts.nodes (Some frame.value) (sight (tree_in parts number) frame.path)

  -- its own words, and what is seen from above it
  sees-first : (serial : ℕ) (frame : Frame ℕ) (levels : List (List ℕ)) → IsAt parts.trees number serial frame → sight (tree_in parts number) frame.path ≡ words_in (tree_in parts number) frame.serial ∷ levels →
      IsSight parts.nodes (node_above (frames_of parts.trees number) (parent_of frame.path)) levels → SeesPath frame
  sees-first serial frame levels at whole above =
      let belongs = stored.frames_nodes.nodes_of_frames number serial frame at in
      rw whole (belongs.is_open, rw (found-serial (frames_of parts.trees number) serial frame at) (sym (words-at parts number serial frame at)), rw belongs.parent above)

  sees : (serial : ℕ) (frame : Frame ℕ) → IsAt parts.trees number serial frame → SeesPath frame
  sees serial frame at =
      tree-induction (λ (f : Frame ℕ). (s : ℕ) → IsAt parts.trees number s f → SeesPath f) (frames_of parts.trees number) (stored.forest number)
      (λ f top s at_s. grind (arith, sees-first)) (λ f u above_sees s at_s. grind (arith, sees-first, map-append, reverse-append)) serial frame at serial at

-- so what the stack shows is what the frame sees
module _ {parts : Parts} (stored : IsStored parts) (name : FrameId) where
  pub sight-found : {entry : Entry ℕ} {levels : List (List ℕ)} → Some entry ≡ entry_in parts name → IsSight parts.nodes (Some entry.value) levels → levels ≡ sight_of (shared_of parts) name
  sight-found {entry} {levels} is seen =
      let f = found stored name is in
      let value : entry.value ≡ f.frame.value = ap (λ (e : Entry ℕ). e.value) f.is in
      let own = sees stored name.tenant name.serial f.frame f.there in
      let same = one-sight parts.nodes (Some f.frame.value) levels (sight (tree_in parts name.tenant) f.frame.path) (subst (λ (v : ℕ). IsSight parts.nodes (Some v) levels) value seen) own in grind (arith, frames-found)

  pub entry-open : {entry : Entry ℕ} → Some entry ≡ entry_in parts name → IsOpen parts.nodes entry.value
  entry-open {entry} is =
      let f = found stored name is in
      let value : entry.value ≡ f.frame.value = ap (λ (e : Entry ℕ). e.value) f.is in
      subst (λ (n : ℕ). IsOpen parts.nodes n) (sym value) (stored.frames_nodes.nodes_of_frames name.tenant name.serial f.frame f.there).is_open

  pub there-not-missing : IsNamed parts name → None ≡ entry_in parts name → ⊥
  there-not-missing some is = grind (arith, nothing-found)

-- What a frame's words are, seen through its node.

module _ {parts : Parts} (stored : IsStored parts) (name : FrameId) where
  -- the path of a frame that is there
  pub path-shown : IsNamed parts name → path_of (named (shared_of parts) name) ≡ path_in (family parts name) name.serial
  path-shown some = grind (arith, named-found, found-path)

some-length : (frames : Frames) (frame : Frame ℕ) → IsPlaced frames frame → 1 ≤ length frame.path
some-length frames frame (inl top) = grind arith
some-length frames frame (inr under) = grind (arith, length-append)

-- a frame has no parent exactly where its path has one serial
root-by-length : (frames : Frames) (frame : Frame ℕ) → IsTree frames → IsPlaced frames frame → is_none (parent_of frame.path) ≡ is_root frame.path
root-by-length frames frame tree (inl top) = rw (top.0, top.1) refl
root-by-length frames frame tree (inr under) =
    let above = some-length frames under.above (placed frames under.parent under.above tree under.there) in
    let long = ap length under.path ∙ length-append under.above.path (frame.serial ∷ []) in grind arith

-- an entry has a parent exactly where the core's frame is no root
module _ {parts : Parts} (stored : IsStored parts) (name : FrameId) {entry : Entry ℕ}
    (is : Some entry ≡ entry_in parts name) where
  pub child-or-root : is_some entry.parent ≡ not (is_root (path_of (named (shared_of parts) name)))
  child-or-root =
      let f = found stored name is in
      let F = family parts name in
      let root = root-by-length F f.frame (stored.forest name.tenant) (placed F name.serial f.frame (stored.forest name.tenant) f.there) in
      grind (arith, f, root)

-- a frame has a child exactly where it has one in the table
pub child-shown : {parts : Parts} → IsStored parts → (name : FrameId) (has : Bool) → (IsTrue has → 0 < length (children_of (family parts name) name.serial)) × (0 < length (children_of (family parts name) name.serial) → IsTrue has) →
    has ≡ has_child (frames_in_core (shared_of parts) name.tenant) name.serial
child-shown {parts} stored name has is = grind (arith, frames-found, children_of-map_values, length-map)
