-- A frame of the core's store in another state or with other words: the workers that hold frames, each by one look at
-- its place, and the nodes with what tenants are charged for them.
use Rattle.sched_store.proofs.Lookups.{◌≡◌, ℕ, true, false, List, [], ◌∷◌, get_or, Option, Some, None, refl, sym, ◌∙◌, arith, inl, inr, ◌≤◌, ◌+◌, length, ◌⊎◌, get_or-set_other, get_or-set_same, set, Account, FrameId, account_of, sum_by-cons, Nodes, node_words, charge, frames_of, KeepsOtherFrames, Parts, with_words_of_nodes, tenants_from, shared_of, Frame, frame_at, with_state, IsStored, frame_in_trees, AreFramesNodes, ArePlaces, node_of, Each, named, in_state, ◌≢◌, zero, suc, ◌<◌, ap, subst, drop, add-one, drop-cons, ◌-◌, ◌++◌, replicate, on_tenant, HasValue, found-serial, tree-rising, Reservations, changed, IsSoundBook, ChangesOnly, map_value, AllAboveSerial, AreSerialsRising, length-set, length-append, length-replicate, charged_segments, charged_by, reserved_segments, IsWithinReserve, Node, node_at, node_parent, words_of_node, with_node_words, IsOpen, charge_of, total_charge, growth_charge, free_segments, holding, lt-of-some, sum_by-set, Frames, Trees, family, framed, tree_in, Owns, its-account, none-or-some, each-frame, named-found, there-frame, IsAt, IsNamed, Entries, AllEntries-map, sum_by-le-with}
use Rattle.sched_rules.specs.Trees.{is_held_by, is_busy_in, Tree, charged_for, with_frame_words, stored, is_outside}
use Rattle.sched_store.specs.Reads.{is_busy_among, holds, may_hold, is_held, words_under, TenantHasLeft}
use Rattle.std.proofs.lemmas.Bool.{cases_Bool, true≢false, eqb-true, or_left, or_right, false_from_ne_true, cases_eq, eqb-false}
use Rattle.frame_table.specs.declared.names.State.{State}
use Rattle.frame_table.proofs.TreeValues.{tree-with_state, with_state-alike, AllBelow-alike, with_state-map_values, frame_at-with_state, frame_at-other-with_state, frame_at-map_values, tree-map_values}
use Rattle.sched_store.proofs.Steps.{TenantStep, changed-nothing, Stepped, stepped, left-account}
use Rattle.sched_rules.proofs.StoreLemmas.{length-stored}

-- a frame that a worker holds makes it busy

frames-busy : (nodes : Nodes) (frames : Frames) (worker serial : ℕ) (frame : Frame ℕ) → frame_at frames serial ≡ Some frame → is_held_by worker frame.state ≡ true → is_busy_in worker (with_words_of_nodes nodes frames) ≡ true
frames-busy nodes [] worker serial frame there held = absurd (cc there)
frames-busy nodes (first ∷ frames) worker serial frame there held = grind (arith, or_left, or_right, frames-busy nodes frames worker serial frame)

entries-busy : (parts : Parts) (entries : List (ℕ × Account)) (worker number : ℕ) (account : Account) → account_of number entries ≡ Some account → is_busy_in worker (tree_in parts number) ≡ true → is_busy_among worker (tenants_from parts entries) ≡ true
entries-busy parts [] worker number account there busy = absurd (cc there)
entries-busy parts (entry ∷ entries) worker number account there busy = grind (arith, eqb-true, entries-busy parts entries worker number account)

module _ {parts : Parts} (stored : IsStored parts) where
  -- a tenant with a frame has an account
  pub frame-account : (number serial : ℕ) {frame : Frame ℕ} → IsAt parts.trees number serial frame → (a : Account) × (Owns parts number a)
  frame-account number serial there = elim (none-or-some (account_of number parts.book.accounts)) [
    | inl none ↦ grind arith
    | inr own ↦ own
  ]

  pub named-account : (name : FrameId) → IsNamed parts name → (a : Account) × Owns parts name.tenant a
  named-account name some = grind (arith, there-frame, frame-account)

  pub held-busy : (worker number serial : ℕ) {frame : Frame ℕ} → IsAt parts.trees number serial frame → is_held_by worker frame.state ≡ true → is_busy_among worker (shared_of parts).tenants ≡ true
  held-busy worker number serial there held = grind (arith, frame-account, entries-busy, frames-busy)

-- a worker that holds no frame is not busy

idle-frames : (nodes : Nodes) (frames : Frames) (worker : ℕ) → Each (λ f. is_held_by worker f.state ≡ false) frames → is_busy_in worker (with_words_of_nodes nodes frames) ≡ false
idle-frames nodes [] worker each = refl
idle-frames nodes (first ∷ frames) worker each = rw (each.0, idle-frames nodes frames worker each.1) refl

module _ {parts : Parts} (stored : IsStored parts) (worker : ℕ)
    (idle : (number serial : ℕ) (f : Frame ℕ) → IsAt parts.trees number serial f → is_held_by worker f.state ≢ true) where
  idle-entries : (entries : Entries) → is_busy_among worker (tenants_from parts entries) ≡ false
  idle-entries [] = refl
  idle-entries (entry ∷ entries) =
      let own = idle-frames parts.nodes (frames_of parts.trees entry.0) worker
      (each-frame stored entry.0 (λ f. is_held_by worker f.state ≡ false) (λ s f at. false_from_ne_true (is_held_by worker f.state) (idle entry.0 s f at))) in
      rw (own, idle-entries entries) refl

pub record HeldThere (parts : Parts) (worker : ℕ) (name : FrameId) : Type 0 where
  pub frame : Frame ℕ
  pub there : framed parts name ≡ Some frame
  pub held : is_held_by worker frame.state ≡ true

-- what a worker holds in the core is a frame that is there, held by it
module _ {parts : Parts} (stored : IsStored parts) (worker : ℕ) where
  pub holds-there : (name : FrameId) → holds worker (named (shared_of parts) name) ≡ true → HeldThere parts worker name
  holds-there name held = grind (arith, named-found)

  -- a worker is busy where it holds the frame at its place
  pub busy-place : (name : FrameId) → get_or parts.places worker None ≡ Some name → holds worker (named (shared_of parts) name) ≡ is_busy_among worker (shared_of parts).tenants
  busy-place name place =
      elim (cases_Bool (holds worker (named (shared_of parts) name))) [
        | inl held ↦ (let own = holds-there name held in
            held ∙ sym (held-busy stored worker name.tenant name.serial own.there own.held))
        | inr not_held ↦ not_held ∙ sym (idle-entries stored worker (λ number serial f at held.
            let here = (stored.places worker number serial f at held).2 in
            let own : holds worker (named (shared_of parts) name) ≡ true = grind (arith, named-found) in
            true≢false (sym own ∙ not_held)) parts.book.accounts)
      ]

  pub busy-nothing : get_or parts.places worker None ≡ None → false ≡ is_busy_among worker (shared_of parts).tenants
  busy-nothing place =
      sym (idle-entries stored worker (λ number serial f at held. let here = (stored.places worker number serial f at held).2 in cc (place, here)) parts.book.accounts)

  -- where a worker may hold a frame, it holds no other
  pub holds-no-other : (name : FrameId) → may_hold (shared_of parts) worker name ≡ true → (number serial : ℕ) (frame : Frame ℕ) →
      IsAt parts.trees number serial frame → is_held_by worker frame.state ≡ true → (number ≡ name.tenant) × (serial ≡ name.serial)
  holds-no-other name may number serial frame there held =
      let busy = held-busy stored worker number serial there held in
      let own : holds worker (named (shared_of parts) name) ≡ true = rw busy at may in
      let here = holds-there name own in
      let first = (stored.places worker number serial frame there held).2 in
      let second = (stored.places worker name.tenant name.serial here.frame here.there here.held).2 in
      (cc (first, second), cc (first, second))

-- A frame in another state.

-- frames under the same numbers and serials, with the same nodes and paths

pub record IsLike (frame : Frame ℕ) (old : Option (Frame ℕ)) : Type 0 where
  pub was : Frame ℕ
  pub there : old ≡ Some was
  pub value : frame.value ≡ was.value
  pub path : frame.path ≡ was.path

pub record AreLike (old new : Trees) : Type 0 where
  pub nodes : (number serial : ℕ) → node_of (frame_in_trees new number serial) ≡ node_of (frame_in_trees old number serial)
  pub frames : (number serial : ℕ) (frame : Frame ℕ) → IsAt new number serial frame → IsLike frame (frame_in_trees old number serial)

pub like-nodes : {nodes : Nodes} {old new : Trees} → AreFramesNodes nodes old → AreLike old new → AreFramesNodes nodes new
like-nodes is like =
    record {
      nodes_of_frames = λ number serial frame there.
          let f = like.frames number serial frame there in
          let own = is.nodes_of_frames number serial f.was f.there in
          record {
            is_open = rw f.value own.is_open;
            parent = grind arith;
          };
      once = grind arith;
      no_other = λ node is_open. grind arith;
    }

-- the frames after one has another state
pub record SetsState (old new : Trees) (name : FrameId) (state : State) : Type 0 where
  pub frames : frames_of new name.tenant ≡ with_state name.serial state (frames_of old name.tenant)
  pub kept : KeepsOtherFrames old new name.tenant

-- either it is this frame, or it is as it was
pub state-cases : {old new : Trees} {name : FrameId} {state : State} → SetsState old new name state → (number serial : ℕ) →
    ((number ≡ name.tenant) × (serial ≡ name.serial)) ⊎ (frame_in_trees new number serial ≡ frame_in_trees old number serial)
state-cases sets number serial = grind (arith, frame_at-other-with_state)

-- after a state was set, the frame has it, and all frames stand as before
module _ {old new : Trees} {name : FrameId} {state : State} {frame : Frame ℕ} (sets : SetsState old new name state)
    (there : IsAt old name.tenant name.serial frame) where
  state-here : frame_in_trees new name.tenant name.serial ≡ Some (record frame { state = state })
  state-here = grind (arith, frame_at-with_state)

  state-like : AreLike old new
  state-like = grind (arith, state-here, state-cases)

-- charges of frames, one by one
pub charged-cons : (frame : Frame (List ℕ)) (frames : Tree) → charged_for (frame ∷ frames) ≡ charge (length frame.value) + charged_for frames
charged-cons frame frames = sum_by-cons (λ (f : Frame (List ℕ)). charge (length f.value)) frame frames

charged-with_state : (serial : ℕ) (state : State) (tree : Tree) → charged_for (with_state serial state tree) ≡ charged_for tree
charged-with_state serial state [] = refl
charged-with_state serial state (frame ∷ tree) = grind (arith, charged-cons, charged-with_state serial state tree)

abbrev pub StateSet : Parts → Trees → List (Option FrameId) → FrameId → State → Type 0
StateSet old trees places name state = Stepped old (record old { trees = trees; places = places }) name.tenant (in_state name.serial state)

-- what a store keeps true is true after a state was set, where the workers' places agree with it
module _ {old : Parts} {trees : Trees} (name : FrameId) (state : State) {frame : Frame ℕ} (stored : IsStored old)
    (sets : SetsState old.trees trees name state) (there : framed old name ≡ Some frame) where
  state-step : (places : List (Option FrameId)) (account : Account) → Owns old name.tenant account → ArePlaces trees places → TenantStep old (record old { trees = trees; places = places }) name.tenant (λ a. a) account
  state-step places account own are =
      record {
        there = own;
        sound = stored.book;
        book = sym (changed-nothing old.book name.tenant);
        trees = grind arith;
        count = sets.kept.count;
        tree = grind (arith, tree-with_state);
        frames_nodes = like-nodes stored.frames_nodes (state-like sets there);
        segments = refl;
        charges = stored.charges;
        own = (let is = its-account stored name.tenant own in record {
          charged = is.charged ∙ sym (rw (sets.frames, ← with_state-map_values (node_words old.nodes) name.serial state (family old name)) (charged-with_state name.serial state (tree_in old name.tenant)));
          places = sets.kept.places name.tenant ∙ is.places;
          serials = rw sets.frames (AllBelow-alike (family old name) (with_state name.serial state (family old name)) (account.opened + 1) (with_state-alike name.serial state (family old name)) is.serials);
        });
        words = λ other differs. refl;
        job_lists = refl;
        jobs = λ other differs. refl;
        places = are;
        newest = refl;
      }

  state-set : (places : List (Option FrameId)) → ArePlaces trees places → StateSet old trees places name state
  state-set places are =
      let own = frame-account stored name.tenant name.serial there in
      let frames : with_words_of_nodes old.nodes (frames_of trees name.tenant) ≡ with_state name.serial state (tree_in old name.tenant) = grind (arith, with_state-map_values) in
      stepped (in_state name.serial state) stored (state-step places own.0 own.1 are) (rw frames refl)

  -- what is held is this frame in its state, or was held and has its place
  placed : (other number serial : ℕ) (f : Frame ℕ) → IsAt trees number serial f → is_held_by other f.state ≡ true →
      ((number ≡ name.tenant) × (serial ≡ name.serial) × (f.state ≡ state))
      ⊎ ((IsAt old.trees number serial f) × (1 ≤ other) × (other ≤ 32) × (get_or old.places other None ≡ Some (record { tenant = number; serial = serial })))
  placed other number serial f is held = grind (arith, state-cases, state-here)

  -- a state that names no worker

  pub unheld-set : is_held state ≡ false → StateSet old trees old.places name state
  unheld-set nobody =
      state-set old.places (λ worker number serial f is held. let p = placed worker number serial f is held in grind (arith, p))

  -- the worker that held the frame has an empty place, where the state names nobody

  pub let-go-set : (worker : ℕ) → is_held_by worker frame.state ≡ true → is_held state ≡ false → StateSet old trees (set old.places worker None) name state
  let-go-set worker holds nobody =
      let own = stored.places worker name.tenant name.serial frame there holds in
      state-set (set old.places worker None) (λ other number serial f is held.
      let p = placed other number serial f is held in grind (arith, p, own, state-here, cases_eq, get_or-set_other))

  pub held-set : (worker : ℕ) → length old.places ≡ 33 → 1 ≤ worker → worker ≤ 32 → may_hold (shared_of old) worker name ≡ true → is_held_by worker state ≡ true →
      StateSet old trees (set old.places worker (Some name)) name state
  held-set worker long some most may names =
      let place : get_or (set old.places worker (Some name)) worker None ≡ Some name = grind (arith, get_or-set_same) in
      state-set (set old.places worker (Some name)) (λ other number serial f is held.
      let p = placed other number serial f is held in grind (arith, p, place, cases_eq, holds-no-other, get_or-set_other))

-- the charge of an entry is that of its words
pub charge-words : (entry : Option Node) → charge (length (words_of_node entry)) ≡ charge_of entry
charge-words None = refl
charge-words (Some node) = refl

-- the charge of the words of a node
abbrev charge_at : Nodes → ℕ → ℕ
charge_at nodes n = charge (length (node_words nodes n))

-- other words in a node
module _ (nodes : Nodes) (n : ℕ) where
  pub words-other : (m : ℕ) (words : List ℕ) → m ≢ n → node_at (with_node_words nodes n words) m ≡ node_at nodes m
  words-other m words differs = grind (arith, get_or-set_other)

  pub words-same : (words : List ℕ) → IsOpen nodes n → node_at (with_node_words nodes n words) n ≡ Some (record { parent = node_parent nodes n; words = words })
  words-same words is = grind (arith, get_or-set_same, lt-of-some)

  pub words-here : (words : List ℕ) → IsOpen nodes n → node_words (with_node_words nodes n words) n ≡ words
  words-here words here = ap words_of_node (words-same words here)

-- words that stay
pub words-stay : (nodes : Nodes) (n : ℕ) → IsOpen nodes n → with_node_words nodes n (node_words nodes n) ≡ nodes
words-stay [] n is = refl
words-stay (None ∷ nodes) zero is = absurd (cc is)
words-stay (Some node ∷ nodes) zero is = refl
words-stay (e ∷ nodes) (suc n) is = grind (arith, words-stay nodes n is)

-- A frame with other words.

-- frames whose nodes have the same words
pub with_words_of_nodes-same : (nodes new : Nodes) (frames : Frames) → Each (λ frame. node_words new frame.value ≡ node_words nodes frame.value) frames → with_words_of_nodes new frames ≡ with_words_of_nodes nodes frames
with_words_of_nodes-same nodes new [] same = refl
with_words_of_nodes-same nodes new (frame ∷ frames) same = rw (same.0, with_words_of_nodes-same nodes new frames same.1) refl

-- frames with words in one
with_words_of_nodes-changed : (nodes new : Nodes) (serial : ℕ) (words : List ℕ) (frames : Frames) →
    Each (λ frame. (frame.serial ≡ serial → node_words new frame.value ≡ words) × (frame.serial ≢ serial → node_words new frame.value ≡ node_words nodes frame.value)) frames →
    with_words_of_nodes new frames ≡ with_frame_words serial words (with_words_of_nodes nodes frames)
with_words_of_nodes-changed nodes new serial words [] all = refl
with_words_of_nodes-changed nodes new serial words (frame ∷ frames) all = grind (arith, with_words_of_nodes-changed nodes new serial words frames, eqb-true, eqb-false)

-- the charges of frames with words in one
module _ (serial : ℕ) (words : List ℕ) where
  higher-stay : (tree : Tree) → AllAboveSerial serial tree → with_frame_words serial words tree ≡ tree
  higher-stay [] above = refl
  higher-stay (frame ∷ tree) above = grind (arith, higher-stay tree)

  charged-changed : (tree : Tree) (frame : Frame (List ℕ)) → AreSerialsRising tree → frame_at tree serial ≡ Some frame →
      charged_for (with_frame_words serial words tree) + charge (length frame.value) ≡ charged_for tree + charge (length words)
  charged-changed [] frame rising there = absurd (cc there)
  charged-changed (first ∷ tree) frame rising there = grind (arith, charged-changed tree frame, eqb-true, charged-cons, higher-stay)

-- what is asked of an account whose charge changes with the words
pub record ChargesWords (old : Parts) (book : Reservations) (name : FrameId) (f : Account → Account) (account : Account) (before after : ℕ) : Type 0 where
  pub there : Owns old name.tenant account
  pub sound : IsSoundBook book
  pub changes : book ≡ changed old.book name.tenant f
  pub reserve : (f account).reserve ≡ account.reserve
  pub opened : (f account).opened ≡ account.opened
  pub ticks : (f account).ticks ≡ account.ticks
  pub own : (f account).charged + before ≡ account.charged + after
  pub sum : charged_segments book.accounts + before ≡ charged_segments old.book.accounts + after

abbrev pub WordsSet : Parts → Nodes → Reservations → FrameId → List ℕ → Type 0
WordsSet old nodes book name words = Stepped old (record old { nodes = nodes; book = book }) name.tenant (holding name.serial words)

-- what a store keeps true is true after a frame got other words
module _ {old : Parts} (nodes : Nodes) (name : FrameId) {frame : Frame ℕ} (words : List ℕ) (stored : IsStored old) (there : framed old name ≡ Some frame)
    (is : nodes ≡ with_node_words old.nodes frame.value words) where
  here : IsOpen old.nodes frame.value
  here = (stored.frames_nodes.nodes_of_frames name.tenant name.serial frame there).is_open

  words-frames-nodes : AreFramesNodes nodes old.trees
  words-frames-nodes =
      rw is (record {
        nodes_of_frames = λ number serial x at.
            let own = stored.frames_nodes.nodes_of_frames number serial x at in
            record {
              is_open = grind (arith, words-same, words-other);
              parent = grind (arith, words-same, words-other);
            };
        once = stored.frames_nodes.once;
        no_other = grind (arith, words-other);
      })

  own-changed : with_words_of_nodes nodes (family old name) ≡ with_frame_words name.serial words (tree_in old name.tenant)
  own-changed =
      let frames = family old name in
      with_words_of_nodes-changed old.nodes nodes name.serial words frames
      (each-frame stored name.tenant (λ x. (x.serial ≡ name.serial → node_words nodes x.value ≡ words) × (x.serial ≢ name.serial → node_words nodes x.value ≡ node_words old.nodes x.value))
      (λ serial x at.
      grind (arith, found-serial, words-here, here, words-other)))

  words-step : {book : Reservations} {f : Account → Account} {account : Account} →
      ChargesWords old book name f account (charge_at old.nodes frame.value) (charge (length words)) → TenantStep old (record old { nodes = nodes; book = book }) name.tenant f account
  words-step {book} charges =
      let own_words = own-changed in
      let total : total_charge nodes + charge_at old.nodes frame.value ≡ total_charge old.nodes + charge (length words) = grind (arith, here, sum_by-set, lt-of-some) in
      let rising = tree-rising (tree_in old name.tenant) (tree-map_values (node_words old.nodes) (family old name) (stored.forest name.tenant)) in
      let own_total = charged-changed name.serial words (tree_in old name.tenant) (map_value (node_words old.nodes) frame) rising (rw (frame_at-map_values (node_words old.nodes) (family old name) name.serial, there) refl) in
      record {
        there = charges.there;
        sound = charges.sound;
        book = charges.changes;
        trees = grind arith;
        count = refl;
        tree = stored.forest name.tenant;
        frames_nodes = words-frames-nodes;
        segments = grind (arith, length-set);
        charges = omega (arith, total, charges.sum, stored.charges);
        own = grind arith;
        words = λ other differs. with_words_of_nodes-same old.nodes nodes (frames_of old.trees other)
            (each-frame stored other (λ x. node_words nodes x.value ≡ node_words old.nodes x.value) (λ serial x at. grind (arith, words-other)));
        job_lists = refl;
        jobs = λ other differs. refl;
        places = stored.places;
        newest = refl;
      }

  pub words-set : {book : Reservations} {f : Account → Account} {account : Account} →
      ChargesWords old book name f account (charge_at old.nodes frame.value) (charge (length words)) → WordsSet old nodes book name words
  words-set charges =
      stepped (holding name.serial words) stored (words-step charges) (rw (charges.reserve, charges.opened, charges.ticks, own-changed) refl)

-- Stores into a node, one after another.

abbrev Stores : Type 0
Stores = List (ℕ × ℕ)

-- the nodes after stores into one
abbrev stored_in : Nodes → ℕ → Stores → Nodes
stored_in nodes node stores = with_node_words nodes node (stored stores (node_words nodes node))

pub first-store : (stores : Stores) (i : ℕ) (d : ℕ × ℕ) → i < length stores → drop i stores ≡ get_or stores i d ∷ drop (i + 1) stores
first-store stores i d within = rw add-one (drop-cons stores i d within)

pub outside-set : (stores : Stores) (words : List ℕ) (at word : ℕ) → is_outside stores (set words at word) ≡ is_outside stores words
outside-set [] words at word = refl
outside-set (store ∷ stores) words at word = grind (arith, length-set, outside-set stores words)

-- Stores into a frame that is there, and more words for it.

-- a frame that is there, and its node
pub record HasNode (parts : Parts) (name : FrameId) (node : ℕ) : Type 0 where
  pub frame : Frame ℕ
  pub there : framed parts name ≡ Some frame
  pub value : frame.value ≡ node
  pub is_open : IsOpen parts.nodes node
  pub words : words_under (shared_of parts) name ≡ node_words parts.nodes node

-- the node of a frame that the core names
module _ {parts : Parts} (stored : IsStored parts) (name : FrameId) where
  pub has-node : (node : ℕ) → IsNamed parts name → HasValue (framed parts name) node → HasNode parts name node
  has-node node is value =
      let f = there-frame stored name is in
      let same : f.0.value ≡ node = rw f.1 at value in
      record {
        frame = f.0;
        there = f.1;
        value = same;
        is_open = rw same at ((stored.frames_nodes.nodes_of_frames name.tenant name.serial f.0 f.1).is_open);
        words = grind (arith, named-found);
      }

-- the tenant of a frame with a node has an account
module _ {parts : Parts} {name : FrameId} {node : ℕ} (is_stored : IsStored parts) (has : HasNode parts name node) where
  own : (a : Account) × Owns parts name.tenant a
  own = grind (arith, frame-account)

  -- the words of the node become these, and its tenant is charged for them
  set-node : (nodes : Nodes) (book : Reservations) (words : List ℕ) (f : Account → Account) → nodes ≡ with_node_words parts.nodes node words →
      ChargesWords parts book name f own.0 (charge_at parts.nodes node) (charge (length words)) → WordsSet parts nodes book name words
  set-node nodes book words f is charges =
      words-set nodes name words is_stored has.there (rw has.value is)
      (subst (λ (n : ℕ). ChargesWords parts book name f own.0 (charge_at parts.nodes n) (charge (length words))) (sym has.value) charges)

  pub stores-set : (nodes : Nodes) (stores : Stores) → nodes ≡ stored_in parts.nodes node stores → WordsSet parts nodes parts.book name (stored stores (words_under (shared_of parts) name))
  stores-set nodes stores is =
      let words = node_words parts.nodes node in
      let len = length-stored stores words in
      let same = changed-nothing parts.book name.tenant in
      let charges : ChargesWords parts parts.book name (λ a. a) own.0 (charge_at parts.nodes node) (charge (length (stored stores words))) = grind (arith, own, len, same) in
      rw has.words (set-node nodes parts.book (stored stores words) (λ a. a) is charges)

  -- a node that is longer
  pub growth-set : (nodes : Nodes) (book : Reservations) (more added : ℕ) → nodes ≡ with_node_words parts.nodes node (node_words parts.nodes node ++ replicate more 0) →
      added ≡ growth_charge (length (node_words parts.nodes node)) more → IsSoundBook book →
      ChangesOnly parts.book book name.tenant (charged_by added 0) → charged_segments book.accounts ≡ charged_segments parts.book.accounts + added →
      WordsSet parts nodes book name (words_under (shared_of parts) name ++ replicate more 0)
  growth-set nodes book more added is added_is sound changes sum =
      let words = node_words parts.nodes node in
      let longer : List ℕ = words ++ replicate more 0 in
      let grown : length longer ≡ length words + more = grind (arith, length-append, length-replicate) in
      let after = ap charge grown in
      let charges : ChargesWords parts book name (charged_by added 0) own.0 (charge_at parts.nodes node) (charge (length longer)) = grind (arith, own, after, added_is) in
      rw has.words (set-node nodes book longer (charged_by added 0) is charges)

  pub growth-added : (more len added : ℕ) → len ≡ length (node_words parts.nodes node) → added ≡ growth_charge len more → added ≡ growth_charge (length (words_under (shared_of parts) name)) more
  growth-added more len added is grown = grind arith

-- no store changes nothing
pub nothing-stored : {parts : Parts} (name : FrameId) → IsStored parts → IsNamed parts name →
    shared_of parts ≡ on_tenant name.tenant (holding name.serial (words_under (shared_of parts) name)) (shared_of parts)
nothing-stored {parts} name is_stored is =
    let f = there-frame is_stored name is in
    let value : HasValue (framed parts name) f.0.value = let there = f.1 in rw there refl in
    let has = has-node is_stored name f.0.value is value in
    (stores-set is_stored has parts.nodes [] (sym (words-stay parts.nodes f.0.value has.is_open))).shared

-- a segment that a tenant has left is free
module _ {parts : Parts} (stored : IsStored parts) where
  pub has-free : (number segments nodes : ℕ) → TenantHasLeft (shared_of parts) number segments nodes → segments ≤ free_segments parts.nodes
  has-free number segments nodes has =
      let own = left-account stored number (λ left. (segments ≤ left.segments) × (nodes ≤ left.nodes)) has in
      let within = AllEntries-map (λ e. IsWithinReserve e.1) (λ e. e.1.charged ≤ e.1.reserve.segments) (λ e w. w.charged_within) parts.book.accounts stored.book.within in
      let sums : charged_segments parts.book.accounts + (own.0.reserve.segments - own.0.charged) ≤ reserved_segments parts.book.accounts =
      sum_by-le-with (λ e. e.1.charged) (λ e. e.1.reserve.segments) number own.0 parts.book.accounts own.1.0 within in
      grind arith
