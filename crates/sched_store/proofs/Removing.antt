-- Frames of one tenant are removed from the core's store, their nodes closed and their segments given back: frames and
-- nodes still belong to one another, one to one, and what the store keeps true stays so.
use Rattle.sched_store.proofs.Lookups.{◌≡◌, ◌≢◌, ℕ, suc, ◌⊎◌, inl, inr, Bool, true, false, not, eqb, List, [], ◌∷◌, Option, Some, None, IsSome, Contains, refl, ap, sym, ◌∙◌, subst, arith, ◌+◌, sum_by, All, AllPairs, filter, FrameId, frames_of, sum_by-cons, charged_for, with_words_of_nodes, AreSerialsRising, Each, AllAboveSerial, map_value, cases_Bool, eq-eqb, node_of, node_above, IsFrameNode, HasFrame, AreFramesNodes, ArePlaces, Nodes, IsOpen, node_at, node_words, words_of_node, without, charge_of, node_parent, total_charge, HasAllChildren, gone, kept, still-none, charge-without, length, ◌≤◌, ◌-◌, length-set, with_node, HasNoChild, credited_by, charged_segments, Reservations, IsSoundBook, ChangesOnly, HasChargedAtLeast, Account, KeepsOtherFrames, Tenant, has_child, Parts, shared_of, IsStored, eqb-true, ne_eqb, map_values, is_child_of, frames_in_core, length-map, Frame, frame_at, has_frame, parent_of, values_of, IsTree, children_of, HasValue, goes_under, frames_under, Frames, Trees, family, framed, tree_in, Owns, its-account, frames-found, found, IsAt, IsNamed, children_of-map_values, frames_under-map_values}
use Rattle.frame_table.proofs.TreeChanges.{frame_at-stays, filter-found, AllBelow-filter, child-further-under}
use Rattle.frame_table.proofs.TreeLaws.{there-found, found-there, above-missing, tree-rising, found-each, under-there, children-by-paths}
use Rattle.sched_store.proofs.FrameSteps.{charge-words, with_words_of_nodes-same, charged-cons, named-account}
use Rattle.std.proofs.lemmas.List.Kept.{AllPairs-cons}
use Rattle.std.proofs.lemmas.List.Elements.{All-cons}
use Rattle.sched_store.proofs.Steps.{TenantStep, Stepped, stepped}

-- the nodes of the frames that go
abbrev pub closed : (Frame ℕ → Bool) → Frames → List ℕ
closed keep frames = values_of (filter (λ frame. not (keep frame)) frames)

-- a list with one number more in front has that number, and those that it had
module _ (m n : ℕ) (numbers : List ℕ) where
  contains-later : Contains numbers n → Contains (m ∷ numbers) n
  contains-later among = (suc among.0, omega (arith, among.1), among.2)

-- the node of a frame that goes is among them
pub gone-listed : (keep : Frame ℕ → Bool) (frames : Frames) (serial : ℕ) (frame : Frame ℕ) → frame_at frames serial ≡ Some frame → keep frame ≡ false → Contains (closed keep frames) frame.value
gone-listed keep [] serial frame at goes = absurd cc
gone-listed keep (x ∷ xs) serial frame at goes =
    elim (cases_Bool (eqb x.serial serial)) [
      | inl same ↦ grind arith
      | inr other ↦ (
          let later = gone-listed keep xs serial frame (rw other at at) goes in
          elim (cases_Bool (keep x)) [
            | inl stays ↦ rw stays later
            | inr out ↦ rw out (contains-later x.value frame.value (closed keep xs) later)
          ])
    ]

-- a frame that goes, with this node
pub record Goes (keep : Frame ℕ → Bool) (frames : Frames) (node : ℕ) : Type 0 where
  pub serial : ℕ
  pub frame : Frame ℕ
  pub there : frame_at frames serial ≡ Some frame
  pub out : keep frame ≡ false
  pub node_is : frame.value ≡ node

-- what holds of the node of each frame that goes holds of each node that is closed
closed-all : (P : ℕ → Type 0) (keep : Frame ℕ → Bool) (frames : Frames) → AreSerialsRising frames →
    ((s : ℕ) (f : Frame ℕ) → frame_at frames s ≡ Some f → keep f ≡ false → P f.value) → All P (closed keep frames)
closed-all P keep frames rising all = by frames (found-each (λ f. keep f ≡ false → P f.value) frames rising all)
  where
    by : (xs : Frames) → Each (λ f. keep f ≡ false → P f.value) xs → All P (closed keep xs)
    by [] each = λ i d within. absurd (omega arith)
    by (x ∷ xs) each = elim (cases_Bool (keep x)) [
      | inl stays ↦ rw stays (by xs each.1)
      | inr out ↦ rw out (All-cons P x.value (closed keep xs) (each.0 out) (by xs each.1))
    ]

-- so a node among them is that of a frame that goes
pub listed-goes : (keep : Frame ℕ → Bool) (frames : Frames) (node : ℕ) → AreSerialsRising frames → Contains (closed keep frames) node → Goes keep frames node
listed-goes keep frames node rising among =
    subst (λ (n : ℕ). Goes keep frames n) among.2
    (closed-all (Goes keep frames) keep frames rising (λ s f at out. record { serial = s; frame = f; there = at; out = out; node_is = refl }) among.0 node among.1)

-- what a cut leaves of the trees
pub record IsCut (trees after : Trees) (number : ℕ) (keep : Frame ℕ → Bool) : Type 0 where
  pub tree : (other : ℕ) → IsTree (frames_of trees other)
  pub tree_after : IsTree (frames_of after number)
  pub cut : frames_of after number ≡ filter keep (frames_of trees number)
  pub others : (other : ℕ) → other ≢ number → frames_of after other ≡ frames_of trees other

-- the nodes that are closed
abbrev pub closing : Trees → ℕ → (Frame ℕ → Bool) → List ℕ
closing trees number keep = closed keep (frames_of trees number)

-- a frame after the cut: it was there, and its node stays open
pub record Stays (nodes : Nodes) (trees : Trees) (number : ℕ) (keep : Frame ℕ → Bool) (owner serial : ℕ) (frame : Frame ℕ) : Type 0 where
  pub there : IsAt trees owner serial frame
  pub unlisted : Contains (closing trees number keep) frame.value → ⊥
  pub node : node_at (without nodes (closing trees number keep)) frame.value ≡ node_at nodes frame.value

some-first : (xs : Frames) (keep : Frame ℕ → Bool) (p : ℕ) → AreSerialsRising xs → has_frame (filter keep xs) p ≡ true → node_of (frame_at xs p) ≡ node_of (frame_at (filter keep xs) p)
some-first xs keep p rising there = grind (arith, there-found, filter-found)

-- the node of the parent is the same as before
module _ {trees after : Trees} {number : ℕ} {keep : Frame ℕ → Bool} (is : IsCut trees after number keep)
    (owner serial : ℕ) (frame : Frame ℕ) where
  above-kept : IsAt after owner serial frame → (parent : Option ℕ) → parent_of frame.path ≡ parent →
      node_above (frames_of trees owner) parent ≡ node_above (frames_of after owner) parent
  above-kept at None top = refl
  above-kept at (Some p) up = grind (arith, under-there, some-first, tree-rising)

  -- a frame that was there is there, or its node is closed
  stays-or-closed : IsAt trees owner serial frame →
      (IsAt after owner serial frame) ⊎ Contains (closing trees number keep) frame.value
  stays-or-closed at =
      elim (cases_Bool (eqb owner number)) [
        | inl same ↦ (
            let found : frame_at (frames_of trees number) serial ≡ Some frame = grind arith in
            elim (cases_Bool (keep frame)) [
              | inl stays ↦ grind (arith, frame_at-stays, tree-rising)
              | inr out ↦ inr (gone-listed keep (frames_of trees number) serial frame found out)
            ])
        | inr other ↦ grind arith
      ]

-- all frames of a tenant are a tree after a cut
pub cut-trees : {trees after : Trees} {number : ℕ} {keep : Frame ℕ → Bool} → IsCut trees after number keep → (owner : ℕ) → IsTree (frames_of after owner)
cut-trees is owner = grind arith

-- after a cut: each frame that is there was there, and its node stays open
module _ {nodes : Nodes} {trees after : Trees} {number : ℕ} {keep : Frame ℕ → Bool} (belong : AreFramesNodes nodes trees) (is : IsCut trees after number keep) where
  pub stays-after : (owner serial : ℕ) {frame : Frame ℕ} → IsAt after owner serial frame → Stays nodes trees number keep owner serial frame
  stays-after owner serial {frame} at = grind (arith, filter-found, rising, made)
    where
      rising : AreSerialsRising (frames_of trees number)
      rising = tree-rising (frames_of trees number) (is.tree number)

      made : IsAt trees owner serial frame → ((owner ≡ number) → keep frame ≡ true) → Stays nodes trees number keep owner serial frame
      made there stays =
          let not : Contains (closing trees number keep) frame.value → ⊥ = λ among. (
          let goes = listed-goes keep (frames_of trees number) frame.value rising among in
          let one = belong.once owner serial number goes.serial frame goes.frame there goes.there (sym goes.node_is) in grind (arith, goes, one)) in
          record { there = there; unlisted = not; node = kept nodes (closing trees number keep) frame.value not }

  -- frames and open nodes still belong to one another
  pub cut-belongs : AreFramesNodes (without nodes (closing trees number keep)) after
  cut-belongs = record {
    nodes_of_frames = belongs;
    once = λ owner serial other_owner other_serial frame other these those same.
        belong.once owner serial other_owner other_serial frame other (stays-after owner serial these).there (stays-after other_owner other_serial those).there same;
    no_other = no-other;
  }
    where
      numbers : List ℕ
      numbers = closing trees number keep

      belongs : (owner serial : ℕ) (frame : Frame ℕ) → IsAt after owner serial frame → IsFrameNode (without nodes numbers) (frames_of after owner) frame
      belongs owner serial frame at =
          let stays = stays-after owner serial at in
          let was = belong.nodes_of_frames owner serial frame stays.there in
          record {
            is_open = subst IsSome (sym stays.node) was.is_open;
            parent = grind (arith, above-kept);
          }

      was-open : (node : ℕ) → IsOpen (without nodes (closing trees number keep)) node → IsOpen nodes node
      was-open node open_still = grind (arith, still-none)

      no-other : (node : ℕ) → IsOpen (without nodes numbers) node → HasFrame after node
      no-other node open_still =
          let has = belong.no_other node (was-open node open_still) in
          elim (stays-or-closed is has.number has.serial has.frame has.there) [
            | inl there ↦ grind arith
            | inr among ↦ grind (arith, gone)
          ]

  -- a worker that holds a frame held it before
  pub cut-places : (places : List (Option FrameId)) → ArePlaces trees places → ArePlaces after places
  cut-places places held worker owner serial frame at holds =
      held worker owner serial frame (stays-after owner serial at).there holds

  -- after a cut each tenant's frames have the words that they had
  pub cut-words : (owner : ℕ) → with_words_of_nodes (without nodes (closing trees number keep)) (frames_of after owner) ≡ with_words_of_nodes nodes (frames_of after owner)
  cut-words owner =
      with_words_of_nodes-same nodes (without nodes (closing trees number keep)) (frames_of after owner)
      (found-each (λ frame. node_words (without nodes (closing trees number keep)) frame.value ≡ node_words nodes frame.value) (frames_of after owner) (tree-rising (frames_of after owner) (cut-trees is owner))
      (λ serial frame at. ap words_of_node (Stays.node (stays-after owner serial at))))

-- The nodes that a cut closes: each is open and stands there once, with all its children; what they took is what the frames were charged.

-- what frames are charged is what those that stay are, and what the nodes of the others take
module _ (nodes : Nodes) (keep : Frame ℕ → Bool) where
  took-cons : (node : ℕ) (numbers : List ℕ) → sum_by (λ n. charge_of (node_at nodes n)) (node ∷ numbers) ≡ charge_of (node_at nodes node) + sum_by (λ n. charge_of (node_at nodes n)) numbers
  took-cons node numbers = sum_by-cons (λ (n : ℕ). charge_of (node_at nodes n)) node numbers

  pub charged-cut : (frames : Frames) →
      charged_for (with_words_of_nodes nodes frames) ≡ charged_for (with_words_of_nodes nodes (filter keep frames)) + sum_by (λ n. charge_of (node_at nodes n)) (closed keep frames)
  charged-cut [] = refl
  charged-cut (x ∷ xs) =
      let first = map_value (node_words nodes) x in
      let whole = charged-cons first (with_words_of_nodes nodes xs) in
      elim (cases_Bool (keep x)) [
        | inl stays ↦ rw stays (omega (arith, whole, charged-cut xs, charged-cons first (with_words_of_nodes nodes (filter keep xs))))
        | inr out ↦ grind (arith, took-cons, charge-words, charged-cut xs)
      ]

-- no node is closed twice, where no two frames have one
later-found : (x : Frame ℕ) (xs : Frames) (s : ℕ) (f : Frame ℕ) → AllAboveSerial x.serial xs → frame_at xs s ≡ Some f → (x.serial ≢ s) × (frame_at (x ∷ xs) s ≡ Some f)
later-found x xs s f above at = grind (arith, found-there, above-missing)

closed-once : (keep : Frame ℕ → Bool) (frames : Frames) → AreSerialsRising frames →
    ((s t : ℕ) (f g : Frame ℕ) → frame_at frames s ≡ Some f → frame_at frames t ≡ Some g → f.value ≡ g.value → s ≡ t) → AllPairs ◌≢◌ (closed keep frames)
closed-once keep [] rising once = λ i j d low within. absurd (omega arith)
closed-once keep (x ∷ xs) rising once =
    let later = λ (s : ℕ) (f : Frame ℕ) (at : frame_at xs s ≡ Some f). later-found x xs s f rising.0 at in
    let rest = closed-once keep xs rising.1 (λ s t f g at_s at_t. once s t f g (later s f at_s).1 (later t g at_t).1) in
    let apart = closed-all (◌≢◌ x.value) keep xs rising.1
    (λ s f at out same. (later s f at).0 (once x.serial s x f (rw (eq-eqb x.serial x.serial refl) refl) (later s f at).1 same)) in
    elim (cases_Bool (keep x)) [
      | inl stays ↦ rw stays rest
      | inr out ↦ rw out (AllPairs-cons ◌≢◌ x.value (closed keep xs) apart rest)
    ]

-- a cut that takes the children of each frame that goes
abbrev pub TakesChildren : Frames → (Frame ℕ → Bool) → Type 0
TakesChildren frames keep = (serial parent : ℕ) (frame above : Frame ℕ) → frame_at frames serial ≡ Some frame → parent_of frame.path ≡ Some parent → frame_at frames parent ≡ Some above → keep above ≡ false → keep frame ≡ false

above-found : (frames : Frames) (parent : Option ℕ) (node : ℕ) → node_above frames parent ≡ Some node → (p : ℕ) × (f : Frame ℕ) × (parent ≡ Some p) × (frame_at frames p ≡ Some f) × (f.value ≡ node)
above-found frames None node is = absurd cc
above-found frames (Some p) node is = grind arith

-- a frame under the one of this serial, with this node
pub record HasUnder (frames : Frames) (serial node : ℕ) : Type 0 where
  pub at : ℕ
  pub frame : Frame ℕ
  pub there : frame_at frames at ≡ Some frame
  pub value : frame.value ≡ node
  pub under : parent_of frame.path ≡ Some serial

-- a node whose parent is a frame's is that of a frame under it
pub child-under : {nodes : Nodes} {trees : Trees} → AreFramesNodes nodes trees → (number serial child : ℕ) (above : Frame ℕ) → IsAt trees number serial above → node_parent nodes child ≡ Some above.value →
    HasUnder (frames_of trees number) serial child
child-under {nodes} {trees} belong number serial child above there up =
    let child_open : IsOpen nodes child = grind (arith, up) in
    let has = belong.no_other child child_open in
    let belongs = belong.nodes_of_frames has.number has.serial has.frame has.there in
    let found = above-found (frames_of trees has.number) (parent_of has.frame.path) above.value (sym belongs.parent ∙ ap (node_parent nodes) has.value ∙ up) in grind arith

-- nodes that can be closed: open, once, with their children
pub record AreClosable (nodes : Nodes) (numbers : List ℕ) : Type 0 where
  pub are_open : All (IsOpen nodes) numbers
  pub once : AllPairs ◌≢◌ numbers
  pub with_children : HasAllChildren nodes numbers

-- the nodes that a cut closes
module _ {nodes : Nodes} {trees : Trees} (number : ℕ) (keep : Frame ℕ → Bool) (belong : AreFramesNodes nodes trees)
    (tree : IsTree (frames_of trees number)) where
  -- no node is closed twice
  closing-once : AllPairs ◌≢◌ (closing trees number keep)
  closing-once =
      closed-once keep (frames_of trees number) (tree-rising (frames_of trees number) tree) (λ s t f g at_s at_t same. (belong.once number s number t f g at_s at_t same).1)

  -- each is open
  closing-open : All (IsOpen nodes) (closing trees number keep)
  closing-open =
      closed-all (IsOpen nodes) keep (frames_of trees number) (tree-rising (frames_of trees number) tree) (λ s f at out. (belong.nodes_of_frames number s f at).is_open)

  -- the children of each node are closed with it
  closing-children : TakesChildren (frames_of trees number) keep → HasAllChildren nodes (closing trees number keep)
  closing-children takes child parent up among =
      let goes = listed-goes keep (frames_of trees number) parent (tree-rising (frames_of trees number) tree) among in
      let c = child-under belong number goes.serial child goes.frame goes.there (up ∙ ap (λ (n : ℕ). Some n) (sym goes.node_is)) in
      subst (λ (v : ℕ). Contains (closing trees number keep) v) c.value
      (gone-listed keep (frames_of trees number) c.at c.frame c.there (takes c.at goes.serial c.frame goes.frame c.there c.under goes.there goes.out))

  -- so a cut that takes the children of each frame that goes closes such nodes
  pub cut-closes : (numbers : List ℕ) → TakesChildren (frames_of trees number) keep → closing trees number keep ≡ numbers → AreClosable nodes numbers
  cut-closes numbers takes same =
      subst (AreClosable nodes) same (record { are_open = closing-open; once = closing-once; with_children = closing-children takes })

  -- what is free after the cut is what was free and what the frames that go were charged
  pub cut-frees : total_charge (without nodes (closing trees number keep)) + charged_for (with_words_of_nodes nodes (frames_of trees number)) ≡ total_charge nodes + charged_for (with_words_of_nodes nodes (filter keep (frames_of trees number)))
  cut-frees = grind (arith, charged-cut, charge-without, closing-once)

pub length-without : (nodes : Nodes) (numbers : List ℕ) → length (without nodes numbers) ≡ length nodes
length-without nodes [] = refl
length-without nodes (number ∷ numbers) = length-without (with_node nodes number None) numbers ∙ length-set nodes number None

-- what the frames that go were charged is what was freed
module _ {parts : Parts} (number freed : ℕ) (keep : Frame ℕ → Bool) (stored : IsStored parts) {account : Account}
    (there : Owns parts number account)
    (frees : total_charge (without parts.nodes (closing parts.trees number keep)) + freed ≡ total_charge parts.nodes) where
  pub charge-left : account.charged ≡ freed + charged_for (with_words_of_nodes parts.nodes (filter keep (frames_of parts.trees number)))
  charge-left = grind (arith, cut-frees)

  -- so the tenant is charged as much
  pub can-give-back : HasChargedAtLeast parts.book number freed
  can-give-back =
      rw there (omega (arith, charge-left))

-- A frame without a child is removed, with its node and what it was charged.

-- the frames that stay
abbrev pub others_stay : ℕ → Frame ℕ → Bool
others_stay serial frame = not (eqb frame.serial serial)

-- none of the frames above goes
nothing-above : (serial : ℕ) (xs : Frames) → AllAboveSerial serial xs → closed (others_stay serial) xs ≡ []
nothing-above serial [] above = refl
nothing-above serial (x ∷ xs) above = grind (arith, nothing-above serial xs above.1, ne_eqb)

-- one node is closed: the frame's
pub closing-one : (serial : ℕ) (xs : Frames) (frame : Frame ℕ) → AreSerialsRising xs → frame_at xs serial ≡ Some frame → closed (others_stay serial) xs ≡ frame.value ∷ []
closing-one serial [] frame rising at = absurd cc
closing-one serial (x ∷ xs) frame rising at = grind (arith, eqb-true, nothing-above, closing-one serial xs frame)

module _ {parts : Parts} (stored : IsStored parts) (name : FrameId) where
  -- a frame without a child in the core has none in the table
  pub no-children : has_child (frames_in_core (shared_of parts) name.tenant) name.serial ≡ false → children_of (family parts name) name.serial ≡ []
  no-children none = grind (arith, frames-found, children_of-map_values, empty)
    where
      empty : (xs : Frames) → length (map_values (node_words parts.nodes) xs) ≤ 0 → xs ≡ []
      empty [] is = refl
      empty (x ∷ xs) is = absurd (omega arith)

  -- so no open node has its node as a parent
  leaf-node : (frame : Frame ℕ) → framed parts name ≡ Some frame → children_of (family parts name) name.serial ≡ [] → HasNoChild parts.nodes frame.value
  leaf-node frame at leaf child up =
      let F = family parts name in
      let c = child-under stored.frames_nodes name.tenant name.serial child frame at up in
      let is_child : is_child_of name.serial c.frame.path ≡ true = grind arith in
      let found = frame_at-stays (λ (f : Frame ℕ). is_child_of name.serial f.path) F c.at c.frame (tree-rising F (stored.forest name.tenant)) c.there is_child in grind (arith, children-by-paths)

  -- and it is open
  pub leaf-closes : (node : ℕ) → HasValue (framed parts name) node → children_of (family parts name) name.serial ≡ [] →
      IsOpen parts.nodes node × HasNoChild parts.nodes node
  leaf-closes node value leaf = by (framed parts name) refl value
    where
      by : (o : Option (Frame ℕ)) → framed parts name ≡ o → HasValue o node → IsOpen parts.nodes node × HasNoChild parts.nodes node
      by None at is = absurd is
      by (Some f) at is = rw (← is) ((stored.frames_nodes.nodes_of_frames name.tenant name.serial f at).is_open, leaf-node f at leaf)

  -- the node that a removal closes is that of the frame that goes
  pub leaf-gone : (nodes : Nodes) (node : ℕ) → HasValue (framed parts name) node → nodes ≡ with_node parts.nodes node None →
      without parts.nodes (closing parts.trees name.tenant (others_stay name.serial)) ≡ nodes
  leaf-gone nodes node value closed_one = grind (arith, closing-one, tree-rising)

-- An abort at a frame: the frames under it go, with their nodes and what they were charged.

-- no less is free, it is what the nodes of the frames that don't stay gave back, and the tenant was charged as much
pub record AreFreed (parts : Parts) (name : FrameId) (stay : Frame ℕ → Bool) (before later : ℕ) : Type 0 where
  pub more : before ≤ later
  pub few : later ≤ 65536
  pub frees : total_charge (without parts.nodes (closing parts.trees name.tenant stay)) + (later - before) ≡ total_charge parts.nodes
  pub charged : HasChargedAtLeast parts.book name.tenant (later - before)

pub nodes-free : {parts : Parts} {nodes : Nodes} (name : FrameId) (stay : Frame ℕ → Bool) (before later : ℕ) → IsStored parts → IsNamed parts name → without parts.nodes (closing parts.trees name.tenant stay) ≡ nodes →
    before + total_charge parts.nodes ≡ length parts.nodes → later + total_charge nodes ≡ length nodes → AreFreed parts name stay before later
nodes-free {parts} name stay before later stored some gone was_free is_free =
    let numbers = closing parts.trees name.tenant stay in
    let long = length-without parts.nodes numbers in
    let free : later + total_charge (without parts.nodes numbers) ≡ length (without parts.nodes numbers) = grind arith in
    let once = closing-once name.tenant stay stored.frames_nodes (stored.forest name.tenant) in
    let charge = charge-without parts.nodes numbers once in
    let more : before ≤ later = omega (arith, charge, long, was_free, free) in
    let frees : total_charge (without parts.nodes numbers) + (later - before) ≡ total_charge parts.nodes = omega (arith, charge, long, was_free, free) in
    let own = named-account stored name some in grind (arith, own, can-give-back)

-- what the table, the stack and the book told of frames that went
pub record AreGone (parts : Parts) (nodes : Nodes) (trees : Trees) (book : Reservations) (name : FrameId) (stay : Frame ℕ → Bool) (before later : ℕ) : Type 0 where
  pub some : IsNamed parts name
  pub gone : without parts.nodes (closing parts.trees name.tenant stay) ≡ nodes
  pub was_free : before + total_charge parts.nodes ≡ length parts.nodes
  pub is_free : later + total_charge nodes ≡ length nodes
  pub cut : IsCut parts.trees trees name.tenant stay
  pub keeps : KeepsOtherFrames parts.trees trees name.tenant
  pub credited : ChangesOnly parts.book book name.tenant (credited_by (later - before))
  pub sum : charged_segments book.accounts + (later - before) ≡ charged_segments parts.book.accounts
  pub sound : IsSoundBook book

-- the parts after it
abbrev pub with_parts : Parts → Nodes → Trees → Reservations → Parts
with_parts parts nodes trees book = record parts { nodes = nodes; trees = trees; book = book }

-- the core after it, where the tenant's frames with their words are changed so
abbrev with_frames : (List (Frame (List ℕ)) → List (Frame (List ℕ))) → Tenant → Tenant
with_frames change tenant = record tenant { frames = change tenant.frames }

-- one tenant changes by it, and no other
module _ {parts : Parts} {nodes : Nodes} {trees : Trees} {book : Reservations} (name : FrameId) (stay : Frame ℕ → Bool) (before later : ℕ) (stored : IsStored parts)
    (is : AreGone parts nodes trees book name stay before later) where
  -- the nodes that stay
  abbrev left : Nodes
  left = without parts.nodes (closing parts.trees name.tenant stay)

  freed : AreFreed parts name stay before later
  freed = grind (arith, nodes-free)

  -- each tenant's frames that stay have the words that they had
  words-kept : (owner : ℕ) → with_words_of_nodes left (frames_of trees owner) ≡ with_words_of_nodes parts.nodes (frames_of trees owner)
  words-kept owner = cut-words stored.frames_nodes is.cut owner

  own-words : with_words_of_nodes left (frames_of trees name.tenant) ≡ with_words_of_nodes parts.nodes (filter stay (family parts name))
  own-words = grind (arith, words-kept)

  removal-step : {account : Account} → Owns parts name.tenant account → TenantStep parts (with_parts parts left trees book) name.tenant (credited_by (later - before)) account
  removal-step there =
      let was = its-account stored name.tenant there in
      let words = ap charged_for own-words in
      record {
        there = there;
        sound = is.sound;
        book = is.credited.whole;
        trees = grind arith;
        count = is.keeps.count;
        tree = is.cut.tree_after;
        frames_nodes = cut-belongs stored.frames_nodes is.cut;
        segments = grind (arith, length-without);
        charges = omega (arith, freed.frees, is.sum, stored.charges);
        own = record {
          charged = omega (arith, charge-left name.tenant (later - before) stay stored there freed.frees, words);
          places = is.keeps.places name.tenant ∙ was.places;
          serials = grind (arith, AllBelow-filter);
        };
        words = grind (arith, words-kept);
        job_lists = refl;
        jobs = λ other differs. refl;
        places = cut-places stored.frames_nodes is.cut parts.places stored.places;
        newest = refl;
      }

  -- after frames have gone, the core is the one before with the tenant's frames changed so
  pub gone-step : (change : List (Frame (List ℕ)) → List (Frame (List ℕ))) → with_words_of_nodes parts.nodes (filter stay (family parts name)) ≡ change (tree_in parts name.tenant) →
      Stepped parts (with_parts parts nodes trees book) name.tenant (with_frames change)
  gone-step change words =
      subst (λ (n : Nodes). Stepped parts (with_parts parts n trees book) name.tenant (with_frames change)) is.gone
      (stepped (with_frames change) stored (removal-step (named-account stored name is.some).1) (rw (own-words, words) refl))

-- the frames that an abort leaves
abbrev pub stays : ℕ → Frame ℕ → Bool
stays serial frame = not (goes_under serial frame.path)

pub takes-under : (serial : ℕ) (frames : Frames) → IsTree frames → TakesChildren frames (stays serial)
takes-under p frames tree serial parent frame above at up at_above out = grind (arith, child-further-under)

module _ {parts : Parts} (stored : IsStored parts) (name : FrameId) where
  pub abort-closes : (numbers : List ℕ) → numbers ≡ values_of (frames_under name.serial (family parts name)) → AreClosable parts.nodes numbers
  abort-closes numbers is =
      cut-closes name.tenant (stays name.serial) stored.frames_nodes (stored.forest name.tenant) numbers (takes-under name.serial (family parts name) (stored.forest name.tenant)) grind arith

  -- as many go as are under the frame
  pub abort-count : (numbers : List ℕ) → numbers ≡ values_of (frames_under name.serial (family parts name)) →
      length numbers ≡ length (frames_under name.serial (frames_in_core (shared_of parts) name.tenant))
  abort-count numbers values = grind (arith, frames-found, frames_under-map_values, length-map)
