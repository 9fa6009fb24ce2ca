-- A frame is opened in the core's store, with a node for its words and a charge to its tenant.
use Rattle.sched_store.proofs.Lookups.{◌≡◌, ◌≢◌, ℕ, ◌<◌, ◌≤◌, ◌+◌, ◌-◌, true, List, [], ◌∷◌, ◌++◌, length, Option, Some, None, refl, ap, sym, ◌∙◌, arith, inl, inr, ◌⊎◌, get_or-set_other, get_or-set_same, IfSome, Account, CoreState, map_value, Each, Tree, charged_for, Parts, with_words_of_nodes, shared_of, false≢true, frames_in_core, TenantHasLeft, length-set, charged_by, charged_segments, left_in, Reservations, ChangesOnly, IsSoundBook, frames_of, KeepsOtherFrames, places_of, IsStored, AreFramesNodes, frame_in_trees, node_of, node_above, Nodes, Node, node_at, node_words, words_of_node, with_node, IsOpen, IsUnused, padded, charge, charge_of, total_charge, opened, is_frame_size, sum_by-set, length-padded, Frame, frame_at, has_parent, parent_of, AllBelow, IsTree, new_frame, Frames, Trees, each-frame, tree_in, Owns, its-account, frames-found, IsAt, serials_in, tenant-found}
use Rattle.frame_table.proofs.TreeLaws.{found-there, below-found, frame_at-push, frame_at-other-push, frame_at-left, under-there, there-found}
use Rattle.frame_table.proofs.TreeValues.{tree-new_frame, parent_of-path_under, append-map_values, new_frame-map_values, has_frame-map_values}
use Rattle.sched_store.proofs.FrameSteps.{with_words_of_nodes-same, charged-cons}
use Rattle.sched_store.proofs.Steps.{TenantStep, Stepped, stepped, left-account}

-- what is opened: the tenant's next serial, under a parent, with these words
pub record OpensFrame (old : Parts) (nodes : Nodes) (trees : Trees) (book : Reservations) (number : ℕ) (parent : Option ℕ) (above : Option ℕ) (words : List ℕ) (size home node : ℕ) (account : Account) : Type 0 where
  pub there : Owns old number account
  pub parent_there : has_parent (frames_of old.trees number) parent ≡ true
  pub above_is : above ≡ node_above (frames_of old.trees number) parent
  pub room : length words ≤ size
  pub unused : IsUnused old.nodes node
  pub nodes_is : nodes ≡ with_node old.nodes node (Some (record { parent = above; words = padded words size }))
  pub frames : frames_of trees number ≡ frames_of old.trees number ++ new_frame (frames_of old.trees number) (account.opened + 1) parent home node ∷ []
  pub kept : KeepsOtherFrames old.trees trees number
  pub sound : IsSoundBook book
  pub changes : ChangesOnly old.book book number (charged_by (charge size) 1)
  pub sum : charged_segments book.accounts ≡ charged_segments old.book.accounts + charge size

-- the nodes after one was opened
module _ (nodes : Nodes) (n : ℕ) where
  opened-here : (entry : Node) → n < length nodes → node_at (with_node nodes n (Some entry)) n ≡ Some entry
  opened-here entry within = grind (arith, get_or-set_same)

  opened-other : (m : ℕ) (entry : Node) → m ≢ n → node_at (with_node nodes n (Some entry)) m ≡ node_at nodes m
  opened-other m entry differs = grind (arith, get_or-set_other)

  open-not-unused : (m : ℕ) → IsUnused nodes n → IsOpen nodes m → m ≢ n
  open-not-unused m unused is same = grind arith

-- the frames after one was added: either it is the new one, or it was there
module _ (old new : Trees) (added : Frame ℕ) (number : ℕ) (frames : frames_of new number ≡ frames_of old number ++ added ∷ []) where
  added-cases : KeepsOtherFrames old new number → AllBelow added.serial (frames_of old number) → (m s : ℕ) →
      ((m ≡ number) × (s ≡ added.serial)) ⊎ (frame_in_trees new m s ≡ frame_in_trees old m s)
  added-cases kept above m s = grind (arith, frame_at-other-push)

  added-here : AllBelow added.serial (frames_of old number) → IsAt new number added.serial added
  added-here above = grind (arith, frame_at-push)

above-kept : (frames others : Frames) (parent : Option ℕ) → has_parent frames parent ≡ true → node_above (frames ++ others) parent ≡ node_above frames parent
above-kept frames others None there = refl
above-kept frames others (Some p) there = grind (arith, frame_at-left)

above-there : (frames : Frames) (serial : ℕ) (frame : Frame ℕ) → IsTree frames → frame_at frames serial ≡ Some frame → has_parent frames (parent_of frame.path) ≡ true
above-there frames serial frame tree there = grind (arith, under-there)

below-push : (low high : ℕ) (frames : Frames) (frame : Frame ℕ) → low ≤ high → frame.serial < high → AllBelow low frames → AllBelow high (frames ++ frame ∷ [])
below-push low high [] frame le lt below = (lt, tt)
below-push low high (first ∷ frames) frame le lt below = grind (arith, below-push low high frames frame le lt below.1)

charged-push : (frames : Tree) (frame : Frame (List ℕ)) → charged_for (frames ++ frame ∷ []) ≡ charged_for frames + charge (length frame.value)
charged-push [] frame = charged-cons frame [] ∙ omega arith
charged-push (first ∷ frames) frame = grind (arith, charged-cons, charged-push frames frame)

-- the new node is no other frame's
unused-apart : (nodes : Nodes) {o : Option (Frame ℕ)} {added : Frame ℕ} (frame other : Frame ℕ) → o ≡ Some added → o ≡ Some frame → other.value ≡ frame.value → IsOpen nodes other.value → IsUnused nodes added.value → ⊥
unused-apart nodes frame other new one same is_open unused = grind arith

abbrev added_to : Parts → ℕ → Option ℕ → ℕ → ℕ → Account → Frame ℕ
added_to old number parent home node account = new_frame (frames_of old.trees number) (account.opened + 1) parent home node

abbrev pub Opened : Parts → Nodes → Trees → Reservations → ℕ → Option ℕ → List ℕ → ℕ → ℕ → Type 0
Opened old nodes trees book number parent words size home = Stepped old (record old { nodes = nodes; trees = trees; book = book }) number (opened parent words size home)

-- what a store keeps true is true after a frame was opened
module _ (old : Parts) (nodes : Nodes) (trees : Trees) (book : Reservations) (number : ℕ) (parent above : Option ℕ) (words : List ℕ)
    (size home node : ℕ) (account : Account) (stored : IsStored old)
    (opens : OpensFrame old nodes trees book number parent above words size home node account) where
  opened-nodes : AreFramesNodes nodes trees
  opened-nodes =
      let frames = frames_of old.trees number in
      let added = added_to old number parent home node account in
      let entry : Node = record { parent = above; words = padded words size } in
      let below = (its-account stored number opens.there).serials in
      let here = opened-here old.nodes node entry opens.unused.0 in
      let cases = added-cases old.trees trees added number opens.frames opens.kept below in
      let new_is = added-here old.trees trees added number opens.frames below in
      rw opens.nodes_is (record {
        nodes_of_frames = λ m s frame is. elim (cases m s) [
          | inl (same, at) ↦ grind (arith, above-kept, parent_of-path_under)
          | inr was ↦
              (let at = sym was ∙ is in
              let own = stored.frames_nodes.nodes_of_frames m s frame at in
              let differs = open-not-unused old.nodes node frame.value opens.unused own.is_open in
              let above_m = above-there (frames_of old.trees m) s frame (stored.forest m) at in
              record {
                is_open = grind (arith, opened-other);
                parent = grind (arith, opened-other, above-kept);
              })
        ];
        once = λ m s other_m other_s f g one two same. elim (cases m s) [
          | inl here ↦ elim (cases other_m other_s) [
            | inl there ↦ grind arith
            | inr was ↦ absurd (unused-apart old.nodes f g new_is (rw (← here.0, ← here.1) one) (sym same) (stored.frames_nodes.nodes_of_frames other_m other_s g (sym was ∙ two)).is_open opens.unused)
          ]
          | inr was ↦ elim (cases other_m other_s) [
            | inl there ↦ absurd (unused-apart old.nodes g f new_is (rw (← there.0, ← there.1) two) same (stored.frames_nodes.nodes_of_frames m s f (sym was ∙ one)).is_open opens.unused)
            | inr other_was ↦ grind arith
          ]
        ];
        no_other = λ n is. grind (arith, opened-other, below-found, found-there);
      })

  -- no frame that was there has the new node
  opened-others : (m : ℕ) → with_words_of_nodes nodes (frames_of old.trees m) ≡ tree_in old m
  opened-others m =
      let entry : Node = record { parent = above; words = padded words size } in
      with_words_of_nodes-same old.nodes nodes (frames_of old.trees m) (each-frame stored m (λ x. node_words nodes x.value ≡ node_words old.nodes x.value)
      (λ s x at.
      let own = stored.frames_nodes.nodes_of_frames m s x at in
      ap (λ (ns : Nodes). node_words ns x.value) opens.nodes_is ∙ ap words_of_node (opened-other old.nodes node x.value entry (open-not-unused old.nodes node x.value opens.unused own.is_open))))

  opened-frames : with_words_of_nodes nodes (frames_of trees number) ≡ tree_in old number ++ new_frame (tree_in old number) (account.opened + 1) parent home (padded words size) ∷ []
  opened-frames =
      let frames = frames_of old.trees number in
      let added = added_to old number parent home node account in
      let own : node_words nodes node ≡ padded words size = grind (arith, opened-here) in
      let new : map_value (node_words nodes) added ≡ new_frame (tree_in old number) (account.opened + 1) parent home (padded words size) =
      sym (new_frame-map_values (node_words nodes) frames (account.opened + 1) parent home node) ∙ (λ i. new_frame (opened-others number i) (account.opened + 1) parent home (own i)) in grind (arith, append-map_values, opened-others)

  pub open-step : Opened old nodes trees book number parent words size home
  open-step =
      let frames = frames_of old.trees number in
      let added = added_to old number parent home node account in
      let account_is = its-account stored number opens.there in
      let len = length-padded words size opens.room in
      let total : total_charge nodes + charge_of (node_at old.nodes node) ≡ total_charge old.nodes + charge (length (padded words size)) = grind (arith, sum_by-set) in
      let none : charge_of (node_at old.nodes node) ≡ 0 = ap charge_of opens.unused.1 in
      let size_is : charge (length (padded words size)) ≡ charge size = ap charge len in
      let own_frames = opened-frames in
      let pushed = charged-push (with_words_of_nodes old.nodes frames) (new_frame (with_words_of_nodes old.nodes frames) (account.opened + 1) parent home (padded words size)) in
      let step : TenantStep old (record old { nodes = nodes; trees = trees; book = book }) number (charged_by (charge size) 1) account = record {
        there = opens.there;
        sound = opens.sound;
        book = opens.changes.whole;
        trees = grind arith;
        count = opens.kept.count;
        tree = grind (arith, tree-new_frame);
        frames_nodes = opened-nodes;
        segments = grind (arith, length-set);
        charges = omega (arith, total, none, size_is, stored.charges, opens.sum);
        own = record {
          charged = grind arith;
          places = opens.kept.places number ∙ account_is.places;
          serials = grind (arith, below-push);
        };
        words = λ other differs. opened-others other;
        job_lists = refl;
        jobs = λ other differs. refl;
        places = λ worker m s frame is held. elim (added-cases old.trees trees added number opens.frames opens.kept account_is.serials m s) [
          | inl (same, at) ↦ absurd (
              let now : IsAt trees number added.serial frame = rw (← same, ← at) is in
              let e : added ≡ frame = cc (added-here old.trees trees added number opens.frames account_is.serials, now) in
              false≢true (rw (← e) at held))
          | inr was ↦ stored.places worker m s frame (sym was ∙ is) held
        ];
        newest = refl;
      } in
      stepped (opened parent words size home) stored step (rw own_frames refl)

-- What an opening asks of the parts of a store.

-- the serials that were given are the nodes that were opened
pub serials-found : (parts : Parts) (number : ℕ) (account : Account) → Owns parts number account → serials_in (shared_of parts) number ≡ account.opened
serials-found parts number account there = rw (tenant-found parts number, there) refl

frames-few : (nodes : Nodes) (frames : Frames) → Each (λ frame. 1 ≤ length (node_words nodes frame.value)) frames → length frames ≤ charged_for (with_words_of_nodes nodes frames)
frames-few nodes [] all = omega arith
frames-few nodes (frame ∷ frames) all =
    let some : 1 ≤ charge (length (node_words nodes frame.value)) = grind arith in
    omega (arith, some, charged-cons (map_value (node_words nodes) frame) (with_words_of_nodes nodes frames), frames-few nodes frames all.1)

module _ {parts : Parts} (stored : IsStored parts) (number : ℕ) where
  -- the account of a tenant that has left what an opening takes
  pub left-for : (size : ℕ) {core : CoreState} → shared_of parts ≡ core → TenantHasLeft core number (charge size) 1 →
      (a : Account) × ((Owns parts number a) × ((charge size ≤ (left_in a).segments) × (1 ≤ (left_in a).nodes)))
  left-for size is left = grind (arith, left-account)

  -- a parent among frames with words is one of the table's
  pub parent-found : (parent : Option ℕ) → has_parent (frames_in_core (shared_of parts) number) parent ≡ true → has_parent (frames_of parts.trees number) parent ≡ true
  parent-found None there = refl
  parent-found (Some p) there = grind (arith, has_frame-map_values, frames-found)

  pub parent-open : (parent above : Option ℕ) → has_parent (frames_of parts.trees number) parent ≡ true → above ≡ node_above (frames_of parts.trees number) parent → IfSome above (IsOpen parts.nodes)
  parent-open None above there is = rw is tt
  parent-open (Some p) above there is =
      let f = there-found (frames_of parts.trees number) p there in
      rw (is ∙ ap node_of f.1) (stored.frames_nodes.nodes_of_frames number p f.0 f.1).is_open

  -- there are no more frames than segments that they are charged

  pub place-left : (size : ℕ) {account : Account} → ((node : ℕ) → IsOpen parts.nodes node → 1 ≤ length (node_words parts.nodes node)) → Owns parts number account → 1 ≤ size → charge size ≤ (left_in account).segments → length (frames_of parts.trees number) < places_of parts.trees number
  place-left size {account} sized there some enough =
      let is = its-account stored number there in
      let frames = frames_of parts.trees number in
      let few = frames-few parts.nodes frames (each-frame stored number (λ x. 1 ≤ length (node_words parts.nodes x.value))
      (λ s x at. sized x.value (stored.frames_nodes.nodes_of_frames number s x at).is_open)) in
      let one : 1 ≤ charge size = omega arith in
      let left : charge size ≤ account.reserve.segments - account.charged = enough in
      omega (arith, few, one, left, is.charged, is.places)

-- a size that is a frame's

pub size-some : (words : List ℕ) (size : ℕ) → is_frame_size words size ≡ true → (1 ≤ size) × ((size ≤ 128) × (length words ≤ size))
size-some words size is = grind arith
