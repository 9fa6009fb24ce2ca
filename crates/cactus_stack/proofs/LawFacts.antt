-- The facts behind the cactus stack's laws, by induction: what a node sees, what nodes are charged, how many words a new
-- node has, and what the tree of nodes keeps.
use Rattle.cactus_stack.proofs.Common.{◌≡◌, ◌≢◌, ℕ, zero, suc, ◌+◌, ◌<◌, List, [], ◌∷◌, length, map, sum_by, AllPairs, Option, None, Some, Contains, get_or, refl, sym, ap, ◌∙◌, arith, get_or-set_other, IsSome, ◌-◌, ◌≤◌, min, take, drop, inl, inr, get_or-set_same, set, sum_by-cons, Node, Nodes, charge_of, total_charge, node_at, node_words, node_parent, IsSight, IsPath, with_node, without, parent_of_node, IsOpen, HasNoChild, HasAllChildren, with_node_words, get_or-take, length-take-le, cases_eq, place_at, IsUnder, IsForest, sight_within, IsWholeSight, Place, set-holds, replicate, length-append, length-replicate, padded}

none-at : (nodes : Nodes) (n : ℕ) → node_at (set nodes n None) n ≡ None
none-at [] n = refl
none-at (e ∷ nodes) zero = refl
none-at (e ∷ nodes) (suc n) = none-at nodes n

none-stays : (nodes : Nodes) (n m : ℕ) → node_at nodes m ≡ None → node_at (set nodes n None) m ≡ None
none-stays nodes n m none = set-holds (λ (e : Option Node). e ≡ None) nodes n m None None (λ e. refl) none

pub still-none : (nodes : Nodes) (numbers : List ℕ) (m : ℕ) → node_at nodes m ≡ None → node_at (without nodes numbers) m ≡ None
still-none nodes [] m none = none
still-none nodes (n ∷ numbers) m none = still-none (set nodes n None) numbers m (none-stays nodes n m none)

gone-at : (nodes : Nodes) (numbers : List ℕ) (n j : ℕ) → j < length numbers → get_or numbers j n ≡ n → node_at (without nodes numbers) n ≡ None
gone-at nodes [] n j h is = absurd (omega arith)
gone-at nodes (m ∷ numbers) n zero h is = still-none (set nodes m None) numbers n (rw is (none-at nodes n))
gone-at nodes (m ∷ numbers) n (suc j) h is = let below : j < length numbers = omega arith in gone-at (set nodes m None) numbers n j below is

pub gone : (nodes : Nodes) (numbers : List ℕ) (n : ℕ) → Contains numbers n → node_at (without nodes numbers) n ≡ None
gone nodes numbers n among = gone-at nodes numbers n among.0 among.1 among.2

pub kept : (nodes : Nodes) (numbers : List ℕ) (n : ℕ) → (Contains numbers n → ⊥) → node_at (without nodes numbers) n ≡ node_at nodes n
kept nodes [] n not = refl
kept nodes (m ∷ numbers) n not =
    kept (set nodes m None) numbers n (λ is. not (suc is.0, omega (arith, is.1), is.2))
    ∙ get_or-set_other nodes m n None None (λ e. not (0, omega arith, sym e))

module _ (nodes : Nodes) where
  pub one-sight : (node : Option ℕ) (these those : List (List ℕ)) → IsSight nodes node these → IsSight nodes node those → these ≡ those
  one-sight None [] [] p q = refl
  one-sight None [] (y ∷ those) p q = absurd q
  one-sight None (x ∷ these) those p q = absurd p
  one-sight (Some n) [] those p q = absurd p
  one-sight (Some n) (x ∷ these) [] p q = absurd q
  one-sight (Some n) (x ∷ these) (y ∷ those) p q =
      let first : x ≡ y = sym p.1 ∙ q.1 in
      let rest : these ≡ those = one-sight (node_parent nodes n) these those p.2 q.2 in
      rw (first, rest) refl

  pub path-sight : (node : Option ℕ) (numbers : List ℕ) → IsPath nodes node numbers → IsSight nodes node (map (node_words nodes) numbers)
  path-sight None [] path = tt
  path-sight None (m ∷ numbers) path = absurd path
  path-sight (Some n) [] path = absurd path
  path-sight (Some n) (m ∷ numbers) path = grind (arith, path-sight (node_parent nodes n) numbers path.2)

  pub beside-path : (node : Option ℕ) (numbers : List ℕ) (levels : List (List ℕ)) (other : ℕ) (entry : Option Node) → IsPath nodes node numbers → (Contains numbers other → ⊥) → IsSight nodes node levels → IsSight (with_node nodes other entry) node levels
  beside-path None numbers [] other entry path not sight = tt
  beside-path None numbers (x ∷ levels) other entry path not sight = absurd sight
  beside-path (Some n) [] levels other entry path not sight = absurd path
  beside-path (Some n) (m ∷ numbers) [] other entry path not sight = absurd sight
  beside-path (Some n) (m ∷ numbers) (x ∷ levels) other entry path not sight =
      let differs : n ≢ other = λ e. not (0, omega arith, path.0 ∙ e) in
      let same : node_at (set nodes other entry) n ≡ node_at nodes n = get_or-set_other nodes other n entry None differs in
      rw same (sight.0, sight.1, beside-path (node_parent nodes n) numbers levels other entry path.2 (λ is. not (suc is.0, omega (arith, is.1), is.2)) sight.2)

-- how many words a new node has
pub length-padded : (words : List ℕ) (size : ℕ) → length words ≤ size → length (padded words size) ≡ size
length-padded words size room = omega (arith, length-append words (replicate (size - length words) 0), length-replicate {A = ℕ} (size - length words) 0)

-- what is charged when nodes go

charge-without-one : (nodes : Nodes) (n : ℕ) → total_charge (set nodes n None) + charge_of (node_at nodes n) ≡ total_charge nodes
charge-without-one [] n = refl
charge-without-one (e ∷ nodes) zero = omega (arith, sum_by-cons charge_of e nodes, sum_by-cons charge_of None nodes)
charge-without-one (e ∷ nodes) (suc n) = omega (arith, sum_by-cons charge_of e nodes, sum_by-cons charge_of e (set nodes n None), charge-without-one nodes n)

sums-agree : (f g : ℕ → ℕ) (numbers : List ℕ) → ((n : ℕ) → Contains numbers n → f n ≡ g n) → sum_by f numbers ≡ sum_by g numbers
sums-agree f g [] same = refl
sums-agree f g (n ∷ numbers) same =
    let rest : sum_by f numbers ≡ sum_by g numbers = sums-agree f g numbers (λ m is. same m (suc is.0, omega (arith, is.1), is.2)) in
    let first : f n ≡ g n = same n (0, omega arith, refl) in
    omega (arith, sum_by-cons f n numbers, sum_by-cons g n numbers, first, rest)

pub charge-without : (nodes : Nodes) (numbers : List ℕ) → AllPairs ◌≢◌ numbers → total_charge (without nodes numbers) + sum_by (λ n. charge_of (node_at nodes n)) numbers ≡ total_charge nodes
charge-without nodes [] once = omega arith
charge-without nodes (n ∷ numbers) once =
    let rest_once : AllPairs ◌≢◌ numbers = λ i j d before within. once (suc i) (suc j) d (omega (arith, before)) (omega (arith, within)) in
    let rest = charge-without (set nodes n None) numbers rest_once in
    let apart : (m : ℕ) → Contains numbers m → m ≢ n = λ m is e. once 0 (suc is.0) m (omega arith) (omega (arith, is.1)) (sym e ∙ sym is.2) in
    let same = sums-agree (λ m. charge_of (node_at (set nodes n None) m)) (λ m. charge_of (node_at nodes m)) numbers (λ m is. ap charge_of (get_or-set_other nodes n m None None (apart m is))) in
    omega (arith, sum_by-cons (λ m. charge_of (node_at nodes m)) n numbers, charge-without-one nodes n, rest, same)

-- Lists of options: what is there under a number.

-- what is there is below the length
pub lt-of-some : {A : Type 0} (xs : List (Option A)) (n : ℕ) → IsSome (get_or xs n None) → n < length xs
lt-of-some [] n there = absurd (cc there)
lt-of-some (x ∷ xs) zero there = omega arith
lt-of-some (x ∷ xs) (suc n) there = let rest = lt-of-some xs n there in omega arith

-- What the tree of a stack keeps as nodes come, change and go; sights and depths.

-- the depth of a number
abbrev depth_at : List Place → ℕ → ℕ
depth_at places n = (place_at places n).depth

-- a parent is open
parent-open : (nodes : Nodes) (places : List Place) (parent : Option ℕ) (depth p : ℕ) → IsUnder nodes places parent depth → parent ≡ Some p → IsOpen nodes p
parent-open nodes places parent depth p h6 h7 = grind arith

module _ (nodes new : Nodes) (places others : List Place) where
  under-kept : (parent : Option ℕ) (depth : ℕ) → ((p : ℕ) → parent ≡ Some p → IsOpen new p × (depth_at others p ≡ depth_at places p)) → IsUnder nodes places parent depth → IsUnder new others parent depth
  under-kept parent depth h7 h8 = grind arith

  -- where each open node is as it was, but for its words, and so is its parent, the tree is one still
  tree-kept : IsForest nodes places → ((m : ℕ) → IsOpen new m → IsOpen nodes m × (node_parent new m ≡ node_parent nodes m) × (depth_at others m ≡ depth_at places m)) →
      ((m p : ℕ) → IsOpen new m → node_parent nodes m ≡ Some p → IsOpen nodes p → IsOpen new p) → IsForest new others
  tree-kept tree same parents m is_open = grind (arith, under-kept, parent-open)

module _ (nodes : Nodes) (places others : List Place) (depths : (m : ℕ) → depth_at others m ≡ depth_at places m) (tree : IsForest nodes places) where
  -- words that change
  pub tree-write : (n : ℕ) (words : List ℕ) → IsOpen nodes n → IsForest (with_node_words nodes n words) others
  tree-write n words is_open =
      let entry : Option Node = Some (record { parent = node_parent nodes n; words = words }) in
      let here : node_at (set nodes n entry) n ≡ entry = get_or-set_same nodes n entry None (lt-of-some nodes n is_open) in
      let there : (m : ℕ) → m ≢ n → node_at (set nodes n entry) m ≡ node_at nodes m = λ m other. get_or-set_other nodes n m entry None other in
      tree-kept nodes (with_node_words nodes n words) places others tree
      (λ m is. elim (cases_eq m n) [
        | inl e ↦ (rw e is_open, rw (e, here) refl, depths m)
        | inr other ↦ (rw (there m other) at is, ap parent_of_node (there m other), depths m)
      ])
      (λ m p is e was. elim (cases_eq p n) [ inl f ↦ rw (f, here) refl | inr other ↦ rw (there p other) was ])

  -- nodes that go with all their children
  pub tree-without : (numbers : List ℕ) → HasAllChildren nodes numbers → IsForest (without nodes numbers) others
  tree-without numbers children =
      let stays : (m : ℕ) → IsOpen (without nodes numbers) m → Contains numbers m → ⊥ = λ m is among. (let none : node_at (without nodes numbers) m ≡ None = gone nodes numbers m among in absurd (cc (is, none))) in
      let same : (m : ℕ) → IsOpen (without nodes numbers) m → node_at (without nodes numbers) m ≡ node_at nodes m = λ m is. kept nodes numbers m (stays m is) in
      tree-kept nodes (without nodes numbers) places others tree
      (λ m is. (rw (same m is) at is, ap parent_of_node (same m is), depths m))
      (λ m p is e was. rw (kept nodes numbers p (λ among. stays m is (children m p e among))) was)

-- one more node goes
pub without-more : (nodes : Nodes) (numbers : List ℕ) (i n : ℕ) → i < length numbers → n ≡ get_or numbers i n → without nodes (take (suc i) numbers) ≡ set (without nodes (take i numbers)) n None
without-more nodes [] i n h is = absurd (omega arith)
without-more nodes (m ∷ numbers) zero n h is = ap (λ (k : ℕ). set nodes k None) (sym is)
without-more nodes (m ∷ numbers) (suc i) n h is =
    let below : i < length numbers = omega arith in without-more (set nodes m None) numbers i n below is

-- it isn't among those before it
not-before : (numbers : List ℕ) (i n : ℕ) → AllPairs ◌≢◌ numbers → i < length numbers → n ≡ get_or numbers i n → Contains (take i numbers) n → ⊥
not-before numbers i n once h is among = grind (arith, length-take-le, get_or-take)

pub still-there : (nodes : Nodes) (numbers : List ℕ) (i n : ℕ) → AllPairs ◌≢◌ numbers → i < length numbers → n ≡ get_or numbers i n → IsOpen nodes n → IsOpen (without nodes (take i numbers)) n
still-there nodes numbers i n once h is there = grind (arith, kept, not-before)

only : (n k j : ℕ) → j < length (n ∷ []) → get_or (n ∷ []) j k ≡ k → k ≡ n
only n k j h1 h2 = grind arith

-- a node without a child is a list of nodes with all their children
pub alone : (nodes : Nodes) (n : ℕ) → HasNoChild nodes n → HasAllChildren nodes (n ∷ [])
alone nodes n no_child child parent is among = absurd (no_child child (is ∙ ap (λ (p : ℕ). Some p) (only n parent among.0 among.1 among.2)))

-- a node that comes
pub tree-open : (nodes : Nodes) (places : List Place) (n : ℕ) (words : List ℕ) (place : Place) → length places ≡ length nodes → n < length nodes → node_at nodes n ≡ None → IsForest nodes places → IsUnder nodes places place.parent place.depth →
    IsForest (with_node nodes n (Some (record { parent = place.parent; words = words }))) (set places n place)
tree-open nodes places n words place count below none tree under =
    let entry : Option Node = Some (record { parent = place.parent; words = words }) in
    let here : node_at (set nodes n entry) n ≡ entry = get_or-set_same nodes n entry None below in
    let at : place_at (set places n place) n ≡ place = get_or-set_same places n place _ (rw count below) in
    let opens : (p : ℕ) → IsOpen nodes p → IsOpen (set nodes n entry) p × (depth_at (set places n place) p ≡ depth_at places p) = λ p is. (
    let other : p ≢ n = λ e. (let gone : node_at nodes p ≡ None = rw e none in absurd (cc (gone, is))) in
    (rw (get_or-set_other nodes n p entry None other) is, ap (λ (a : Place). a.depth) (get_or-set_other places n p place _ other))) in
    λ m is. elim (cases_eq m n) [
      | inl e ↦ rw (e, here, at) (under-kept nodes (set nodes n entry) places (set places n place) place.parent place.depth (λ p f. opens p (parent-open nodes places place.parent place.depth p under f)) under)
      | inr other ↦
          (let there : node_at (set nodes n entry) m ≡ node_at nodes m = get_or-set_other nodes n m entry None other in
          let was : IsOpen nodes m = rw there at is in
          rw (there, (opens m was).1) (under-kept nodes (set nodes n entry) places (set places n place) (node_parent nodes m) (depth_at places m) (λ p f. opens p (parent-open nodes places (node_parent nodes m) (depth_at places m) p (tree m was) f)) (tree m was)))
    ]

-- sights

-- the sight of a parent, if there is one
module _ (nodes : Nodes) (places : List Place) where
  sight-above : (parent : Option ℕ) (levels : ℕ) → IsUnder nodes places parent (suc levels) →
      ((p : ℕ) → IsOpen nodes p → depth_at places p ≡ levels → IsWholeSight nodes p levels) →
      IsSight nodes parent (sight_within levels nodes parent) × (length (sight_within levels nodes parent) ≡ levels)
  sight-above parent levels h5 h6 = grind arith

  -- nothing is under a parent at depth 0
  no-depth : (parent : Option ℕ) → IsUnder nodes places parent 0 → ⊥
  no-depth parent h4 = grind arith

  pub sight-open : (n levels : ℕ) → IsForest nodes places → IsOpen nodes n → depth_at places n ≡ levels → IsWholeSight nodes n levels
  sight-open n zero tree is deep = absurd (no-depth (node_parent nodes n) (rw deep at (tree n is)))
  sight-open n (suc levels) tree is deep =
      let rest = sight-above (node_parent nodes n) levels (rw deep at (tree n is)) (λ p there at. sight-open p levels tree there at) in
      record {
        is_sight = (is, refl, rest.0);
        all_levels = ap suc rest.1;
      }

module _ (nodes : Nodes) where
  -- one level of a sight
  pub sight-level : (node : ℕ) (levels : List (List ℕ)) (i : ℕ) → i < length levels → IsSight nodes (Some node) (drop i levels) →
      IsOpen nodes node × (node_words nodes node ≡ get_or levels i []) × IsSight nodes (node_parent nodes node) (drop (suc i) levels)
  sight-level node [] i h sight = absurd (omega arith)
  sight-level node (words ∷ levels) zero h sight = sight
  sight-level node (words ∷ levels) (suc i) h sight =
      let below : i < length levels = omega arith in sight-level node levels i below sight

  pub no-sight : (levels : List (List ℕ)) (i : ℕ) → i < length levels → IsSight nodes None (drop i levels) → ⊥
  no-sight [] i h sight = absurd (omega arith)
  no-sight (words ∷ levels) zero h sight = sight
  no-sight (words ∷ levels) (suc i) h sight =
      let below : i < length levels = omega arith in no-sight levels i below sight

-- the same of a whole sight, which has so many levels
pub sight-step : {nodes : Nodes} {first count level i : ℕ} {levels : List (List ℕ)} (node : ℕ) → IsWholeSight nodes first count → sight_within count nodes (Some first) ≡ levels → level < count → i ≤ level →
    IsSight nodes (Some node) (drop i levels) → IsOpen nodes node × (node_words nodes node ≡ get_or levels i []) × IsSight nodes (node_parent nodes node) (drop (suc i) levels) × (length levels ≡ count)
sight-step {nodes = nodes} {i = i} {levels = levels} node whole view inside up sight =
    let long = sym (ap length view) ∙ whole.all_levels in
    let step = sight-level nodes node levels i (omega (arith, long, inside, up)) sight in
    (step.0, step.1, step.2, long)

-- no node is deeper than there are places: how many places are at most so deep
up_to : ℕ → List Place → ℕ
up_to depth [] = 0
up_to depth (place ∷ places) = min 1 (suc depth - place.depth) + up_to depth places

module _ (depth : ℕ) where
  up_to-le-length : (places : List Place) → up_to depth places ≤ length places
  unfolding up_to
  up_to-le-length [] = omega arith
  up_to-le-length (place ∷ places) = omega (arith, up_to-le-length places)

  up_to-rises : (places : List Place) → up_to depth places ≤ up_to (suc depth) places
  unfolding up_to
  up_to-rises [] = omega arith
  up_to-rises (place ∷ places) = omega (arith, up_to-rises places)

  up_to-more : (places : List Place) (n : ℕ) → n < length places → depth_at places n ≡ suc depth → up_to depth places + 1 ≤ up_to (suc depth) places
  unfolding up_to
  up_to-more [] n h is = absurd (omega arith)
  up_to-more (place ∷ places) zero h is = omega (arith, up_to-rises places)
  up_to-more (place ∷ places) (suc n) h is =
      omega (arith, up_to-more places n (omega arith) is)

-- the parent, if there is one, is one less deep
module _ (nodes : Nodes) (places : List Place) where
  reached-above : (parent : Option ℕ) (depth : ℕ) → IsUnder nodes places parent (suc depth) → ((p : ℕ) → IsOpen nodes p → depth_at places p ≡ depth → depth ≤ up_to depth places) → depth ≤ up_to depth places
  reached-above parent depth h5 h6 = grind arith

  -- one at a depth has one above it at each lesser depth
  reached : (n depth : ℕ) → length places ≡ length nodes → IsForest nodes places → IsOpen nodes n → depth_at places n ≡ depth → depth ≤ up_to depth places
  reached n zero count tree is deep = omega arith
  reached n (suc depth) count tree is deep =
      let below : n < length places = rw count (lt-of-some nodes n is) in
      let more = up_to-more depth places n below deep in
      omega (arith, more, reached-above (node_parent nodes n) depth (rw deep at (tree n is)) (λ p there at. reached p depth count tree there at))

  pub depth-le-length : (n : ℕ) → length places ≡ length nodes → IsForest nodes places → IsOpen nodes n → depth_at places n ≤ length places
  depth-le-length n count tree is =
      omega (arith, reached n (depth_at places n) count tree is refl, up_to-le-length (depth_at places n) places)
