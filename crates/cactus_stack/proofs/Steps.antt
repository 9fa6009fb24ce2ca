-- One place of the cactus stack's list of nodes changes, and all others stay: what follows for the nodes that the list
-- stands for.
use Rattle.cactus_stack.proofs.Common.{◌≡◌, ◌≢◌, ℕ, zero, suc, ◌+◌, ◌<◌, List, [], ◌∷◌, length, sum_by, Option, None, Some, get_or, refl, sym, ap, ◌∙◌, arith, inl, inr, get_or-set_other, get_or-set_same, ◌-◌, ◌*◌, ◌/◌, ◌%◌, ◌≤◌, ◌++◌, take, drop, replicate, set, length-set, ext_get_or, append_assoc, take-append-drop, take-replicate, drop-replicate, replicate-append-replicate, drop-set-lt, length-replicate, get_or_default, set-get_or, sum_by-set, sum_by-cons, cases_eq, Segments, taken_count, Segment, words_at, link_at, IsTaken, IsFree, with_segment_words, Node, Nodes, charge, node_at, total_charge, charge_of, padded, node_words, IsOpen, IsUnused, HasAllChildren, free_segments, with_node, with_node_words, without, AreApart, AgreesOn, chain, content, AllBlocks, AllFree, IsFreshChain, IsGrownChain, IsGivenBack, node_in, nodes_from, nowhere, place_at, len_at, charge_of_place, segments_of, IsSoundList, AreStored, resized, with_len, set-keeps, get_or-blanks, words_in_chain, IsUnder, IsForest, IsStack, IsWholeSight, Place, take-append-add, drop-append-add, take-set-lt, sum_by-replicate, taken_count-write, taken_count-replicate}
use Rattle.cactus_stack.proofs.Content.{apart-sym, chain-agrees, content-agrees, blocks-agrees, charge_of-node_in, apart-append, apart-get_or, agrees-apart, agrees-taken, agrees-set, apart-free, content-write, chain-write, blocks-write, blocks-get_or, charge-some, charge-room, charge-below, length-words_in, len-of-node, node_in-some, place-of-sound}
use Rattle.cactus_stack.proofs.LawFacts.{tree-write, tree-open, tree-without, depth-le-length, sight-open}

-- the node of a number, given its place
abbrev pub node_of : Segments → ℕ → Place → Option Node
node_of region n place = node_in region n place.len place.parent

module _ (region : Segments) where
  pub length-nodes_from : (n : ℕ) (places : List Place) → length (nodes_from region n places) ≡ length places
  length-nodes_from n [] = refl
  length-nodes_from n (place ∷ places) = ap suc (length-nodes_from (suc n) places)

  get_or-nodes_from : (n i : ℕ) (places : List Place) → get_or (nodes_from region n places) i None ≡ node_of region (n + i) (place_at places i)
  get_or-nodes_from n i [] = refl
  get_or-nodes_from n zero (place ∷ places) = let same : n + 0 ≡ n = omega arith in rw same refl
  get_or-nodes_from n (suc i) (place ∷ places) =
      let same : suc n + i ≡ n + suc i = omega arith in
      get_or-nodes_from (suc n) i places ∙ ap (λ (k : ℕ). node_of region k (place_at places i)) same

  -- from the first number on
  pub node_at-nodes_from : (i : ℕ) (places : List Place) → node_at (nodes_from region 0 places) i ≡ node_of region i (place_at places i)
  node_at-nodes_from i places = grind (arith, get_or-nodes_from)

  charges-from : (n : ℕ) (places : List Place) → ((i : ℕ) → IsSoundList region (n + i) (len_at places i)) → total_charge (nodes_from region n places) ≡ sum_by charge_of_place places
  charges-from n [] sound = refl
  charges-from n (place ∷ places) sound =
      let here : n + 0 ≡ n = omega arith in
      let first : IsSoundList region n place.len = rw here at (sound 0) in
      let next : (i : ℕ) → IsSoundList region (suc n + i) (len_at places i) = λ i. (let same : n + suc i ≡ suc n + i = omega arith in rw same at (sound (suc i))) in
      rw (sum_by-cons charge_of (node_of region n place) (nodes_from region (suc n) places), sum_by-cons charge_of_place place places)
      (omega (arith, charge_of-node_in region n place.len place.parent first, charges-from (suc n) places next))

-- all that is charged is taken, and there are as many places as segments
pub all-taken : (region : Segments) (places : List Place) (nodes : Nodes) → AreStored region places → nodes_from region 0 places ≡ nodes → (total_charge nodes ≡ taken_count region) × (length nodes ≡ length region)
all-taken region places nodes stored view = grind (arith, charges-from, length-nodes_from)

module _ (old new : Segments) (n len : ℕ) where
  node_in-agrees : (parent : Option ℕ) → AgreesOn old new (segments_of old n len) → node_in new n len parent ≡ node_in old n len parent
  node_in-agrees parent h6 = grind (arith, chain-agrees, content-agrees)

  sound-agrees : AgreesOn old new (segments_of old n len) → IsSoundList old n len → IsSoundList new n len
  sound-agrees agrees sound = grind (arith, chain-agrees, blocks-agrees, content-agrees)

-- what a change of one place owes
pub record IsChange (old new : Segments) (places : List Place) (n : ℕ) (place : Place) : Type 0 where
  pub within : n < length places
  pub same_count : length new ≡ length old
  pub counted : taken_count new + charge (len_at places n) ≡ taken_count old + charge place.len
  pub agrees : (m : ℕ) → m ≢ n → AgreesOn old new (segments_of old m (len_at places m))
  pub is_sound : IsSoundList new n place.len
  pub is_apart : (m : ℕ) → m ≢ n → AreApart (segments_of old m (len_at places m)) (segments_of new n place.len)

module _ {old new : Segments} {places : List Place} {n : ℕ} {place : Place} (change : IsChange old new places n place) where
  pub changed : nodes_from new 0 (set places n place) ≡ set (nodes_from old 0 places) n (node_of new n place)
  changed =
      let before : Nodes = nodes_from old 0 places in
      let inside : n < length before = rw length-nodes_from change.within in
      ext_get_or None (nodes_from new 0 (set places n place)) (set before n (node_of new n place))
      (length-nodes_from new 0 (set places n place) ∙ length-set places n place ∙ sym (length-set before n (node_of new n place) ∙ length-nodes_from old 0 places))
      (λ i _. node_at-nodes_from new i (set places n place) ∙ elim (cases_eq i n) [
        | inl same ↦ rw (same, get_or-set_same places n place nowhere change.within, get_or-set_same before n (node_of new n place) None inside) refl
        | inr other ↦ rw (get_or-set_other places n i place nowhere other, get_or-set_other before n i (node_of new n place) None other)
            (node_in-agrees old new i (len_at places i) (place_at places i).parent (change.agrees i other) ∙ sym (node_at-nodes_from old i places))
      ])

  pub still-stored : AreStored old places → AreStored new (set places n place)
  still-stored stored =
      let same : (m : ℕ) → m ≢ n → segments_of new m (len_at places m) ≡ segments_of old m (len_at places m) = λ m other. chain-agrees (charge (len_at places m)) old new (Some m) (change.agrees m other) in
      let here : len_at (set places n place) n ≡ place.len = ap (λ (p : Place). p.len) (get_or-set_same places n place nowhere change.within) in
      let there : (m : ℕ) → m ≢ n → len_at (set places n place) m ≡ len_at places m = λ m other. ap (λ (p : Place). p.len) (get_or-set_other places n m place nowhere other) in
      let beside : (m : ℕ) → m ≢ n → AreApart (segments_of new m (len_at (set places n place) m)) (segments_of new n place.len) = λ m other. rw (there m other, same m other) (change.is_apart m other) in
      record {
        in_limits = rw length-set stored.in_limits;
        same_count = omega (arith, length-set places n place, stored.same_count, change.same_count);
        counted = omega (arith, sum_by-set charge_of_place places n place nowhere change.within, stored.counted, change.counted);
        sound = λ m. grind (arith, sound-agrees);
        apart = λ m k different. grind (arith, apart-sym, set);
      }

-- What each call does to the places.

lt-of-len : (places : List Place) (n : ℕ) → 0 < len_at places n → n < length places
lt-of-len [] n some = absurd (omega arith)
lt-of-len (place ∷ places) zero some = omega arith
lt-of-len (place ∷ places) (suc n) some = let rest = lt-of-len places n some in omega arith

-- what is known of a node that is open
pub record IsKept (region : Segments) (places : List Place) (nodes : Nodes) (n : ℕ) : Type 0 where
  pub some : 0 < len_at places n
  pub within : n < length places
  pub entry : node_at nodes n ≡ Some (record { parent = (place_at places n).parent; words = words_in_chain region n (len_at places n) })
  pub words : node_words nodes n ≡ words_in_chain region n (len_at places n)
  pub len : length (node_words nodes n) ≡ len_at places n
  pub sound : IsSoundList region n (len_at places n)

-- the same where its place was read at the node's first segment
pub record IsRead (region : Segments) (places : List Place) (nodes : Nodes) (n at : ℕ) (place : Place) : Type 0 where
  pub it : IsKept region places nodes n
  pub at_node : at ≡ n
  pub is : place ≡ place_at places n
  pub some : 0 < place.len
  pub len : place.len ≡ length (node_words nodes n)

module _ {region : Segments} {places : List Place} {nodes : Nodes} (stored : AreStored region places) (view : nodes_from region 0 places ≡ nodes) where
  pub kept-node : (n : ℕ) → IsOpen nodes n → IsKept region places nodes n
  kept-node n is_open = grind (arith, node_at-nodes_from, len-of-node, node_in-some, lt-of-len, length-words_in)

  pub is-read : {n first at : ℕ} {place : Place} → IsOpen nodes n → at ≡ first → first ≡ n → place ≡ get_or places at place → IsRead region places nodes n at place
  is-read {n = n} {place = place} is_open at_first first_is read =
      let it = kept-node n is_open in
      let is : place ≡ place_at places n = (rw (at_first ∙ first_is) at read) ∙ get_or_default places n place nowhere it.within in
      record { it = it; at_node = at_first ∙ first_is; is = is; some = rw is it.some; len = ap (λ (p : Place). p.len) is ∙ sym it.len }

  -- what is free is what no node is charged
  pub free-is : {free : ℕ} → free + taken_count region ≡ length region → free ≡ free_segments nodes
  free-is counted = grind (arith, all-taken)

-- the node of a place that is changed to these words
changed-to : {old new : Segments} {places : List Place} {n : ℕ} {place : Place} {nodes : Nodes} (words : List ℕ) → IsChange old new places n place → 0 < place.len → words_in_chain new n place.len ≡ words → nodes_from old 0 places ≡ nodes →
    nodes_from new 0 (set places n place) ≡ with_node nodes n (Some (record { parent = place.parent; words = words }))
changed-to {new = new} {n = n} {place = place} {nodes = nodes} words change some is view =
    changed change ∙ rw view (ap (λ (entry : Option Node). set nodes n entry) (node_in-some new n place.len place.parent some ∙ ap (λ (ws : List ℕ). Some (record { parent = place.parent; words = ws })) is))

pub depths-stay : (places : List Place) (n len m : ℕ) → (place_at (with_len places n len) m).depth ≡ (place_at places m).depth
depths-stay places n len m = set-keeps (λ (p : Place). p.depth) places n m (resized (place_at places n) len) nowhere refl

-- a list that ends in zeros, cut within them
cut-zeros : (content words : List ℕ) (zeros more : ℕ) → content ≡ words ++ replicate zeros 0 → more ≤ zeros →
    (take (length words + more) content ≡ words ++ replicate more 0) × (drop (length words + more) content ≡ replicate (zeros - more) 0)
cut-zeros content words zeros more is h = grind (arith, take-append-add, take-replicate, drop-append-add, drop-replicate)

apart-nil : (xs : List ℕ) → AreApart xs []
apart-nil xs = apart-sym [] xs tt

head-taken : (region : Segments) (n count : ℕ) → 0 < count → AllBlocks region (chain count region (Some n)) → IsTaken region n
head-taken region n count h4 h5 = grind arith

head-free : (old new : Segments) (n count : ℕ) → 0 < count → AllFree old (chain count new (Some n)) → IsFree old n
head-free old new n count h5 h6 = grind arith

unused : (region : Segments) (n len : ℕ) → IsSoundList region n len → IsFree region n → len ≡ 0
unused region n len h4 h5 = grind (arith, head-taken, charge-some)

module _ {region : Segments} {places : List Place} (stored : AreStored region places) where
  -- the segments of the node of a number
  abbrev segments_at : ℕ → List ℕ
  segments_at m = segments_of region m (len_at places m)

  -- a store

  pub store-change : {n at s : ℕ} (word : ℕ) → at < len_at places n → s ≡ get_or (segments_at n) (at / 16) 0 →
      IsChange region (with_segment_words region s (set (words_at region s) (at % 16) word)) places n (place_at places n)
      × (words_in_chain (with_segment_words region s (set (words_at region s) (at % 16) word)) n (len_at places n) ≡ set (words_in_chain region n (len_at places n)) at word)
  store-change {n = n} {at = at} {s = s} word below is =
      let len : ℕ = len_at places n in
      let xs : List ℕ = segments_of region n len in
      let own : IsSoundList region n len = stored.sound n in
      let block : at / 16 < length xs = omega (arith, own.is_chain.whole, charge-below at len below) in
      let place = blocks-get_or region xs (at / 16) own.is_chain.blocks block in
      let taken : IsTaken region s = rw is place.0 in
      let words : List ℕ = set (words_at region s) (at % 16) word in
      let sixteen : length words ≡ 16 = length-set (words_at region s) (at % 16) word ∙ rw is place.1 in
      let new : Segments = with_segment_words region s words in
      let same : (m k : ℕ) → segments_of new m k ≡ segments_of region m k = λ m k. chain-write (charge k) region (Some m) s words in
      let split : 16 * (at / 16) + at % 16 ≡ at = omega arith in
      let written : content new xs ≡ set (content region xs) at word = rw is (rw split at (content-write region xs (at / 16) (at % 16) word own.is_chain.blocks own.is_chain.once block (omega arith))) in
      let entry : Option Segment = Some (record { words = words; link = link_at region s }) in (
        record {
          within = lt-of-len places n (omega (arith, below));
          same_count = length-set region s entry;
          counted = omega (arith, taken_count-write region s (record { words = words; link = link_at region s }) taken);
          agrees = λ m other. agrees-set region s entry (segments_at m) (rw is (apart-get_or (segments_at m) xs (at / 16) (stored.apart m n other) block));
          is_sound = grind (arith, blocks-write, drop-set-lt);
          is_apart = λ m other. rw (same n len) (stored.apart m n other);
        },
        rw (same n len, written) (take-set-lt len (content region xs) at word below),
      )

  -- a close

  pub close-change : {new : Segments} {n : ℕ} → 0 < len_at places n → IsGivenBack region new (segments_at n) → IsChange region new places n (resized (place_at places n) 0)
  close-change {new = new} {n = n} some given =
      let own : IsSoundList region n (len_at places n) = stored.sound n in
      record {
        within = lt-of-len places n some;
        same_count = given.same_count;
        counted = omega (arith, given.counted, own.is_chain.whole);
        agrees = λ m other. agrees-apart region new (segments_at n) (segments_at m) (λ s taken lacks. given.kept s lacks) (stored.sound m).is_chain.blocks (stored.apart m n other);
        is_sound = record { at_most = omega arith; is_chain = record { blocks = tt; whole = refl; once = tt }; zeros = refl };
        is_apart = λ m other. apart-nil (segments_at m);
      }

  -- a node that is made longer

  pub grow-change : {new : Segments} {n : ℕ} (more added : ℕ) → 0 < len_at places n → len_at places n + more ≤ 128 → charge (len_at places n) + added ≡ charge (len_at places n + more) →
      IsGrownChain region new (segments_at n) (segments_of new n (len_at places n + more)) added →
      IsChange region new places n (resized (place_at places n) (len_at places n + more)) × (words_in_chain new n (len_at places n + more) ≡ words_in_chain region n (len_at places n) ++ replicate more 0)
  grow-change {new = new} {n = n} more added some limit charges grown =
      let len : ℕ = len_at places n in
      let own : IsSoundList region n len = stored.sound n in
      let xs : List ℕ = segments_of region n len in
      let ys : List ℕ = segments_of new n (len + more) in
      let words : List ℕ = words_in_chain region n len in
      let zeros : ℕ = 16 * charge len - len + 16 * added in
      let before : content region xs ≡ words ++ replicate (16 * charge len - len) 0 = sym (take-append-drop len (content region xs)) ∙ ap (λ (rest : List ℕ). words ++ rest) own.zeros in
      let after : content new ys ≡ words ++ replicate zeros 0 =
      grown.holds ∙ ap (λ (c : List ℕ). c ++ replicate (16 * added) 0) before ∙ append_assoc words (replicate (16 * charge len - len) 0) (replicate (16 * added) 0)
      ∙ ap (λ (rest : List ℕ). words ++ rest) (replicate-append-replicate {A = ℕ} (16 * charge len - len) (16 * added) 0) in
      let words_len : length words ≡ len = length-words_in own in
      let cut = cut-zeros (content new ys) words zeros more after (omega (arith, charges, charge-room (len + more), charge-room len)) in
      let at_len : length words + more ≡ len + more = ap (λ (k : ℕ). k + more) words_len in
      let left : zeros - more ≡ 16 * charge (len + more) - (len + more) = omega (arith, charges, charge-room (len + more), charge-room len) in (
        record {
          within = lt-of-len places n some;
          same_count = grown.same_count;
          counted = omega (arith, grown.counted, charges);
          agrees = λ m other. agrees-apart region new xs (segments_at m) grown.kept (stored.sound m).is_chain.blocks (stored.apart m n other);
          is_sound = grind (arith, grown);
          is_apart = λ m other. rw grown.joined (apart-append (segments_at m) xs grown.added (stored.apart m n other) (apart-free region (segments_at m) grown.added (stored.sound m).is_chain.blocks grown.were_free));
        },
        ap (λ (k : ℕ). take k (content new ys)) (sym at_len) ∙ cut.0,
      )

  -- an opening

  -- the first of the new segments was no node's number
  pub was-unused : {new : Segments} {n size : ℕ} {words : List ℕ} → 0 < size → IsFreshChain region new (segments_of new n size) words (charge size) → (n < length places) × (len_at places n ≡ 0)
  was-unused some fresh = grind (arith, head-free, charge-some, unused)

  pub open-change : {new : Segments} {n size : ℕ} {words : List ℕ} (parent : Option ℕ) (depth : ℕ) → 0 < size → size ≤ 128 → length words ≤ size → IsFreshChain region new (segments_of new n size) words (charge size) →
      IsChange region new places n (record { len = size; parent = parent; depth = depth }) × (words_in_chain new n size ≡ padded words size)
  open-change {new = new} {n = n} {size = size} {words = words} parent depth some limit room fresh =
      let xs : List ℕ = segments_of new n size in
      let before = was-unused some fresh in
      let none : charge (len_at places n) ≡ 0 = ap charge before.1 in
      let zeros : ℕ = 16 * charge size - length words in
      let cut = cut-zeros (content new xs) words zeros (size - length words) fresh.holds (omega (arith, charge-room size)) in
      let at_size : length words + (size - length words) ≡ size = omega (arith, room) in
      let left : zeros - (size - length words) ≡ 16 * charge size - size = omega (arith, room, charge-room size) in (
        record {
          within = before.0;
          same_count = fresh.same_count;
          counted = omega (arith, fresh.counted, none);
          agrees = λ m other. agrees-taken region new (segments_at m) fresh.kept (stored.sound m).is_chain.blocks;
          is_sound = grind arith;
          is_apart = λ m other. apart-free region (segments_at m) xs (stored.sound m).is_chain.blocks fresh.were_free;
        },
        ap (λ (k : ℕ). take k (content new xs)) (sym at_size) ∙ cut.0,
      )

-- the calls

-- the region and the places show these nodes, and are a stack
abbrev pub Shows : Segments → List Place → Nodes → Type 0
Shows region places nodes = (nodes_from region 0 places ≡ nodes) × IsStack region places

module _ {old : Segments} {places : List Place} {nodes : Nodes} (stack : IsStack old places) (view : nodes_from old 0 places ≡ nodes) where
  tree : IsForest nodes places
  tree = rw view at stack.tree

  as-many : length places ≡ length nodes
  as-many = stack.stored.same_count ∙ sym (all-taken old places nodes stack.stored view).1

  pub depth-in_limits : (n : ℕ) → IsOpen nodes n → (place_at places n).depth ≤ 65536
  depth-in_limits n is_open = omega (arith, depth-le-length nodes places n as-many tree is_open, stack.stored.in_limits)

  pub sight-of : (n : ℕ) → IsOpen nodes n → IsWholeSight nodes n (place_at places n).depth
  sight-of n is_open = sight-open nodes places n (place_at places n).depth tree is_open refl

  -- an open node gets other words, in as many segments as they take
  pub rewritten : {new : Segments} {n len : ℕ} (words : List ℕ) → IsOpen nodes n → IsChange old new places n (resized (place_at places n) len) → 0 < len → words_in_chain new n len ≡ words →
      Shows new (with_len places n len) (with_node_words nodes n words)
  rewritten {new = new} {n = n} {len = len} words is_open change some is =
      let it = kept-node stack.stored view n is_open in
      let after : nodes_from new 0 (with_len places n len) ≡ with_node_words nodes n words = rw it.entry (changed-to words change some is view) in (
        after,
        record { stored = still-stored change stack.stored; tree = rw after (tree-write nodes places (with_len places n len) (depths-stay places n len) tree n words is_open) },
      )

  pub stored-word : {at s : ℕ} (n word : ℕ) → IsOpen nodes n → at < length (node_words nodes n) → s ≡ get_or (chain (suc (at / 16)) old (Some n)) (at / 16) 0 →
      Shows (with_segment_words old s (set (words_at old s) (at % 16) word)) places (with_node_words nodes n (set (node_words nodes n) at word))
  stored-word {at = at} {s = s} n word is_open below is =
      let it = kept-node stack.stored view n is_open in
      let inside : at < len_at places n = omega (arith, below, it.len) in
      let change = store-change stack.stored word inside (is ∙ place-of-sound (stack.stored.sound n) at inside) in
      let same : with_len places n (len_at places n) ≡ places = set-get_or places n nowhere in
      rw it.words (rw same at (rewritten (set (words_in_chain old n (len_at places n)) at word) is_open change.0 it.some change.1))

  -- a node is opened under a number that none had
  pub opened : {new : Segments} {n size segments : ℕ} {words : List ℕ} (parent : Option ℕ) (depth : ℕ) → IsUnder nodes places parent depth → 0 < size → size ≤ 128 → length words ≤ size → segments ≡ charge size → IsFreshChain old new (chain segments new (Some n)) words segments →
      IsUnused nodes n × Shows new (set places n (record { len = size; parent = parent; depth = depth })) (with_node nodes n (Some (record { parent = parent; words = padded words size })))
  opened {new = new} {n = n} {size = size} {words = words} parent depth under some limit room is_charge made =
      let fresh : IsFreshChain old new (segments_of new n size) words (charge size) = rw is_charge at made in
      let place : Place = record { len = size; parent = parent; depth = depth } in
      let before = was-unused stack.stored some fresh in
      let change = open-change stack.stored parent depth some limit room fresh in
      let after : nodes_from new 0 (set places n place) ≡ with_node nodes n (Some (record { parent = parent; words = padded words size })) = changed-to (padded words size) change.0 some change.1 view in
      let below : n < length nodes = rw (← as-many) before.0 in
      let unused : node_at nodes n ≡ None = rw (← view) (node_at-nodes_from old n places ∙ ap (λ (len : ℕ). node_in old n len (place_at places n).parent) before.1) in (
        (below, unused),
        (after, record { stored = still-stored change.0 stack.stored; tree = rw after (tree-open nodes places n (padded words size) place as-many below unused tree under) }),
      )

  -- nodes are closed with all their children
  pub closed : {new : Segments} {others : List Place} (numbers : List ℕ) → AreStored new others → nodes_from new 0 others ≡ without nodes numbers → ((m : ℕ) → (place_at others m).depth ≡ (place_at places m).depth) → HasAllChildren nodes numbers → IsStack new others
  closed = grind (arith, tree, tree-without)

  -- a node is longer
  pub grown : {new : Segments} {n at first segments wide : ℕ} {place : Place} (more : ℕ) → IsOpen nodes n → IsRead old places nodes n at place → first ≡ n → segments ≡ charge place.len → wide ≡ charge (place.len + more) → place.len + more ≤ 128 →
      IsGrownChain old new (chain segments old (Some first)) (chain (segments + (wide - segments)) new (Some first)) (wide - segments) →
      Shows new (with_len places n (place.len + more)) (with_node_words nodes n (node_words nodes n ++ replicate more 0))
  grown {new = new} {n = n} {segments = segments} {wide = wide} {place = place} more is_open of is_first is_narrow is_wide limit made =
      let len : ℕ = len_at places n in
      let same : place.len ≡ len = ap (λ (p : Place). p.len) of.is in
      let narrow : segments ≡ charge len = is_narrow ∙ ap charge same in
      let broad : wide ≡ charge (len + more) = is_wide ∙ ap (λ (k : ℕ). charge (k + more)) same in
      let whole : charge len + (charge (len + more) - charge len) ≡ charge (len + more) = omega arith in
      let named : IsGrownChain old new (segments_of old n len) (segments_of new n (len + more)) (charge (len + more) - charge len) = rw whole at (rw (is_first, narrow, broad) at made) in
      let change = grow-change stack.stored more (charge (len + more) - charge len) of.it.some (rw same at limit) whole named in
      rw (same, of.it.words) (rewritten (words_in_chain old n len ++ replicate more 0) is_open change.0 (omega (arith, of.it.some)) change.1)

-- at first all is free

pub none-at-first : (region : Segments) (count n : ℕ) → nodes_from region n (replicate count nowhere) ≡ replicate count None
none-at-first region zero n = refl
none-at-first region (suc count) n = ap (λ (rest : Nodes). None ∷ rest) (none-at-first region count (suc n))

len_at-nowhere : (count n : ℕ) → len_at (replicate count nowhere) n ≡ 0
len_at-nowhere count n = ap (λ (p : Place). p.len) (get_or-blanks count n nowhere)

none-stored : (region : Segments) (n : ℕ) → IsSoundList region n 0
none-stored region n = record { at_most = omega arith; is_chain = record { blocks = tt; whole = refl; once = tt }; zeros = refl }

none-open : (count n : ℕ) → IsOpen (replicate count None) n → ⊥
none-open count n is = absurd (let none : node_at (replicate count None) n ≡ None = get_or-blanks count n None in cc (none, is))

pub stack-at-first : (count : ℕ) → count ≤ 65536 → IsStack (replicate count None) (replicate count nowhere)
stack-at-first count limit = grind (arith, length-replicate, taken_count-replicate, sum_by-replicate, len_at-nowhere, none-stored, tree, none-open, none-at-first)
