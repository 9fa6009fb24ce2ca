-- A node's chain of segments and its words, in two regions of memory that agree on that chain: they hold the same.
use Rattle.cactus_stack.proofs.Common.{◌≡◌, ℕ, zero, suc, ◌≤◌, List, [], ◌∷◌, take, Option, None, Some, refl, ap, arith, get_or-set_other, ◌≢◌, ◌<◌, ◌++◌, length, get_or, sym, ◌+◌, ◌-◌, ◌*◌, ◌∙◌, get_or-set_same, zero-add, ◌/◌, ◌%◌, IsSome, slice_get, drop, min, subst, set, get_or-append, Segment, Segments, segment_at, link_at, link_of, words_of_segment, set-holds, set-keeps, IsTaken, words_at, with_segment_words, with_link, chain, content, Lacks, AreApart, AllBlocks, AllFree, AgreesOn, IsOnce, IsChain, length-append, append_assoc, set-append_left, set-append_right, get_or-append_right, get_or-take, length-take-le, length-take, length-drop, get_or-drop, ext_get_or, lt-of-IsTaken, slice_get-get_or, charge, charge_of, node_in, words_in_chain, segments_of, IsSoundList}

pub chain-agrees : (count : ℕ) (old new : Segments) (head : Option ℕ) → AgreesOn old new (chain count old head) → chain count new head ≡ chain count old head
chain-agrees zero old new head agrees = refl
chain-agrees (suc count) old new None agrees = refl
chain-agrees (suc count) old new (Some s) agrees = grind (arith, chain-agrees count old new (link_at old s) agrees.1)

module _ (old new : Segments) where
  pub content-agrees : (segments : List ℕ) → AgreesOn old new segments → content new segments ≡ content old segments
  content-agrees [] agrees = refl
  content-agrees (s ∷ segments) agrees = grind (arith, content-agrees segments agrees.1)

  pub blocks-agrees : (segments : List ℕ) → AgreesOn old new segments → AllBlocks old segments → AllBlocks new segments
  blocks-agrees [] agrees blocks = tt
  blocks-agrees (s ∷ segments) agrees blocks = grind (arith, blocks-agrees segments agrees.1 blocks.2)

  -- where new keeps each taken segment that 'changed' lacks, both agree on taken segments that share none with it
  pub agrees-apart : (changed segments : List ℕ) → ((s : ℕ) → IsTaken old s → Lacks changed s → segment_at new s ≡ segment_at old s) → AllBlocks old segments → AreApart segments changed → AgreesOn old new segments
  agrees-apart changed [] kept blocks apart = tt
  agrees-apart changed (s ∷ segments) kept blocks apart =
      (kept s blocks.0 apart.0, agrees-apart changed segments kept blocks.2 apart.1)

  -- what is kept of all that was taken is the same on segments that were taken
  pub agrees-taken : (segments : List ℕ) → ((s : ℕ) → IsTaken old s → segment_at new s ≡ segment_at old s) → AllBlocks old segments → AgreesOn old new segments
  agrees-taken [] kept blocks = tt
  agrees-taken (s ∷ segments) kept blocks = (kept s blocks.0, agrees-taken segments kept blocks.2)

-- an entry that is put under one number leaves all that lack it
pub agrees-set : (old : Segments) (n : ℕ) (entry : Option Segment) (segments : List ℕ) → Lacks segments n → AgreesOn old (set old n entry) segments
agrees-set old n entry [] lacks = tt
agrees-set old n entry (s ∷ segments) lacks = (get_or-set_other old n s entry None lacks.0, agrees-set old n entry segments lacks.1)

lacks-free : (region : Segments) (s : ℕ) (segments : List ℕ) → IsTaken region s → AllFree region segments → Lacks segments s
lacks-free region s [] taken free = tt
lacks-free region s (x ∷ segments) taken free = grind (arith, lacks-free region s segments taken free.1)

-- segments that were taken are none of those that were free
pub apart-free : (region : Segments) (taken free : List ℕ) → AllBlocks region taken → AllFree region free → AreApart taken free
apart-free region [] free blocks all_free = tt
apart-free region (s ∷ taken) free blocks all_free =
    (lacks-free region s free blocks.0 all_free, apart-free region taken free blocks.2 all_free)

-- a segment that is free is none of those that are taken
pub lacks-taken : (region : Segments) (n : ℕ) (segments : List ℕ) → segment_at region n ≡ None → AllBlocks region segments → Lacks segments n
lacks-taken region n [] free blocks = tt
lacks-taken region n (s ∷ segments) free blocks = grind (arith, lacks-taken region n segments free blocks.2)

-- fewer links lead to the front of the chain
pub chain-take : (fewer more : ℕ) (region : Segments) (head : Option ℕ) → fewer ≤ more → chain fewer region head ≡ take fewer (chain more region head)
chain-take zero more region head h = refl
chain-take (suc fewer) zero region head h = absurd (omega arith)
chain-take (suc fewer) (suc more) region None h = refl
chain-take (suc fewer) (suc more) region (Some s) h =
    ap (λ (rest : List ℕ). s ∷ rest) (chain-take fewer more region (link_at region s) (omega arith))

-- Lists of numbers that share none, and lists in which none stands twice.

pub lacks-get_or : (xs : List ℕ) (n i : ℕ) → Lacks xs n → i < length xs → get_or xs i 0 ≢ n
lacks-get_or [] n i lacks h = absurd (omega arith)
lacks-get_or (x ∷ xs) n zero lacks h = lacks.0
lacks-get_or (x ∷ xs) n (suc i) lacks h = let below : i < length xs = omega arith in lacks-get_or xs n i lacks.1 below

pub lacks-append : (xs ys : List ℕ) (n : ℕ) → Lacks xs n → Lacks ys n → Lacks (xs ++ ys) n
lacks-append [] ys n p q = q
lacks-append (x ∷ xs) ys n p q = (p.0, lacks-append xs ys n p.1 q)

-- what a list shares no number with lacks each of its numbers
pub apart-get_or : (xs ys : List ℕ) (i : ℕ) → AreApart xs ys → i < length ys → Lacks xs (get_or ys i 0)
apart-get_or [] ys i apart h = tt
apart-get_or (x ∷ xs) ys i apart h = (λ e. lacks-get_or ys x i apart.0 h (sym e), apart-get_or xs ys i apart.1 h)

apart-head : (xs ys : List ℕ) (y : ℕ) → AreApart xs (y ∷ ys) → Lacks xs y
apart-head [] ys y apart = tt
apart-head (x ∷ xs) ys y apart = (λ e. apart.0.0 (sym e), apart-head xs ys y apart.1)

apart-tail : (xs ys : List ℕ) (y : ℕ) → AreApart xs (y ∷ ys) → AreApart xs ys
apart-tail [] ys y apart = tt
apart-tail (x ∷ xs) ys y apart = (apart.0.1, apart-tail xs ys y apart.1)

pub apart-sym : (xs ys : List ℕ) → AreApart xs ys → AreApart ys xs
apart-sym xs [] apart = tt
apart-sym xs (y ∷ ys) apart = (apart-head xs ys y apart, apart-sym xs ys (apart-tail xs ys y apart))

pub apart-append : (xs ys zs : List ℕ) → AreApart xs ys → AreApart xs zs → AreApart xs (ys ++ zs)
apart-append [] ys zs p q = tt
apart-append (x ∷ xs) ys zs p q = (lacks-append ys zs x p.0 q.0, apart-append xs ys zs p.1 q.1)

pub once-append : (xs ys : List ℕ) → IsOnce xs → IsOnce ys → AreApart xs ys → IsOnce (xs ++ ys)
once-append [] ys p q apart = q
once-append (x ∷ xs) ys p q apart = (lacks-append xs ys x p.0 apart.0, once-append xs ys p.1 q apart.1)

-- The words of chains, read and written by place.

module _ (region : Segments) where
  pub content-append : (xs ys : List ℕ) → content region (xs ++ ys) ≡ content region xs ++ content region ys
  content-append [] ys = refl
  content-append (x ∷ xs) ys = rw (append_assoc (words_at region x) (content region xs) (content region ys)) (ap (λ (rest : List ℕ). words_at region x ++ rest) (content-append xs ys))

  pub blocks-append : (xs ys : List ℕ) → AllBlocks region xs → AllBlocks region ys → AllBlocks region (xs ++ ys)
  blocks-append [] ys p q = q
  blocks-append (x ∷ xs) ys p q = (p.0, p.1, blocks-append xs ys p.2 q)

  pub length-content : (xs : List ℕ) → AllBlocks region xs → length (content region xs) ≡ 16 * length xs
  length-content [] blocks = refl
  length-content (x ∷ xs) blocks =
      let rest = length-content xs blocks.2 in
      omega (arith, rest, blocks.1, length-append (words_at region x) (content region xs))

  pub blocks-get_or : (xs : List ℕ) (i : ℕ) → AllBlocks region xs → i < length xs → IsTaken region (get_or xs i 0) × (length (words_at region (get_or xs i 0)) ≡ 16)
  blocks-get_or [] i blocks h = absurd (omega arith)
  blocks-get_or (x ∷ xs) zero blocks h = (blocks.0, blocks.1)
  blocks-get_or (x ∷ xs) (suc i) blocks h = let below : i < length xs = omega arith in blocks-get_or xs i blocks.2 below

-- the word at a place of the chain is one of its segment's
pub get_or-content : (region : Segments) (xs : List ℕ) (block offset : ℕ) → AllBlocks region xs → block < length xs → offset < 16 → get_or (content region xs) (16 * block + offset) 0 ≡ get_or (words_at region (get_or xs block 0)) offset 0
get_or-content region [] block offset blocks h k = absurd (omega arith)
get_or-content region (x ∷ xs) zero offset blocks h k = grind (arith, get_or-append)
get_or-content region (x ∷ xs) (suc block) offset blocks h k =
    let at : 16 * suc block + offset - 16 ≡ 16 * block + offset = omega arith in
    get_or-append_right (words_at region x) (content region xs) 16 (16 * suc block + offset) 0 blocks.1 (omega arith)
    ∙ rw at (get_or-content region xs block offset blocks.2 (omega arith) k)

-- a word that is written to a segment of the chain is written at its place, and nowhere else
pub content-write : (region : Segments) (xs : List ℕ) (block offset word : ℕ) → AllBlocks region xs → IsOnce xs → block < length xs → offset < 16 → content (with_segment_words region (get_or xs block 0) (set (words_at region (get_or xs block 0)) offset word)) xs ≡ set (content region xs) (16 * block + offset) word
content-write region [] block offset word blocks once h k = absurd (omega arith)
content-write region (x ∷ xs) zero offset word blocks once h k =
    let entry : Option Segment = Some (record { words = set (words_at region x) offset word; link = link_at region x }) in
    let here : segment_at (set region x entry) x ≡ entry = get_or-set_same region x entry None (lt-of-IsTaken region x blocks.0) in
    let rest : content (set region x entry) xs ≡ content region xs = content-agrees region (set region x entry) xs (agrees-set region x entry xs once.0) in
    rw (here, rest, zero-add offset) (sym (set-append_left (words_at region x) (content region xs) offset word (omega (arith, blocks.1))))
content-write region (x ∷ xs) (suc block) offset word blocks once h k =
    let below : block < length xs = omega arith in
    let s = get_or xs block 0 in
    let entry : Option Segment = Some (record { words = set (words_at region s) offset word; link = link_at region s }) in
    let apart : x ≢ s = λ e. lacks-get_or xs x block once.0 below (sym e) in
    let here : segment_at (set region s entry) x ≡ segment_at region x = get_or-set_other region s x entry None apart in
    let at : 16 * suc block + offset - 16 ≡ 16 * block + offset = omega arith in
    rw (here, content-write region xs block offset word blocks.2 once.1 below k)
    (rw (← at) (sym (set-append_right (words_at region x) (content region xs) 16 (16 * suc block + offset) word blocks.1 (omega arith))))

pub link_at-write : (region : Segments) (n m : ℕ) (words : List ℕ) → link_at (with_segment_words region n words) m ≡ link_at region m
link_at-write region n m words = set-keeps link_of region n m (Some (record { words = words; link = link_at region n })) None refl

pub chain-write : (count : ℕ) (region : Segments) (head : Option ℕ) (n : ℕ) (words : List ℕ) → chain count (with_segment_words region n words) head ≡ chain count region head
chain-write zero region head n words = refl
chain-write (suc count) region None n words = refl
chain-write (suc count) region (Some s) n words = grind (arith, chain-write count region (link_at region s) n words, link_at-write)

taken-write : (region : Segments) (n m : ℕ) (segment : Segment) → IsTaken region m → IsTaken (set region n (Some segment)) m
taken-write region n m segment taken = set-holds (λ (e : Option Segment). IsSome e) region n m (Some segment) None (λ e. refl) taken

length-write : (region : Segments) (n m : ℕ) (words : List ℕ) → length words ≡ 16 → length (words_at region m) ≡ 16 → length (words_at (with_segment_words region n words) m) ≡ 16
length-write region n m words h k =
    set-holds (λ (e : Option Segment). length (words_of_segment e) ≡ 16) region n m (Some (record { words = words; link = link_at region n })) None (λ e. h) k

pub blocks-write : (region : Segments) (xs : List ℕ) (n : ℕ) (words : List ℕ) → length words ≡ 16 → AllBlocks region xs → AllBlocks (with_segment_words region n words) xs
blocks-write region [] n words h blocks = tt
blocks-write region (x ∷ xs) n words h blocks =
    (taken-write region n x _ blocks.0, length-write region n x words h blocks.1, blocks-write region xs n words h blocks.2)

words_at-link : (region : Segments) (n m : ℕ) (link : Option ℕ) → words_at (with_link region n link) m ≡ words_at region m
words_at-link region n m link = set-keeps words_of_segment region n m (Some (record { words = words_at region n; link = link })) None refl

-- a link that is set leaves all words
pub content-link : (region : Segments) (xs : List ℕ) (n : ℕ) (link : Option ℕ) → content (with_link region n link) xs ≡ content region xs
content-link region [] n link = refl
content-link region (x ∷ xs) n link = grind (arith, content-link region xs n link, words_at-link)

pub blocks-link : (region : Segments) (xs : List ℕ) (n : ℕ) (link : Option ℕ) → AllBlocks region xs → AllBlocks (with_link region n link) xs
blocks-link region [] n link blocks = tt
blocks-link region (x ∷ xs) n link blocks = grind (arith, blocks-link region xs n link blocks.2, taken-write, words_at-link)

-- How many segments words are charged; the front of a chain.

pub charge-some : (len : ℕ) → 0 < len → 0 < charge len
charge-some len some = omega arith

pub charge-room : (len : ℕ) → len ≤ 16 * charge len
charge-room len = omega arith

pub charge-below : (at len : ℕ) → at < len → at / 16 < charge len
charge-below at len below = omega arith

-- the front of a chain is a chain
lacks-take : (n : ℕ) (xs : List ℕ) (x : ℕ) → Lacks xs x → Lacks (take n xs) x
lacks-take zero xs x lacks = tt
lacks-take (suc n) [] x lacks = tt
lacks-take (suc n) (y ∷ xs) x lacks = (lacks.0, lacks-take n xs x lacks.1)

once-take : (n : ℕ) (xs : List ℕ) → IsOnce xs → IsOnce (take n xs)
once-take zero xs once = tt
once-take (suc n) [] once = tt
once-take (suc n) (x ∷ xs) once = (lacks-take n xs x once.0, once-take n xs once.1)

blocks-take : (n : ℕ) (region : Segments) (xs : List ℕ) → AllBlocks region xs → AllBlocks region (take n xs)
blocks-take zero region xs blocks = tt
blocks-take (suc n) region [] blocks = tt
blocks-take (suc n) region (x ∷ xs) blocks = (blocks.0, blocks.1, blocks-take n region xs blocks.2)

module _ (region : Segments) where
  pub chain-front : (head : Option ℕ) (fewer count : ℕ) → fewer ≤ count → IsChain region (chain count region head) count → IsChain region (chain fewer region head) fewer
  chain-front head fewer count h is =
      let xs : List ℕ = chain count region head in
      rw (chain-take fewer count region head h) (record {
        blocks = blocks-take fewer region xs is.blocks;
        whole = length-take-le fewer xs (omega (arith, is.whole));
        once = once-take fewer xs is.once;
      })

  pub chain-front-get_or : (head : Option ℕ) (i fewer count : ℕ) → i < fewer → fewer ≤ count → get_or (chain fewer region head) i 0 ≡ get_or (chain count region head) i 0
  chain-front-get_or head i fewer count h k =
      rw (chain-take fewer count region head k) (get_or-take fewer (chain count region head) i 0 h)

-- a node that is there has words
pub len-of-node : (region : Segments) (n len : ℕ) (parent : Option ℕ) → IsSome (node_in region n len parent) → 0 < len
len-of-node region n len parent h5 = grind arith

pub node_in-some : (region : Segments) (n len : ℕ) (parent : Option ℕ) → 0 < len → node_in region n len parent ≡ Some (record { parent = parent; words = words_in_chain region n len })
node_in-some region n len parent h5 = grind arith

-- What a sound list has: its length, and the segment in which each of its words lies.
module _ {region : Segments} {n len : ℕ} (sound : IsSoundList region n len) where
  pub length-sound : length (content region (segments_of region n len)) ≡ 16 * charge len
  length-sound = grind (arith, length-content)

  pub length-words_in : length (words_in_chain region n len) ≡ len
  length-words_in = grind (arith, length-take-le, length-sound, charge-room)

  -- the segment that holds a place
  module _ (at : ℕ) (below : at < len) where
    pub place-is_taken : IsTaken region (get_or (segments_of region n len) (at / 16) 0) × (length (words_at region (get_or (segments_of region n len) (at / 16) 0)) ≡ 16)
    place-is_taken =
        blocks-get_or region (segments_of region n len) (at / 16) sound.is_chain.blocks (omega (arith, sound.is_chain.whole, charge-below at len below))

    -- links lead to it
    pub front-of-sound : IsChain region (chain (suc (at / 16)) region (Some n)) (suc (at / 16))
    front-of-sound = chain-front region (Some n) (suc (at / 16)) (charge len) (omega (arith, charge-below at len below)) sound.is_chain

    pub place-of-sound : get_or (chain (suc (at / 16)) region (Some n)) (at / 16) 0 ≡ get_or (segments_of region n len) (at / 16) 0
    place-of-sound = chain-front-get_or region (Some n) (at / 16) (suc (at / 16)) (charge len) (omega arith) (omega (arith, charge-below at len below))

    -- the word at a place is in its segment
    pub word-of-sound : slice_get (words_in_chain region n len) at ≡ Some (get_or (words_at region (get_or (segments_of region n len) (at / 16) 0)) (at % 16) 0)
    word-of-sound =
        let c : List ℕ = content region (segments_of region n len) in
        let block : at / 16 < length (segments_of region n len) = omega (arith, sound.is_chain.whole, charge-below at len below) in
        let split : 16 * (at / 16) + at % 16 ≡ at = omega arith in
        let word = get_or-content region (segments_of region n len) (at / 16) (at % 16) sound.is_chain.blocks block (omega arith) in
        slice_get-get_or (words_in_chain region n len) at 0 (omega (arith, length-words_in)) ∙ ap (λ (w : ℕ). Some w) (get_or-take len c at 0 below ∙ rw split at word)

  -- The words of one segment.
  module _ (k : ℕ) (below : k < charge len) where
    -- links lead to it
    pub front-of-block : IsChain region (chain (suc k) region (Some n)) (suc k)
    front-of-block = chain-front region (Some n) (suc k) (charge len) below sound.is_chain

    pub place-of-block : get_or (chain (suc k) region (Some n)) k 0 ≡ get_or (segments_of region n len) k 0
    place-of-block = chain-front-get_or region (Some n) k (suc k) (charge len) (omega arith) below

    pub block-is_taken : (s : ℕ) → s ≡ get_or (segments_of region n len) k 0 → IsTaken region s × (length (words_at region s) ≡ 16)
    block-is_taken s e = rw e (blocks-get_or region (segments_of region n len) k sound.is_chain.blocks (omega (arith, sound.is_chain.whole)))

    -- its front holds what is left of the words from its first place on
    block-words : (j : ℕ) (block : List ℕ) → j ≡ min (len - 16 * k) 16 → block ≡ words_at region (get_or (segments_of region n len) k 0) → length block ≡ 16 →
        take j block ≡ take 16 (drop (16 * k) (words_in_chain region n len))
    block-words j block e is sixteen =
        let xs : List ℕ = segments_of region n len in
        let words : List ℕ = words_in_chain region n len in
        let whole : length words ≡ len = length-words_in in
        let short : length (take j block) ≡ j = length-take-le j block (omega arith) in
        ext_get_or 0 (take j block) (take 16 (drop (16 * k) words))
        (omega (arith, short, whole, length-take 16 (drop (16 * k) words), length-drop (16 * k) words))
        (λ i inside.
        get_or-take j block i 0 (omega arith)
        ∙ subst (λ (b : List ℕ). get_or b i 0 ≡ get_or (content region xs) (16 * k + i) 0) (sym is)
        (sym (get_or-content region xs k i sound.is_chain.blocks (omega (arith, sound.is_chain.whole)) (omega arith)))
        ∙ sym (get_or-take len (content region xs) (16 * k + i) 0 (omega arith))
        ∙ sym (get_or-drop (16 * k) words i 0)
        ∙ sym (get_or-take 16 (drop (16 * k) words) i 0 (omega arith)))

    pub words-of-block : (s j : ℕ) (block : List ℕ) → j ≡ min (len - 16 * k) 16 → s ≡ get_or (segments_of region n len) k 0 → block ≡ words_at region s →
        take j block ≡ take 16 (drop (16 * k) (words_in_chain region n len))
    words-of-block s j block e there is = block-words j block e (rw there at is) (rw is (block-is_taken s there).1)

pub charge_of-node_in : (region : Segments) (n len : ℕ) (parent : Option ℕ) → IsSoundList region n len → charge_of (node_in region n len parent) ≡ charge len
charge_of-node_in region n zero parent sound = refl
charge_of-node_in region n (suc len) parent sound = ap charge (length-words_in sound)
