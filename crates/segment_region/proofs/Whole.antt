-- What taking, giving and linking segments keep of a region.
use Rattle.segment_region.proofs.Common.{◌≢◌, true, false, zero, suc, ◌-◌, ◌≤◌, replicate, ap, sym, ◌∙◌, arith, get_or-set_same, get_or-set_other, set, length-replicate, Segment, Segments, IsTaken, IsFree, taken_count, with_block_words, with_segment_words, with_link, IsFilled, WordBlock, place_entry, place_link, segment_of_block, link_in, segments_of_blocks, IsLink, next_of, IsFreeList, IsWhole, Link}
use Rattle.std.proofs.Common.{◌≡◌, ℕ, ◌+◌, ◌<◌, List, [], ◌∷◌, length, Option, None, Some, get_or, refl, subst}
use Rattle.std.proofs.lemmas.List.{length-set}
use Rattle.segment_region.specs.Segments.{blank}
use Rattle.segment_region.proofs.Counts.{taken_count-set, taken_count-take, taken_count-give, taken_count-write, taken_count-replicate, taken_count-le-length}
use Rattle.segment_region.proofs.Entries.{length-segments_of_blocks, get_or-segments_of_blocks, none-from-mark, segments_of_blocks-set, segments_of_blocks-more, segments_of_blocks-less, segments_of_blocks-none, segment_of_block-free, segment_of_block-taken, WordPlaces, BlockAt, TakenBlock, taken-block, taken-is, words-is, link-is}
use Rattle.segment_region.proofs.Lists.{set-keeps}

-- the block at the head of the free ones
abbrev pub HeadBlock : ℕ → WordPlaces → ℕ → Type 0
HeadBlock = BlockAt false

-- how many segments are taken, the places after a block is written to one, and the segment of a block
abbrev taken_in : ℕ → WordPlaces → ℕ
taken_in mark places = taken_count (segments_of_blocks mark places)

abbrev put : WordPlaces → ℕ → WordBlock → WordPlaces
put places n block = set places n (Some block)

abbrev linked : WordBlock → Option ℕ → Segment
linked block next = record { words = block.words; link = next }

free-block : (mark : ℕ) (places : WordPlaces) (h : ℕ) → h < mark → (link_in places h).taken ≡ false → HeadBlock mark places h
free-block mark [] h marked free = absurd (cc)
free-block mark (None ∷ places) zero marked free = absurd (cc)
free-block mark (Some block ∷ places) zero marked free = record { block = block; is = refl; state = free; marked = marked; below = omega arith }
free-block zero (place ∷ places) (suc h) marked free = absurd (omega arith)
free-block (suc mark) (place ∷ places) (suc h) marked free =
    let rest = free-block mark places h (omega arith) free in
    record { block = rest.block; is = rest.is; state = rest.state; marked = marked; below = omega (arith, rest.below) }

module _ (mark : ℕ) (places : WordPlaces) where
  abbrev entries : Segments
  entries = segments_of_blocks mark places

  -- the links lead from a head through so many free blocks
  abbrev Leads : Option ℕ → ℕ → Type 0
  Leads = IsFreeList mark places

  -- the number stands at the head of no chain
  abbrev IsUnlisted : ℕ → Type 0
  IsUnlisted n = (m : ℕ) → Leads (Some n) m → ⊥

  -- so it is with one that is taken, and with one from the mark on
  taken-unlisted : (n : ℕ) → TakenBlock mark places n → IsUnlisted n
  taken-unlisted n t zero chain = absurd (cc)
  taken-unlisted n t (suc m) chain = grind arith

  mark-unlisted : IsUnlisted mark
  mark-unlisted zero chain = absurd (cc)
  mark-unlisted (suc m) chain = absurd (omega (arith, chain.0))

  -- two chains from one head are equally long
  one-length : (head : Option ℕ) (m n : ℕ) → Leads head m → Leads head n → m ≡ n
  one-length head zero zero a b = refl
  one-length None zero (suc n) a b = absurd b
  one-length None (suc m) n a b = absurd a
  one-length (Some h) zero (suc n) a b = absurd (cc)
  one-length (Some h) (suc m) zero a b = absurd (cc)
  one-length (Some h) (suc m) (suc n) a b = ap suc (one-length (next_of (link_in places h)) m n a.2 b.2)

  -- what changes under one number, and of the mark, leaves a chain that the number is not in
  module _ (new : ℕ) (after : WordPlaces) (n : ℕ) (same : (h : ℕ) → h < mark → h ≢ n → (h < new) × (link_in after h ≡ link_in places h)) where
    chain-keeps : (head : Option ℕ) (m : ℕ) → ((k : ℕ) → k ≤ m → Leads (Some n) k → ⊥) → Leads head m → IsFreeList new after head m
    chain-keeps head zero out chain = chain
    chain-keeps None (suc m) out chain = chain
    chain-keeps (Some h) (suc m) out chain =
        let other : h ≢ n = λ e. out (suc m) (omega arith) (subst (λ (k : ℕ). Leads (Some k) (suc m)) e chain) in
        let there = same h chain.0 other in
        let rest = chain-keeps (next_of (link_in places h)) m (λ k le. out k (omega arith)) chain.2 in
        subst (λ (l : Link). (h < new) × (l.taken ≡ false) × IsFreeList new after (next_of l) m) (sym there.1) (there.0, chain.1, rest)

  -- so does a write to its place
  chain-set : (new n : ℕ) (place : Option WordBlock) → mark ≤ new → (head : Option ℕ) (m : ℕ) →
      ((k : ℕ) → k ≤ m → Leads (Some n) k → ⊥) → Leads head m → IsFreeList new (set places n place) head m
  chain-set new n place up =
      chain-keeps new (set places n place) n (λ h below other. (omega arith, ap place_link (get_or-set_other places n h place None other)))

  chain-same : (after : WordPlaces) → ((h : ℕ) → link_in after h ≡ link_in places h) → (head : Option ℕ) (m : ℕ) → Leads head m → IsFreeList mark after head m
  chain-same after same head m = chain-keeps mark after mark (λ h below other. (below, same h)) head m (λ k le. mark-unlisted k)

  head-block : (h m : ℕ) → Leads (Some h) m → HeadBlock mark places h
  head-block h zero chain = absurd (cc)
  head-block h (suc m) chain = free-block mark places h chain.0 chain.1

  -- what comes behind the head of a chain
  behind-head : (h m : ℕ) → Leads (Some h) m → (m ≡ suc (m - 1)) × ((link_in places h).taken ≡ false) × Leads (next_of (link_in places h)) (m - 1)
  behind-head h zero chain = absurd (cc)
  behind-head h (suc m) chain = let one : suc m - 1 ≡ m = omega arith in rw one (refl, chain.1, chain.2)

  no-head : (m : ℕ) → Leads None m → m ≡ 0
  no-head zero chain = refl
  no-head (suc m) chain = absurd chain

  pub head-is_free : (h : ℕ) → HeadBlock mark places h → IsFree entries h
  head-is_free h t = (
    omega (arith, t.below, length-segments_of_blocks mark places),
    get_or-segments_of_blocks mark places h t.marked ∙ ap place_entry t.is ∙ segment_of_block-free t.block.link t.block.words t.state,
  )

  -- what lies from the mark on is free
  pub mark-is_free : mark < length places → IsFree entries mark
  mark-is_free below = (omega (arith, below, length-segments_of_blocks mark places), none-from-mark mark places mark (omega arith))

  -- the entries after a write below the mark, and at the mark
  pub entries-write : (n : ℕ) (block : WordBlock) (next : Option ℕ) → n < mark → IsLink block.link true next →
      segments_of_blocks mark (put places n block) ≡ set entries n (Some (linked block next))
  entries-write n block next below link = grind (arith, segments_of_blocks-set, set, segment_of_block-taken)

  pub entries-mark : (block : WordBlock) (next : Option ℕ) → IsLink block.link true next →
      segments_of_blocks (mark + 1) (put places mark block) ≡ set entries mark (Some (linked block next))
  entries-mark block next link =
      let up : mark + 1 ≡ suc mark = omega arith in
      rw up (segments_of_blocks-more mark places (Some block)) ∙ ap (λ (e : Option Segment). set entries mark e) (segment_of_block-taken block.link block.words next link)

  -- the entries after a block is given back: below the mark by its link, and at the end by the mark
  pub entries-free : (n : ℕ) (block : WordBlock) → IsTaken entries n → block.link.taken ≡ false → segments_of_blocks mark (put places n block) ≡ set entries n None
  entries-free n block taken free =
      segments_of_blocks-set mark places n (Some block) (taken-block mark places n taken).marked
      ∙ ap (λ (e : Option Segment). set entries n e) (segment_of_block-free block.link block.words free)

  pub entries-less : (n : ℕ) → n + 1 ≡ mark → segments_of_blocks n places ≡ set entries n None
  entries-less n last = grind (arith, segments_of_blocks-less)

  -- the entries after the words of the block at a place were written: with those words under a number that is taken, if that is the place
  pub entries-words : (at n : ℕ) (block : WordBlock) (words : List ℕ) → at ≡ n → IsTaken entries n → get_or places at None ≡ Some block →
      segments_of_blocks mark (put places at (with_block_words block words)) ≡ with_segment_words entries n words
  entries-words at n block words here taken there =
      let t = taken-block mark places n taken in
      let is = rw here at there in
      rw here (entries-write n (with_block_words block words) (next_of block.link) t.marked (taken-is mark places n block taken is, refl)
      ∙ ap (λ (o : Option ℕ). set entries n (Some (record { words = words; link = o }))) (sym (link-is mark places n block taken is)))

  pub entries-link : (n : ℕ) (block : WordBlock) (link : Link) (next : Option ℕ) → IsTaken entries n → get_or places n None ≡ Some block → IsLink link true next →
      segments_of_blocks mark (put places n (record { words = block.words; link = link })) ≡ with_link entries n next
  entries-link n block link next taken is e =
      entries-write n (record { words = block.words; link = link }) next (taken-block mark places n taken).marked e
      ∙ ap (λ (ws : List ℕ). set entries n (Some (record { words = ws; link = next }))) (sym (words-is mark places n block taken is))

-- a written place is filled, and so is every other that was
filled-set : (places : WordPlaces) (n : ℕ) (block : WordBlock) → n < length places → (m : ℕ) → (m ≢ n → IsFilled places m) → IsFilled (put places n block) m
filled-set [] n block inside m was = absurd (omega (arith, inside))
filled-set (place ∷ places) zero block inside zero was = (block, refl)
filled-set (place ∷ places) zero block inside (suc m) was = was (λ e. absurd (omega (arith, e)))
filled-set (place ∷ places) (suc n) block inside zero was = was (λ e. absurd (omega (arith, e)))
filled-set (place ∷ places) (suc n) block inside (suc m) was = filled-set places n block (omega (arith, inside)) m (λ other. was (λ e. other (omega (arith, e))))

count-by-link : (link : Link) (words other : List ℕ) → taken_count (segment_of_block link words ∷ []) ≡ taken_count (segment_of_block link other ∷ [])
count-by-link link words other = grind arith

-- the words of a block are written, whether it is taken or free: as many are taken as before, and the links are the same
module _ (places : WordPlaces) (n : ℕ) (block : WordBlock) (words : List ℕ) (is : get_or places n None ≡ Some block) where
  words-link : (h : ℕ) → link_in (put places n (with_block_words block words)) h ≡ link_in places h
  words-link h = set-keeps place_link places n h (Some (with_block_words block words)) None (ap place_link (sym is))

  words-set : (mark : ℕ) → n < mark → n < length places → taken_in mark (put places n (with_block_words block words)) ≡ taken_in mark places
  words-set mark below inside =
      let was = get_or-segments_of_blocks mark places n below ∙ ap place_entry is in
      let both = taken_count-set (segments_of_blocks mark places) n (segment_of_block block.link words) (omega (arith, inside, length-segments_of_blocks mark places)) in
      rw (segments_of_blocks-set mark places n (Some (with_block_words block words)) below)
      (omega (arith, rw was at both, count-by-link block.link words block.words))

-- What the invariant gives, and how the calls keep it.
module _ {places : WordPlaces} {count mark listed : ℕ} {free : Link} (whole : IsWhole places count mark free listed) where
  abbrev region : Segments
  region = segments_of_blocks mark places

  abbrev IsWholeWith : ℕ → WordBlock → Link → ℕ → Type 0
  IsWholeWith n block next more = IsWhole (put places n block) count mark next more

  listed-from : (h : ℕ) → next_of free ≡ Some h → IsFreeList mark places (Some h) listed
  listed-from h is = subst (λ (o : Option ℕ). IsFreeList mark places o listed) is whole.chain

  -- the block that the free ones are chained from
  pub listed-head : (h : ℕ) → next_of free ≡ Some h → HeadBlock mark places h
  listed-head h is = head-block mark places h listed (listed-from h is)

  -- one place is written, and the mark stays
  whole-set : (n : ℕ) (block : WordBlock) (next : Link) (more : ℕ) → n < length places → more + taken_in mark (put places n block) ≡ mark →
      next.taken ≡ false → IsFreeList mark (put places n block) (next_of next) more → IsWholeWith n block next more
  whole-set n block next more inside counted is_free chain = grind (arith, length-set, filled-set)

  -- the free ones are chained as before where a taken one is written
  still-chained : (n : ℕ) (block : WordBlock) → TakenBlock mark places n → IsFreeList mark (put places n block) (next_of free) listed
  still-chained n block t = chain-set mark places mark n (Some block) (omega arith) (next_of free) listed (λ k le. taken-unlisted mark places n t k) whole.chain

  -- the head is taken
  pub whole-take : (h : ℕ) (next : Link) (block : WordBlock) → next_of free ≡ Some h → IsLink block.link true None → next ≡ link_in places h → IsWholeWith h block next (listed - 1)
  whole-take h next block is link is_next =
      let t = listed-head h is in
      let chain = listed-from h is in
      let behind = behind-head mark places h listed chain in
      let free_there = head-is_free mark places h t in
      let more : taken_in mark (put places h block) ≡ taken_count region + 1 =
      ap taken_count (entries-write mark places h block None t.marked link) ∙ taken_count-take region h (linked block None) free_there.0 free_there.1 in
      let kept = chain-set mark places mark h (Some block) (omega arith) (next_of (link_in places h)) (listed - 1)
      (λ k le c. (let same = one-length mark places (Some h) k listed c chain in absurd (omega (arith, same, behind.0)))) behind.2 in
      whole-set h block next (listed - 1) t.below (omega (arith, whole.counted, more, behind.0)) (rw is_next behind.1) (rw is_next kept)

  -- the block at the mark is taken
  pub whole-mark : (block : WordBlock) → mark < count → IsLink block.link true None → IsWhole (put places mark block) count (mark + 1) free listed
  whole-mark block below link =
      let inside : mark < length places = omega (arith, below, whole.all_places) in
      let free_there = mark-is_free mark places inside in
      let more : taken_in (mark + 1) (put places mark block) ≡ taken_count region + 1 =
      ap taken_count (entries-mark mark places block None link) ∙ taken_count-take region mark (linked block None) free_there.0 free_there.1 in
      record {
        all_places = omega (arith, whole.all_places, length-set places mark (Some block));
        in_limits = whole.in_limits;
        below = omega arith;
        filled = λ m less. filled-set places mark block inside m (λ other. whole.filled m (omega (arith, less, other)));
        counted = omega (arith, whole.counted, more);
        is_free = whole.is_free;
        chain = chain-set mark places (mark + 1) mark (Some block) (omega arith) (next_of free) listed (λ k le. mark-unlisted mark places k) whole.chain;
      }

  -- a block that was taken becomes the head
  pub whole-give : (n : ℕ) (next : Link) (block : WordBlock) → IsTaken region n → block.link ≡ free → IsLink next false (Some n) → IsWholeWith n block next (listed + 1)
  whole-give n next block taken link is_next =
      let t = taken-block mark places n taken in
      let after : WordPlaces = put places n block in
      let less : taken_in mark after + 1 ≡ taken_count region =
      ap (λ r. taken_count r + 1) (entries-free mark places n block taken (rw link whole.is_free)) ∙ taken_count-give region n taken in
      let here : link_in after n ≡ free = ap place_link (get_or-set_same places n (Some block) None t.below) ∙ link in
      let all : IsFreeList mark after (Some n) (suc listed) =
      subst (λ (l : Link). (n < mark) × (l.taken ≡ false) × IsFreeList mark after (next_of l) listed) (sym here) (t.marked, whole.is_free, still-chained n block t) in
      let one : suc listed ≡ listed + 1 = omega arith in
      whole-set n block next (listed + 1) t.below (omega (arith, whole.counted, less)) is_next.0 (rw is_next.1 (subst (λ (k : ℕ). IsFreeList mark after (Some n) k) one all))

  -- the last block below the mark is given back
  pub whole-less : (n : ℕ) → IsTaken region n → n + 1 ≡ mark → IsWhole places count n free listed
  whole-less n taken last =
      let t = taken-block mark places n taken in
      let less : taken_in n places + 1 ≡ taken_count region = ap (λ r. taken_count r + 1) (entries-less mark places n last) ∙ taken_count-give region n taken in
      record {
        all_places = whole.all_places;
        in_limits = whole.in_limits;
        below = omega (arith, whole.below, last);
        filled = λ m less. whole.filled m (omega (arith, less, last));
        counted = omega (arith, whole.counted, less, last);
        is_free = whole.is_free;
        chain = chain-keeps mark places n places n (λ h below other. (omega (arith, below, other, last), refl)) (next_of free) listed (λ k le. taken-unlisted mark places n t k) whole.chain;
      }

  -- a taken block is written, and stays taken
  pub whole-write : (n : ℕ) (block : WordBlock) (next : Option ℕ) → IsTaken region n → IsLink block.link true next → IsWholeWith n block free listed
  whole-write n block next taken link =
      let t = taken-block mark places n taken in
      let same : taken_in mark (put places n block) ≡ taken_count region =
      ap taken_count (entries-write mark places n block next t.marked link) ∙ taken_count-write region n (linked block next) taken in
      whole-set n block free listed t.below (omega (arith, whole.counted, same)) whole.is_free (still-chained n block t)

  -- the words of a block are written, whether it is taken or free
  pub whole-words : (n : ℕ) (block : WordBlock) (words : List ℕ) → n < mark → get_or places n None ≡ Some block → IsWholeWith n (with_block_words block words) free listed
  whole-words n block words below is =
      let inside : n < length places = omega (arith, below, whole.below, whole.all_places) in
      whole-set n (with_block_words block words) free listed inside (omega (arith, whole.counted, words-set places n block words is mark below inside)) whole.is_free
      (chain-same mark places (put places n (with_block_words block words)) (words-link places n block words is) (next_of free) listed whole.chain)

  -- all are taken where no free block is chained and the mark is at the end
  pub none-free : next_of free ≡ None → count ≤ mark → taken_count region ≡ length region
  none-free no_next no_more = grind (arith, no-head, length-segments_of_blocks)

-- and while one is free not all are
pub some-free : (region : Segments) (n : ℕ) → IsFree region n → taken_count region ≡ length region → ⊥
some-free region n free all = grind (arith, taken_count-take region n blank, taken_count-le-length, length-set)

-- none is taken at first
module _ (places : WordPlaces) (count : ℕ) (are : places ≡ replicate count None) where
  pub first-entries : segments_of_blocks 0 places ≡ replicate count None
  first-entries = grind (arith, segments_of_blocks-none, length-replicate)

  pub first-whole : (free : Link) → count ≤ 65536 → IsLink free false None → IsWhole places count 0 free 0
  first-whole free in_limits link = grind (arith, first-entries, taken_count-replicate, length-replicate)
