-- A chain of new segments for a node of the cactus stack, made from its end to its front.
use Rattle.cactus_stack.proofs.Common.{◌≡◌, ℕ, zero, suc, ◌-◌, ◌*◌, ◌<◌, ◌≤◌, min, List, [], ◌∷◌, ◌++◌, length, take, drop, replicate, Option, None, Some, IsSome, refl, ap, ◌∙◌, arith, get_or-set_other, get_or-set_same, ◌≢◌, ◌+◌, get_or, sym, subst, set, length-append, append_assoc, length-set, set-set, length-replicate, drop-replicate, replicate-append-replicate, take_all, take-append-drop, length-take-le, length-drop, drop_all, append-nil, Segment, Segments, segment_at, words_at, link_at, link_of, IsTaken, IsFree, blank, with_entry, with_segment_words, with_link, taken_count-take, lt-of-IsTaken, taken_count-write, taken_count-give, chain, Lacks, AgreesOn, IsFreshChain, filled, content, AreApart, AllBlocks, IsChain, IsGrownChain, IsGivenBack}
use Rattle.cactus_stack.proofs.Content.{chain-agrees, content-agrees, blocks-agrees, agrees-set, lacks-taken, lacks-get_or, apart-get_or, apart-sym, once-append, agrees-taken, apart-free, content-append, blocks-append, blocks-get_or, content-link, blocks-link}

-- a segment is taken, filled and linked
module _ (old : Segments) (n : ℕ) (words : List ℕ) (link : Option ℕ) (free : IsFree old n) where
  abbrev taken : Segments
  taken = with_entry old n (Some blank)

  pub fresh-segment-is-filled : with_link (with_segment_words taken n (words ++ drop (length words) (words_at taken n))) n link ≡ with_entry old n (Some (filled words link))
  fresh-segment-is-filled =
      let first : segment_at taken n ≡ Some blank = get_or-set_same old n (Some blank) None free.0 in
      let zeros : drop (length words) (words_at taken n) ≡ replicate (16 - length words) 0 = rw first (drop-replicate (length words) 16 0) in
      let entry : Option Segment = Some (filled words None) in
      let second : segment_at (set old n entry) n ≡ entry = get_or-set_same old n entry None free.0 in
      rw (zeros, first, set-set old n (Some blank) entry, second, set-set old n entry (Some (filled words link))) refl

-- words, then zeros up to this many
abbrev up_to_zeros : List ℕ → ℕ → List ℕ
up_to_zeros words count = words ++ replicate (count - length words) 0

padded-twice : (words : List ℕ) (cut count : ℕ) → cut ≡ min (length words) 16 → length words ≤ 16 * suc count →
    up_to_zeros (take cut words) 16 ++ up_to_zeros (drop cut words) (16 * count) ≡ up_to_zeros words (16 * suc count)
padded-twice words cut count is room =
    grind (arith, take_all, drop_all, append_assoc, replicate-append-replicate, length-take-le, length-drop, append-nil, take-append-drop)

still-free : (old mid : Option Segment) → (IsSome old → mid ≡ old) → mid ≡ None → old ≡ None
still-free old mid h3 h4 = grind arith

other-than-free : (region : Segments) (s n : ℕ) → IsTaken region s → segment_at region n ≡ None → s ≢ n
other-than-free region s n taken free = λ e. (let none : segment_at region s ≡ None = rw e free in absurd (cc (taken, none)))

module _ (old mid : Segments) (rest : Option ℕ) (n : ℕ) (words : List ℕ) (cut : ℕ) (is : cut ≡ min (length words) 16) (free : IsFree mid n) where
  abbrev entry : Option Segment
  entry = Some (filled (take cut words) rest)

  abbrev linked : Segments
  linked = set mid n entry

  -- a chain that was made goes on at its front with a segment more
  fresh-chain-is-longer : (count : ℕ) → length words ≤ 16 * suc count → IsFreshChain old mid (chain count mid rest) (drop cut words) count →
      IsFreshChain old linked (chain (suc count) linked (Some n)) words (suc count)
  fresh-chain-is-longer count room fresh =
      let new : Segments = linked in
      let xs : List ℕ = chain count mid rest in
      let here : segment_at new n ≡ entry = get_or-set_same mid n entry None free.0 in
      let link : link_at new n ≡ rest = ap link_of here in
      let lacks : Lacks xs n = lacks-taken mid n xs free.1 fresh.is_chain.blocks in
      let agrees : AgreesOn mid new xs = agrees-set mid n entry xs lacks in
      let segments : chain (suc count) new (Some n) ≡ n ∷ xs = ap (λ (tail : List ℕ). n ∷ tail) (rw link (chain-agrees count mid new rest agrees)) in
      let cut_length : length (take cut words) ≤ 16 = omega (arith, length-take-le cut words (omega (arith, is)), is) in
      let sixteen : length (up_to_zeros (take cut words) 16) ≡ 16 = omega (arith, cut_length, length-append {A = ℕ}, length-replicate {A = ℕ}) in
      rw segments (record {
        same_count = length-set mid n entry ∙ fresh.same_count;
        counted = omega (arith, taken_count-take mid n (filled (take cut words) rest) free.0 free.1, fresh.counted);
        kept = λ s taken. get_or-set_other mid n s entry None (other-than-free mid s n (rw (fresh.kept s taken) taken) free.1) ∙ fresh.kept s taken;
        is_chain = grind (arith, blocks-agrees);
        were_free = ((rw (← fresh.same_count) free.0, still-free (segment_at old n) (segment_at mid n) (fresh.kept n) free.1), fresh.were_free);
        holds = rw (here, content-agrees mid new xs agrees, fresh.holds) (padded-twice words cut count is room);
      })

  -- the same, where the count is given as one number
  pub fresh-chain-grows : (new : Segments) (count : ℕ) → 0 < count → length words ≤ 16 * count → IsFreshChain old mid (chain (count - 1) mid rest) (drop cut words) (count - 1) →
      new ≡ linked → IsFreshChain old new (chain count new (Some n)) words count
  fresh-chain-grows new zero some room fresh after = absurd (omega arith)
  fresh-chain-grows new (suc count) some room fresh after =
      let less : suc count - 1 ≡ count = omega arith in
      rw after (fresh-chain-is-longer count room (rw less at fresh))

-- a chain of one segment
pub fresh-chain-of-one : (old new : Segments) (n : ℕ) (words : List ℕ) → length words ≤ 16 → IsFree old n → new ≡ set old n (Some (filled words None)) →
    IsFreshChain old new (chain 1 new (Some n)) words 1
fresh-chain-of-one old new n words short free after =
    let front : take (length words) words ≡ words = take_all (length words) words (omega arith) in
    let back : drop (length words) words ≡ [] = drop_all (length words) words (omega arith) in
    let nothing : IsFreshChain old old [] [] 0 = grind arith in
    fresh-chain-grows old old None n words (length words) (omega (arith, short)) free new 1 (omega arith) (omega (arith, short)) (rw back nothing) (rw front after)

-- A chain that is made longer, and one that is given back.

-- the chain behind the first segment goes on at its last, so the whole does
chain-link-behind : (count more : ℕ) (region : Segments) (first : ℕ) (tail next : Option ℕ) → link_at region first ≡ tail → IsChain region (first ∷ chain (suc count) region tail) (suc (suc count)) →
    ((t : ℕ) → IsChain region (chain (suc count) region (Some t)) (suc count) →
    chain (suc count + more) (with_link region (get_or (chain (suc count) region (Some t)) count 0) next) (Some t)
    ≡ chain (suc count) region (Some t) ++ chain more (with_link region (get_or (chain (suc count) region (Some t)) count 0) next) next) →
    chain (suc (suc count) + more) (with_link region (get_or (chain (suc count) region tail) count 0) next) (Some first)
    ≡ first ∷ (chain (suc count) region tail ++ chain more (with_link region (get_or (chain (suc count) region tail) count 0) next) next)
chain-link-behind count more region first None next link is behind = absurd (omega (arith, is.whole))
chain-link-behind count more region first (Some t) next link is behind =
    let xs : List ℕ = chain (suc count) region (Some t) in
    let last : ℕ = get_or xs count 0 in
    let new : Segments = with_link region last next in
    let whole : length xs ≡ suc count = omega (arith, is.whole) in
    let other : first ≢ last = λ e. lacks-get_or xs first count is.once.0 (omega (arith, whole)) (sym e) in
    let kept : link_at new first ≡ Some t = ap link_of (get_or-set_other region last first (Some (record { words = words_at region last; link = next })) None other) ∙ link in
    let one : suc (suc count) + more ≡ suc (suc count + more) = omega arith in
    rw one (ap (λ (rest : List ℕ). first ∷ rest)
    (ap (λ (head : Option ℕ). chain (suc count + more) new head) kept
    ∙ behind t (record { blocks = is.blocks.2; whole = whole; once = is.once.1 })))

-- at the last segment of a chain, whose link is set, it goes on with what the link leads to
chain-link : (count more : ℕ) (region : Segments) (first : ℕ) (next : Option ℕ) → IsChain region (chain (suc count) region (Some first)) (suc count) →
    chain (suc count + more) (with_link region (get_or (chain (suc count) region (Some first)) count 0) next) (Some first)
    ≡ chain (suc count) region (Some first) ++ chain more (with_link region (get_or (chain (suc count) region (Some first)) count 0) next) next
chain-link zero more region first next is =
    let entry : Option Segment = Some (record { words = words_at region first; link = next }) in
    let here : segment_at (set region first entry) first ≡ entry = get_or-set_same region first entry None (lt-of-IsTaken region first is.blocks.0) in
    let one : 1 + more ≡ suc more = omega arith in
    rw one (ap (λ (head : Option ℕ). first ∷ chain more (set region first entry) head) (ap link_of here))
chain-link (suc count) more region first next is =
    chain-link-behind count more region first (link_at region first) next refl is (λ t. chain-link count more region t next)

module _ (old mid : Segments) (first more : ℕ) (fresh : Option ℕ) (made : IsFreshChain old mid (chain more mid fresh) [] more) where
  -- the chain before, and its last segment
  abbrev front : ℕ → List ℕ
  front count = chain count old (Some first)

  abbrev last_of : ℕ → ℕ
  last_of count = get_or (front (suc count)) count 0

  abbrev longer : ℕ → Segments → List ℕ
  longer count new = chain (count + more) new (Some first)

  -- a chain goes on with a new one at its last segment
  chain-is-grown : (count : ℕ) → IsChain old (front (suc count)) (suc count) →
      IsGrownChain old (with_link mid (last_of count) fresh) (front (suc count)) (longer (suc count) (with_link mid (last_of count) fresh)) more
  chain-is-grown count is =
      let xs : List ℕ = front (suc count) in
      let ys : List ℕ = chain more mid fresh in
      let last : ℕ = last_of count in
      let new : Segments = with_link mid last fresh in
      let entry : Option Segment = Some (record { words = words_at mid last; link = fresh }) in
      let agrees : AgreesOn old mid xs = agrees-taken old mid xs made.kept is.blocks in
      let same : chain (suc count) mid (Some first) ≡ xs = chain-agrees (suc count) old mid (Some first) agrees in
      let blocks : AllBlocks mid xs = blocks-agrees old mid xs agrees is.blocks in
      let mid_chain : IsChain mid (chain (suc count) mid (Some first)) (suc count) = rw same (record { blocks = blocks; whole = is.whole; once = is.once }) in
      let within : count < length xs = omega (arith, is.whole) in
      let apart : AreApart xs ys = apart-free old xs ys is.blocks made.were_free in
      let lacks : Lacks ys last = apart-get_or ys xs count (apart-sym xs ys apart) within in
      let tail : chain more new fresh ≡ ys = chain-agrees more mid new fresh (agrees-set mid last entry ys lacks) in
      let at : List ℕ → Type 0 = λ zs. longer (suc count) (with_link mid (get_or zs count 0) fresh) ≡ zs ++ chain more (with_link mid (get_or zs count 0) fresh) fresh in
      let goes_on : at xs = subst at same (chain-link count more mid first fresh mid_chain) in
      let joined : longer (suc count) new ≡ xs ++ ys = goes_on ∙ ap (λ (zs : List ℕ). xs ++ zs) tail in
      let zeros : replicate (16 * more - 0) 0 ≡ replicate (16 * more) 0 = ap (λ (n : ℕ). replicate n 0) (omega arith) in
      rw joined (record {
        same_count = length-set mid last entry ∙ made.same_count;
        counted = taken_count-write mid last _ (blocks-get_or mid xs count blocks within).0 ∙ made.counted;
        kept = λ s taken lacking. get_or-set_other mid last s entry None (λ e. lacks-get_or xs s count lacking within (sym e)) ∙ made.kept s taken;
        added = ys;
        joined = refl;
        were_free = made.were_free;
        is_chain = record {
          blocks = blocks-append new xs ys (blocks-link mid xs last fresh blocks) (blocks-link mid ys last fresh made.is_chain.blocks);
          whole = omega (arith, length-append xs ys, is.whole, made.is_chain.whole);
          once = once-append xs ys is.once made.is_chain.once apart;
        };
        holds = rw (content-append new xs ys, content-link mid xs last fresh, content-link mid ys last fresh, content-agrees old mid xs agrees, made.holds)
            (ap (λ (zs : List ℕ). content old xs ++ zs) zeros);
      })

  -- the same, where the count is given as one number
  pub chain-grows : (new : Segments) (last count : ℕ) → 0 < count → IsChain old (front count) count → last ≡ last_of (count - 1) → new ≡ with_link mid last fresh →
      IsGrownChain old new (front count) (longer count new) more
  chain-grows new last zero some is at after = absurd (omega arith)
  chain-grows new last (suc count) some is at after =
      let less : suc count - 1 ≡ count = omega arith in
      let place : last ≡ last_of count = rw less at at in
      rw (after, place) (chain-is-grown count is)

  -- its last segment is still taken when the new ones are there
  pub last_is-taken : (last count : ℕ) → 0 < count → IsChain old (front count) count → last ≡ last_of (count - 1) → IsTaken mid last
  last_is-taken last zero some is at = absurd (omega arith)
  last_is-taken last (suc count) some is at = grind (arith, blocks-get_or)

-- a chain is given back from its front
pub give-rest : (old : Segments) (n count : ℕ) → IsChain old (n ∷ chain count old (link_at old n)) (suc count) →
    (chain count (set old n None) (link_at old n) ≡ chain count old (link_at old n)) × IsChain (set old n None) (chain count (set old n None) (link_at old n)) count
give-rest old n count is = grind (arith, agrees-set, chain-agrees, blocks-agrees)

pub given-back : (old new : Segments) (n : ℕ) (xs : List ℕ) → IsTaken old n → IsGivenBack (set old n None) new xs → IsGivenBack old new (n ∷ xs)
given-back old new n xs taken given = grind (arith, length-set, taken_count-give, get_or-set_other)

-- both, where the count is given as one number
module _ (old : Segments) (n : ℕ) {mid : Segments} {first next : Option ℕ} (is_first : first ≡ Some n) (link : next ≡ link_at old n) (after : mid ≡ set old n None) where
  pub give-rest-of : (count : ℕ) → 0 < count → IsChain old (chain count old first) count → IsChain mid (chain (count - 1) mid next) (count - 1)
  give-rest-of count some is = grind (arith, give-rest)

  pub given-back-of : (new : Segments) (count : ℕ) → 0 < count → IsChain old (chain count old first) count → IsGivenBack mid new (chain (count - 1) mid next) → IsGivenBack old new (chain count old first)
  given-back-of new zero some is given = absurd (omega arith)
  given-back-of new (suc count) some is given =
      let less : suc count - 1 ≡ count = omega arith in
      let whole : IsChain old (n ∷ chain count old (link_at old n)) (suc count) = rw is_first at is in
      let rest : IsGivenBack (set old n None) new (chain count old (link_at old n)) = rw (less, link, after, (give-rest old n count whole).0) at given in
      rw is_first (given-back old new n (chain count old (link_at old n)) whole.blocks.0 rest)
